-- What an act does to each directory.
use Rattle.std.proofs.Common.{◌≡◌, inl, inr, ℕ, List, refl, sym, ◌∙◌, ap, subst, IsTrue, Bool, Option, Some, None, Result, Ok, Err}
use Rattle.bec_disk.specs.Disk.{DiskState}
use Rattle.bec_disk.specs.declared.part.Part.TheVariants.{Key, Used}
use Rattle.bec_disk.specs.Shelf.{PartState, ShelfState, stands}
use Rattle.bec_disk.specs.Slot.{slot}
use Rattle.lms_tree.specs.SecretKey.{SecretData}
use Rattle.key_index.specs.KeyState.{KeyState}
use Rattle.key_index.specs.Lives.{IsThere}
use Rattle.key_index.specs.Opening.{AreOfKey}
use Rattle.key_index.specs.Reserving.{Reserves}
use Rattle.key_index.specs.declared.reserve.Reserve.{Reserve}
use Rattle.key_directory.specs.Keys.{LetsKeyGo, MakesKey, PutsKey, ReadsAsKey, TakesKey}
use Rattle.key_directory.specs.Parts.{LetsNewGo, part_in, reading}
use Rattle.hss_directory.specs.Values.{IsReadable}
use Rattle.seal_laws.specs.Acts.{Acts, IndexUse, fails, makes, makes_none, only_reads, puts_back, signs, takes, takes_none, touches_peers}
use Rattle.seal_laws.specs.Histories.{AreApart, Has}
use Rattle.seal_laws.specs.Worlds.{HoldsSame, NowHolds, World}
use Rattle.seal_laws.proofs.Parts.{Goes, IsWell, StaysIn, goes_back, goes_made, goes_read, goes_same, goes_taken, goes_tried, goes_unmade, held_there, signed_stays}
use Rattle.seal_laws.proofs.Places.{at_each, keys_alone}

abbrev pub GoesAt : World → World → List ℕ → Type 0
GoesAt old new dir = Goes (old.held dir) (part_in old.shelf dir Key) (part_in old.shelf dir Used) (new.held dir) (part_in new.shelf dir Key) (part_in new.shelf dir Used)

abbrev pub IsWellAt : World → List ℕ → Type 0
IsWellAt world dir = IsWell (world.held dir) (part_in world.shelf dir Key) (part_in world.shelf dir Used)

abbrev pub StaysAt : ℕ → World → List ℕ → Type 0
StaysAt index world dir = StaysIn index (world.held dir) (part_in world.shelf dir Key) (part_in world.shelf dir Used)

-- where that is what is open before and afterwards
held_here : (old new : World) (dir : List ℕ) (was is : Option KeyState) → old.held dir ≡ was → new.held dir ≡ is
    → Goes was (part_in old.shelf dir Key) (part_in old.shelf dir Used) is (part_in new.shelf dir Key) (part_in new.shelf dir Used) → GoesAt old new dir
held_here old new dir was is before after goes =
    subst (λ (h : Option KeyState). Goes h (part_in old.shelf dir Key) (part_in old.shelf dir Used) (new.held dir) (part_in new.shelf dir Key) (part_in new.shelf dir Used)) (sym before)
    (subst (λ (h : Option KeyState). Goes was (part_in old.shelf dir Key) (part_in old.shelf dir Used) h (part_in new.shelf dir Key) (part_in new.shelf dir Used)) (sym after) goes)

goes_else : (old new : World) (dir : List ℕ) → new.held dir ≡ old.held dir → (part_in new.shelf dir Key ≡ part_in old.shelf dir Key) × (part_in new.shelf dir Used ≡ part_in old.shelf dir Used) → GoesAt old new dir
goes_else old new dir held same =
    goes_same (old.held dir) (new.held dir) (part_in old.shelf dir Key) (part_in new.shelf dir Key) (part_in old.shelf dir Used) (part_in new.shelf dir Used) held same.0 same.1

-- ---- one act after another

taken_there : (before after : ShelfState) (dir : List ℕ) (key : KeyState) → TakesKey before dir key after → IsTrue before.tells → IsThere key.parts.key.seen
taken_there before after dir key taking tells =
    let k = taking.key_part tells in
    let u = taking.used_part tells in
    let reads : ReadsAsKey (reading (stands k.0)) (reading (stands u.0)) key.secret =
    subst (λ (p : PartState). ReadsAsKey (reading p) (reading (stands u.0)) key.secret) k.1
    (subst (λ (p : PartState). ReadsAsKey (reading (part_in before dir Key)) (reading p) key.secret) u.1 (taking.reads tells)) in
    let of_key : AreOfKey k.0.seen u.0.seen key.secret = reads in
    subst (λ (d : DiskState). IsThere d.seen) (sym k.2) (held_there of_key.holds.payload k.0.seen of_key.holds.whole)

took : (old new : World) (dir : List ℕ) (key : KeyState) → IsTrue old.shelf.tells → old.held dir ≡ None → TakesKey old.shelf dir key new.shelf → NowHolds old dir (Some key) new
    → (other : List ℕ) → GoesAt old new other
took old new dir key tells closed taking now =
    let k = taking.key_part tells in
    let u = taking.used_part tells in
    at_each dir (GoesAt old new)
    (held_here old new dir None (Some key) closed now.here
    (goes_taken key (part_in old.shelf dir Key) (part_in new.shelf dir Key) (part_in old.shelf dir Used) (part_in new.shelf dir Used)
    (record { place = slot dir Key; part = k.0; stood = k.1; handed = k.2 }) (record { place = slot dir Used; part = u.0; stood = u.1; handed = u.2 })
    (taken_there old.shelf new.shelf dir key taking tells) (taking.key_out tells) (taking.used_out tells)))
    (λ other ne. goes_else old new other (now.others other ne) (keys_alone old.shelf new.shelf dir other taking.others ne))

took_none : (old new : World) (dir : List ℕ) → IsTrue old.shelf.tells → LetsKeyGo old.shelf dir new.shelf → HoldsSame old new → (other : List ℕ) → GoesAt old new other
took_none old new dir tells lets held =
    at_each dir (GoesAt old new)
    (held_here old new dir (old.held dir) (old.held dir) refl (held dir)
    (goes_read (old.held dir) (part_in old.shelf dir Key) (part_in new.shelf dir Key) (part_in old.shelf dir Used) (part_in new.shelf dir Used) (lets.key_part tells) (lets.used_part tells)))
    (λ other ne. goes_else old new other (held other) (keys_alone old.shelf new.shelf dir other (lets.others tells) ne))

made : (old new : World) (dir : List ℕ) (key : KeyState) (secret : SecretData) → IsTrue old.shelf.tells → old.held dir ≡ None → MakesKey secret old.shelf dir key new.shelf → NowHolds old dir (Some key) new
    → (other : List ℕ) → GoesAt old new other
made old new dir key secret tells closed making now =
    let c = making.created tells in
    at_each dir (GoesAt old new)
    (held_here old new dir None (Some key) closed now.here
    (goes_made secret key c.0 (slot dir Key) (part_in old.shelf dir Key) (part_in new.shelf dir Key) (part_in old.shelf dir Used) (part_in new.shelf dir Used) c.1 c.3
    (subst (λ (b : Bool). IsTrue b) (sym making.key_tells) tells) (subst (λ (b : Bool). IsTrue b) (sym making.used_tells) tells) (making.key_out tells) (making.used_out tells)))
    (λ other ne. goes_else old new other (now.others other ne) (keys_alone old.shelf new.shelf dir other making.others ne))

made_none : (old new : World) (dir payload filling : List ℕ) → IsTrue old.shelf.tells → old.held dir ≡ None → LetsNewGo Key Used payload filling old.shelf dir new.shelf → HoldsSame old new
    → (other : List ℕ) → GoesAt old new other
made_none old new dir payload filling tells closed lets held =
    at_each dir (GoesAt old new)
    (held_here old new dir None None closed (held dir ∙ closed)
    (goes_unmade (part_in old.shelf dir Key) (part_in new.shelf dir Key) (part_in old.shelf dir Used) (part_in new.shelf dir Used) (lets.there tells)))
    (λ other ne. goes_else old new other (held other) (keys_alone old.shelf new.shelf dir other (lets.others tells) ne))

tried : (old new : World) (dir : List ℕ) (key next : KeyState) (result : Result ℕ Reserve) → old.held dir ≡ Some key → Reserves key result next → NowHolds old dir (Some next) new → new.shelf ≡ old.shelf
    → (other : List ℕ) → GoesAt old new other
tried old new dir key next result held reserves now same =
    at_each dir (GoesAt old new)
    (held_here old new dir (Some key) (Some next) held now.here
    (goes_tried key next result (part_in old.shelf dir Key) (part_in new.shelf dir Key) (part_in old.shelf dir Used) (part_in new.shelf dir Used) reserves
    (ap (λ (s : ShelfState). part_in s dir Key) same) (ap (λ (s : ShelfState). part_in s dir Used) same)))
    (λ other ne. goes_else old new other (now.others other ne) (ap (λ (s : ShelfState). part_in s other Key) same, ap (λ (s : ShelfState). part_in s other Used) same))

put : (old new : World) (dir : List ℕ) (key : KeyState) → IsTrue old.shelf.tells → old.held dir ≡ Some key → PutsKey old.shelf dir key.parts new.shelf → IsReadable key → NowHolds old dir None new
    → (other : List ℕ) → GoesAt old new other
put old new dir key tells held puts readable now =
    at_each dir (GoesAt old new)
    (held_here old new dir (Some key) None held now.here
    (goes_back key (part_in old.shelf dir Key) (part_in new.shelf dir Key) (part_in old.shelf dir Used) (part_in new.shelf dir Used) (puts.key_back tells) (puts.used_back tells) readable))
    (λ other ne. goes_else old new other (now.others other ne) (keys_alone old.shelf new.shelf dir other (puts.others tells) ne))

pub acts_go : (old new : World) (uses : List IndexUse) → Acts old uses new → IsTrue old.shelf.tells → (dir : List ℕ) → GoesAt old new dir
acts_go old new uses (takes was is dir key closed taking now) tells = took was is dir key tells closed taking now
acts_go old new uses (takes_none was is dir closed lets held) tells = took_none was is dir tells lets held
acts_go old new uses (makes was is dir key secret closed making now) tells = made was is dir key secret tells closed making now
acts_go old new uses (makes_none was is dir payload filling closed lets held) tells = made_none was is dir payload filling tells closed lets held
acts_go old new uses (signs was is dir key next index message held reserves now same) tells = tried was is dir key next (Ok index) held reserves now same
acts_go old new uses (fails was is dir key next why held reserves now same) tells = tried was is dir key next (Err why) held reserves now same
acts_go old new uses (puts_back was is dir key held puts readable now) tells = put was is dir key tells held puts readable now
acts_go old new uses (touches_peers was is here touches held) tells = λ dir.
    goes_else was is dir (held dir) (touches.others tells (slot dir Key) refl, touches.others tells (slot dir Used) refl)
acts_go old new uses (only_reads was is reads held) tells = λ dir.
    held_here was is dir (was.held dir) (was.held dir) refl (held dir)
    (goes_read (was.held dir) (part_in was.shelf dir Key) (part_in is.shelf dir Key) (part_in was.shelf dir Used) (part_in is.shelf dir Used) (reads.parts tells (slot dir Key)) (reads.parts tells (slot dir Used)))

tells_by : (old new : ShelfState) → new.tells ≡ old.tells → IsTrue old.tells → IsTrue new.tells
tells_by old new same tells = subst (λ (b : Bool). IsTrue b) (sym same) tells

pub acts_tell : (old new : World) (uses : List IndexUse) → Acts old uses new → IsTrue old.shelf.tells → IsTrue new.shelf.tells
acts_tell old new uses (takes was is dir key closed taking now) tells = tells_by was.shelf is.shelf taking.tells tells
acts_tell old new uses (takes_none was is dir closed lets held) tells = tells_by was.shelf is.shelf lets.tells tells
acts_tell old new uses (makes was is dir key secret closed making now) tells = tells_by was.shelf is.shelf making.tells tells
acts_tell old new uses (makes_none was is dir payload filling closed lets held) tells = tells_by was.shelf is.shelf lets.tells tells
acts_tell old new uses (signs was is dir key next index message held reserves now same) tells = tells_by was.shelf is.shelf (ap (λ (s : ShelfState). s.tells) same) tells
acts_tell old new uses (fails was is dir key next why held reserves now same) tells = tells_by was.shelf is.shelf (ap (λ (s : ShelfState). s.tells) same) tells
acts_tell old new uses (puts_back was is dir key held puts readable now) tells = tells_by was.shelf is.shelf puts.tells tells
acts_tell old new uses (touches_peers was is here touches held) tells = tells_by was.shelf is.shelf touches.tells tells
acts_tell old new uses (only_reads was is reads held) tells = tells_by was.shelf is.shelf reads.tells tells

-- ---- what signs

well_here : (world : World) (dir : List ℕ) (key : KeyState) → world.held dir ≡ Some key → IsWellAt world dir → IsWell (Some key) (part_in world.shelf dir Key) (part_in world.shelf dir Used)
well_here world dir key held well = subst (λ (h : Option KeyState). IsWell h (part_in world.shelf dir Key) (part_in world.shelf dir Used)) held well

stays_here : (index : ℕ) (world : World) (dir : List ℕ) (key : KeyState) → world.held dir ≡ Some key → StaysAt index world dir → StaysIn index (Some key) (part_in world.shelf dir Key) (part_in world.shelf dir Used)
stays_here index world dir key held stays = subst (λ (h : Option KeyState). StaysIn index h (part_in world.shelf dir Key) (part_in world.shelf dir Used)) held stays

-- an index that stays used signs nothing
pub acts_not_again : (old new : World) (uses : List IndexUse) (dir : List ℕ) (index : ℕ) → Acts old uses new → ((other : List ℕ) → IsWellAt old other) → StaysAt index old dir → Has uses dir index → ⊥
acts_not_again old new uses dir index (takes was is here key closed taking now) well stays has = has
acts_not_again old new uses dir index (takes_none was is here closed lets held) well stays has = has
acts_not_again old new uses dir index (makes was is here key secret closed making now) well stays has = has
acts_not_again old new uses dir index (makes_none was is here payload filling closed lets held) well stays has = has
acts_not_again old new uses dir index (signs was is here key next i message held reserves now same) well stays (inl this) =
    let stays_now : StaysAt index was here = subst (λ (d : List ℕ). StaysAt index was d) (sym this.0) stays in
    reserves.not_again (well_here was here key held (well here)).used_tells index (stays_here index was here key held stays_now).1 (ap (λ (k : ℕ). Ok k) this.1)
acts_not_again old new uses dir index (signs was is here key next i message held reserves now same) well stays (inr none) = none
acts_not_again old new uses dir index (fails was is here key next why held reserves now same) well stays has = has
acts_not_again old new uses dir index (puts_back was is here key held puts readable now) well stays has = has
acts_not_again old new uses dir index (touches_peers was is here touches held) well stays has = has
acts_not_again old new uses dir index (only_reads was is reads held) well stays has = has

-- one that signed stays used from then on
signed_here : (was is : World) (here dir : List ℕ) (key next : KeyState) (i index : ℕ) → was.held here ≡ Some key → Reserves key (Ok i) next → NowHolds was here (Some next) is → IsWellAt was here
    → here ≡ dir → i ≡ index → StaysAt index is dir
signed_here was is here dir key next i index held reserves now well same_dir same_index =
    let stays : StaysAt i is here =
    subst (λ (h : Option KeyState). StaysIn i h (part_in is.shelf here Key) (part_in is.shelf here Used)) (sym now.here)
    (signed_stays key next i (part_in was.shelf here Key) (part_in was.shelf here Used) reserves (well_here was here key held well)) in
    subst (λ (d : List ℕ). StaysAt index is d) same_dir (subst (λ (k : ℕ). StaysAt k is here) same_index stays)

pub acts_use : (old new : World) (uses : List IndexUse) (dir : List ℕ) (index : ℕ) → Acts old uses new → ((other : List ℕ) → IsWellAt old other) → Has uses dir index → StaysAt index new dir
acts_use old new uses dir index (takes was is here key closed taking now) well has = absurd has
acts_use old new uses dir index (takes_none was is here closed lets held) well has = absurd has
acts_use old new uses dir index (makes was is here key secret closed making now) well has = absurd has
acts_use old new uses dir index (makes_none was is here payload filling closed lets held) well has = absurd has
acts_use old new uses dir index (signs was is here key next i message held reserves now same) well (inl this) = signed_here was is here dir key next i index held reserves now (well here) this.0 this.1
acts_use old new uses dir index (signs was is here key next i message held reserves now same) well (inr none) = absurd none
acts_use old new uses dir index (fails was is here key next why held reserves now same) well has = absurd has
acts_use old new uses dir index (puts_back was is here key held puts readable now) well has = absurd has
acts_use old new uses dir index (touches_peers was is here touches held) well has = absurd has
acts_use old new uses dir index (only_reads was is reads held) well has = absurd has

pub acts_apart : (old new : World) (uses : List IndexUse) → Acts old uses new → AreApart uses
acts_apart old new uses (takes was is here key closed taking now) = tt
acts_apart old new uses (takes_none was is here closed lets held) = tt
acts_apart old new uses (makes was is here key secret closed making now) = tt
acts_apart old new uses (makes_none was is here payload filling closed lets held) = tt
acts_apart old new uses (signs was is here key next i message held reserves now same) = (λ none. none, tt)
acts_apart old new uses (fails was is here key next why held reserves now same) = tt
acts_apart old new uses (puts_back was is here key held puts readable now) = tt
acts_apart old new uses (touches_peers was is here touches held) = tt
acts_apart old new uses (only_reads was is reads held) = tt
