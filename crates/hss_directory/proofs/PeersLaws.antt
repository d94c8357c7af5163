-- What signatures do to the parts Peers.
use Rattle.std.proofs.Common.{◌≡◌, ◌≢◌, ◌⊎◌, inl, inr, ℕ, ◌<◌, ◌^◌, List, ◌++◌, refl, sym, ◌∙◌, ap, subst, arith, IsTrue, Some, None, Option}
use Rattle.std.specs.Prelude.{codes}
use Rattle.std.specs.Fmt.{decimal}
use Rattle.std.proofs.lemmas.Fmt.{decimal_injective}
use Rattle.std.proofs.lemmas.List.{append_cancel_left}
use Rattle.rand_core.specs.Stream.{Stream}
use Rattle.update_model.specs.declared.author_key.AuthorKey.{AuthorKey}
use Rattle.bec_disk.specs.declared.part.Part.TheVariants.{Peers}
use Rattle.bec_disk.specs.Shelf.{ShelfState}
use Rattle.bec_disk.specs.Slot.{same_slot, slot}
use Rattle.lm_ots.specs.declared.ots_type.OtsType.{OtsType}
use Rattle.lms_tree.specs.declared.lms_type.LmsType.{LmsType}
use Rattle.lms_tree.specs.SecretKey.{public_key}
use Rattle.key_index.specs.KeyState.{KeyState}
use Rattle.key_index.specs.Used.{least_unused}
use Rattle.key_directory.specs.Parts.{part_in}
use Rattle.key_directory.proofs.Putting.{told}
use Rattle.hss_directory.specs.Calls.{KeepsOrMakes, KeepsUnspent, PutsLower, Readies, RefusesToSign, Signs, not_ready, not_sealed}
use Rattle.hss_directory.specs.Lower.{LetsLowerGo, MakesLower, OpensNoLower, RefusesLower, TakesLower, VouchesNot, no_memory, no_vouching, not_made, not_taken, opens_none, opens_spent, refuses_key, top_spent, unsigned, unwritten}
use Rattle.hss_directory.specs.Peers.{WritesPeers}
use Rattle.hss_directory.specs.Values.{HssState, LowerState, low_dir}
use Rattle.hss_directory.specs.declared.fault.HssFault.{HssFault}
use Rattle.hss_directory.proofs.Held.{lower_tells as back_tells, shed_puts}
use Rattle.hss_directory.proofs.Keys.{lower_keeps, lower_tells}
use Rattle.hss_directory.proofs.Places.{off_place, one_false}

pub low_injective : (dir : List ℕ) (m n : ℕ) → m < 2 ^ 32 → n < 2 ^ 32 → low_dir dir m ≡ low_dir dir n → m ≡ n
unfolding low_dir
low_injective dir m n small small' e =
    decimal_injective m n (omega arith) (omega arith) (append_cancel_left (codes ".") (decimal m) (decimal n) (append_cancel_left dir (codes "." ++ decimal m) (codes "." ++ decimal n) e))

abbrev Same : List ℕ → ShelfState → ShelfState → Type 0
Same dir before after = part_in after dir Peers ≡ part_in before dir Peers

written : (payload low dir : List ℕ) (before after : ShelfState) → WritesPeers payload before low after → IsTrue before.tells → dir ≢ low → Same dir before after
written payload low dir before after writes tells ne =
    writes.others tells (slot dir Peers) (one_false (same_slot (slot low Peers) (slot dir Peers)) (off_place (slot low Peers) (slot dir Peers) (λ same. ne (ap (λ s. s.dir) same))))

put : (dir : List ℕ) (before after : ShelfState) (lower : Option LowerState) → PutsLower before lower after → IsTrue before.tells → Same dir before after
put dir before after None same tells = ap (λ (s : ShelfState). part_in s dir Peers) same
put dir before after (Some lower) puts tells = puts.others tells (slot dir Peers) refl

made : (random left : Stream) (before after : ShelfState) (dir other : List ℕ) (top new : KeyState) (lower : LowerState) → MakesLower random before dir top lower new after left → IsTrue before.tells
    → ((index : ℕ) → least_unused top.taken ≡ Some index → other ≢ low_dir dir index) → Same other before after
made random left before after dir other top new lower makes tells ne =
    let t = lower_tells top.secret.lms top.secret.ots random makes.between before makes.mid lower.dir lower.key makes.takes in
    let first : Same other before makes.mid = lower_keeps top.secret.lms top.secret.ots random makes.between before makes.mid lower.dir lower.key makes.takes tells (slot other Peers) refl in
    written _ lower.dir other makes.mid after makes.vouches.writes (told before.tells makes.mid.tells t tells) (λ same. ne lower.index makes.index (same ∙ makes.place)) ∙ first

let_go : (lms : LmsType) (ots : OtsType) (random left : Stream) (why : HssFault) (low dir : List ℕ) (before after : ShelfState) → LetsLowerGo lms ots random before low why after left → IsTrue before.tells → Same dir before after
let_go lms ots random left why low dir before after (not_taken goes cause same) tells = goes.others tells (slot dir Peers) refl
let_go lms ots random left why low dir before after (not_made mid goes none lets cause drawn) tells =
    lets.others (told before.tells mid.tells goes.tells tells) (slot dir Peers) refl ∙ goes.others tells (slot dir Peers) refl

opened : (lms : LmsType) (ots : OtsType) (random left : Stream) (why : HssFault) (low dir : List ℕ) (before after : ShelfState) → OpensNoLower lms ots random before low why after left → IsTrue before.tells → Same dir before after
opened lms ots random left why low dir before after (opens_none goes) tells = let_go lms ots random left why low dir before after goes tells
opened lms ots random left why low dir before after (opens_spent key mid is takes spent puts) tells =
    puts.others (told before.tells mid.tells (lower_tells lms ots random left before mid low key takes) tells) (slot dir Peers) refl
    ∙ lower_keeps lms ots random left before mid low key takes tells (slot dir Peers) refl

not_vouched : (random left : Stream) (why : HssFault) (low dir : List ℕ) (mid done : ShelfState) (top new : KeyState) (key : AuthorKey) → VouchesNot random mid low top key why new done left → IsTrue mid.tells → dir ≢ low
    → (done.tells ≡ mid.tells) × Same dir mid done
not_vouched random left why low dir mid done top new key (unsigned none same) tells ne = (ap (λ (s : ShelfState). s.tells) same, ap (λ (s : ShelfState). part_in s dir Peers) same)
not_vouched random left why low dir mid done top new key (unwritten sig signs is (inl same)) tells ne = (ap (λ (s : ShelfState). s.tells) same, ap (λ (s : ShelfState). part_in s dir Peers) same)
not_vouched random left why low dir mid done top new key (unwritten sig signs is (inr writes)) tells ne = (writes.tells, written _ low dir mid done writes tells ne)

refused : (random left : Stream) (why : HssFault) (before after : ShelfState) (dir other : List ℕ) (top new : KeyState) → RefusesLower random before dir top why new after left → IsTrue before.tells
    → ((index : ℕ) → least_unused top.taken ≡ Some index → other ≢ low_dir dir index) → Same other before after
refused random left why before after dir other top new (top_spent is spent same_top same drawn) tells ne = ap (λ (s : ShelfState). part_in s other Peers) same
refused random left why before after dir other top new (no_memory is same_top same drawn) tells ne = ap (λ (s : ShelfState). part_in s other Peers) same
refused random left why before after dir other top new (refuses_key index least opens same_top) tells ne = opened top.secret.lms top.secret.ots random left why (low_dir dir index) other before after opens tells
refused random left why before after dir other top new (no_vouching index key mid done between least takes has_left vouches puts) tells ne =
    let t1 : IsTrue mid.tells = told before.tells mid.tells (lower_tells top.secret.lms top.secret.ots random between before mid (low_dir dir index) key takes) tells in
    let v = not_vouched between left why (low_dir dir index) other mid done top new (public_key key.secret) vouches t1 (ne index least) in
    puts.others (told mid.tells done.tells v.0 t1) (slot other Peers) refl ∙ v.1
    ∙ lower_keeps top.secret.lms top.secret.ots random between before mid (low_dir dir index) key takes tells (slot other Peers) refl

readied : (random left : Stream) (before after : ShelfState) (old new : HssState) (other : List ℕ) → Readies random before old new after left → IsTrue before.tells
    → ((index : ℕ) → least_unused old.top.taken ≡ Some index → other ≢ low_dir old.dir index) → Same other before after
readied random left before after old new other readies tells ne = by readies.kept readies.keeps readies.ready
  where
    by : (kept : Option LowerState) → KeepsUnspent before old.lower kept readies.mid → KeepsOrMakes random readies.mid old kept new after left → Same other before after
    by None keeps (lower, is, makes) =
        let puts = shed_puts before readies.mid old.lower keeps in
        let t : IsTrue readies.mid.tells = told before.tells readies.mid.tells (back_tells before readies.mid old.lower puts) tells in
        made random left readies.mid after old.dir other old.top new.top lower makes t ne ∙ put other before readies.mid old.lower puts tells
    by (Some kept) keeps ready = ap (λ (s : ShelfState). part_in s other Peers) (ready.1 ∙ kept_same old.lower keeps)
      where
        kept_same : (lower : Option LowerState) → KeepsUnspent before lower (Some kept) readies.mid → readies.mid ≡ before
        kept_same None keeps = absurd keeps
        kept_same (Some lower) keeps = keeps.2

pub peers_made : (random left : Stream) (before after : ShelfState) (old new : HssState) (msg seal other : List ℕ) → Signs random before old msg seal new after left → IsTrue before.tells
    → ((index : ℕ) → least_unused old.top.taken ≡ Some index → other ≢ low_dir old.dir index) → Same other before after
peers_made random left before after old new msg seal other signs tells ne = readied random signs.between before after old signs.ready other signs.readies tells ne

pub peers_refused : (random left : Stream) (before after : ShelfState) (old new : HssState) (msg other : List ℕ) (why : HssFault) → RefusesToSign random before old msg why new after left → IsTrue before.tells
    → ((index : ℕ) → least_unused old.top.taken ≡ Some index → other ≢ low_dir old.dir index) → Same other before after
peers_refused random left before after old new msg other why (not_ready refuses) tells ne =
    let puts = shed_puts before refuses.mid old.lower refuses.keeps in
    let t : IsTrue refuses.mid.tells = told before.tells refuses.mid.tells (back_tells before refuses.mid old.lower puts) tells in
    refused random left why refuses.mid after old.dir other old.top new.top refuses.refuses t ne ∙ put other before refuses.mid old.lower puts tells
peers_refused random left before after old new msg other why (not_sealed ready between lower signed readies is none now) tells ne = readied random between before after old ready other readies tells ne
