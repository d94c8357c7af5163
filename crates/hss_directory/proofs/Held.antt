-- What a two-level key holds and what is known of it, through its calls.
use Rattle.std.proofs.Common.{◌≡◌, ◌≢◌, ◌⊎◌, inl, inr, ℕ, ◌<◌, ◌≤◌, ◌^◌, Bool, List, [], ◌∷◌, refl, sym, ◌∙◌, ap, subst, arith, IsTrue, Some, None, Option, Result, Ok, Err}
use Rattle.std.specs.Prelude.{IfErr, IfOk, IfSome}
use Rattle.rand_core.specs.Stream.{Stream}
use Rattle.bec_bytes.specs.Causes.{Rose}
use Rattle.bec_disk.specs.declared.part.Part.TheVariants.{Key, Used, Peers}
use Rattle.bec_disk.specs.Disk.{DiskState}
use Rattle.bec_disk.specs.Shelf.{ShelfState, out}
use Rattle.lms_tree.specs.SecretKey.{SecretData, public_key}
use Rattle.lms_tree.specs.Signature.{Signed}
use Rattle.key_index.specs.KeyState.{KeyState}
use Rattle.key_index.specs.Reserving.{Reserves}
use Rattle.key_index.specs.declared.reserve.Reserve.{Reserve}
use Rattle.key_index.specs.declared.reserve.Reserve.TheVariants as reserve
use Rattle.key_directory.specs.Keys.{PutsKey}
use Rattle.key_directory.specs.Parts.{part_in}
use Rattle.key_directory.proofs.Places.{stands-not-out}
use Rattle.key_directory.proofs.Putting.{told}
use Rattle.hss_chain.specs.Keys.{key_bytes}
use Rattle.hss_directory.specs.Calls.{BeginsHss, CreatesHss, EndsHss, KeepsHss, KeepsUnspent, OpensHss, PutsHss, PutsLower, RefusesToReady, SealsBy, SealsNone, hss_of, unjoined, unsigned as seals_unsigned}
use Rattle.hss_directory.specs.Places.{AreHome, AreIn, AreLowersIn, Holds, HoldsKey, HoldsLower, KeepsElse}
use Rattle.hss_directory.specs.Signing.{SignsBy, SignsNone}
use Rattle.hss_directory.specs.Values.{HasLeft, HssState, IsCurrent, IsSound, LowerState, low_dir}
use Rattle.hss_directory.specs.declared.fault.HssFault.{HssFault}
use Rattle.hss_directory.specs.declared.fault.HssFault.TheVariants.{Disk, KeyThere, NoKey, BadKey, Spent, Memory}
use Rattle.hss_directory.specs.Lower.{MakesLower}
use Rattle.hss_directory.proofs.Keys.{holds_made, holds_taken, lower_tells as taken_tells}
use Rattle.hss_directory.proofs.Lowers.{key_alone, made_current, made_holds, refused_holds, refused_secret}
use Rattle.hss_directory.proofs.Opens.{finds_holds, finds_sound, finds_tells}
use Rattle.hss_directory.proofs.Places.{else_key, holds_else, in_by, in_else, keeps_both, keeps_lower, keeps_same, keeps_top, key_not_peers, low-ne, lowers_in}

-- The same key, on the same disks.
pub record Follows (old new : KeyState) : Type 0 where
  pub key_slot : new.parts.key.slot ≡ old.parts.key.slot
  pub used_slot : new.parts.used.slot ≡ old.parts.used.slot
  pub secret : new.secret ≡ old.secret

pub reserving_follows : (old new : KeyState) (result : Result ℕ Reserve) → Reserves old result new → Follows old new
reserving_follows old new result reserves =
    let alone = key_alone old new result reserves in
    record { key_slot = ap (λ (d : DiskState). d.slot) alone.0; used_slot = reserves.disk.slot; secret = alone.1 }

same_follows : (old new : KeyState) → new ≡ old → Follows old new
same_follows old new same = record {
  key_slot = ap (λ (k : KeyState). k.parts.key.slot) same;
  used_slot = ap (λ (k : KeyState). k.parts.used.slot) same;
  secret = ap (λ (k : KeyState). k.secret) same;
}

pub none_follows : (old new : KeyState) (random left : Stream) (why : HssFault) → SignsNone old random why new left → Follows old new
none_follows old new random left Memory none = same_follows old new none.0
none_follows old new random left Disk none = reserving_follows old new (Err reserve.DiskFault) none.0
none_follows old new random left KeyThere none = absurd none
none_follows old new random left NoKey none = absurd none
none_follows old new random left BadKey none = absurd none
none_follows old new random left Spent none = absurd none

-- The same lower key.
pub record LowerFollows (old new : LowerState) : Type 0 where
  pub now : new ≡ record old { key = new.key }
  pub key : Follows old.key new.key

pub seals_follow : (old new : LowerState) (random left : Stream) (msg seal : List ℕ) → SealsBy old random msg seal new left → LowerFollows old new
seals_follow old new random left msg seal seals = record { now = seals.now; key = reserving_follows old.key new.key (Ok seals.signs.index) seals.signs.reserves }

pub unsealed_follow : (old new : LowerState) (random left : Stream) (msg : List ℕ) (why : HssFault) → SealsNone old random msg why new left → LowerFollows old new
unsealed_follow old new random left msg why (seals_unsigned none now) = record { now = now; key = none_follows old.key new.key random left why none }
unsealed_follow old new random left msg why (unjoined sig signs is now) = record { now = now; key = reserving_follows old.key new.key (Ok signs.index) signs.reserves }

holds_follow : (shelf : ShelfState) (dir : List ℕ) (old new : KeyState) → Follows old new → HoldsKey shelf dir old → HoldsKey shelf dir new
holds_follow shelf dir old new follows holds = record {
  key_slot = follows.key_slot ∙ holds.key_slot;
  key_out = holds.key_out;
  used_slot = follows.used_slot ∙ holds.used_slot;
  used_out = holds.used_out;
}

pub lower_holds_follow : (shelf : ShelfState) (dir : List ℕ) (old new : LowerState) → LowerFollows old new → HoldsLower shelf dir (Some old) → HoldsLower shelf dir (Some new)
lower_holds_follow shelf dir old new follows holds =
    subst (λ (l : LowerState). HoldsLower shelf dir (Some l)) (sym follows.now)
    (holds_follow shelf old.dir old.key new.key follows.key holds.0, holds.1, holds.2)

pub current_follow : (dir : List ℕ) (top : KeyState) (old new : LowerState) → LowerFollows old new → IsCurrent dir top old → IsCurrent dir top new
current_follow dir top old new follows current =
    subst (λ (l : LowerState). IsCurrent dir top l) (sym follows.now)
    (record {
      place = current.place;
      signed = subst (λ (s : SecretData). Signed (public_key top.secret) (key_bytes (public_key s)) old.top_sig) (sym follows.key.secret) current.signed;
      leaf = current.leaf;
      last = current.last;
      used = current.used;
    })

-- ---- putting a lower key back

pub lower_back : (before mid : ShelfState) (dir : List ℕ) (top : KeyState) (lower : Option LowerState) → IfSome lower (λ l. IsCurrent dir top l) → IsTrue before.tells → HoldsKey before dir top → HoldsLower before dir lower
    → PutsLower before lower mid → HoldsKey mid dir top × AreLowersIn mid dir × KeepsElse dir before mid
lower_back before mid dir top None sound tells holds lowers same =
    (subst (λ (s : ShelfState). HoldsKey s dir top) (sym same) holds, subst (λ (s : ShelfState). AreLowersIn s dir) (sym same) lowers, keeps_same dir before mid same)
lower_back before mid dir top (Some lower) sound tells holds held puts =
    let same = else_key lower.dir before mid (puts.others tells) in
    let ne : lower.dir ≢ dir = λ is. low-ne dir lower.index (sym is ∙ sound.place) in
    let are : AreIn mid lower.dir = record {
      key_in = stands-not-out (part_in mid lower.dir Key) lower.key.parts.key (puts.key_back tells);
      used_in = stands-not-out (part_in mid lower.dir Used) lower.key.parts.used (puts.used_back tells);
      peers_in = in_by (part_in before lower.dir Peers) (part_in mid lower.dir Peers) (key_not_peers before mid lower.dir (puts.others tells)) held.1;
    } in (
      holds_else lower.dir dir before mid top same ne holds,
      lowers_in lower.dir dir before mid are same held.2,
      keeps_lower dir lower.dir lower.index before mid sound.place same,
    )

pub lower_tells : (before mid : ShelfState) (lower : Option LowerState) → PutsLower before lower mid → mid.tells ≡ before.tells
lower_tells before mid None same = ap (λ (s : ShelfState). s.tells) same
lower_tells before mid (Some lower) puts = puts.tells

pub shed_puts : (before mid : ShelfState) (lower : Option LowerState) → KeepsUnspent before lower None mid → PutsLower before lower mid
shed_puts before mid None keeps = keeps
shed_puts before mid (Some lower) keeps = keeps.1

-- ---- putting all back

pub home_after : (mid after : ShelfState) (dir : List ℕ) (top : KeyState) → IsTrue mid.tells → AreLowersIn mid dir → PutsKey mid dir top.parts after → AreHome after dir
home_after mid after dir top tells lowers puts = record {
  key_in = stands-not-out (part_in after dir Key) top.parts.key (puts.key_back tells);
  used_in = stands-not-out (part_in after dir Used) top.parts.used (puts.used_back tells);
  lowers = λ n. in_else dir (low_dir dir n) mid after (else_key dir mid after (puts.others tells)) (low-ne dir n) (lowers n);
}

-- the top key is held once the lower key is back, and all is once both are
pub close_top : (before mid : ShelfState) (hss : HssState) → (IsTrue before.tells → Holds before hss) → IfSome hss.lower (λ l. IsCurrent hss.dir hss.top l) → PutsLower before hss.lower mid → IsTrue mid.tells
    → HoldsKey mid hss.dir hss.top × AreLowersIn mid hss.dir × KeepsElse hss.dir before mid
close_top before mid hss holds sound puts tells =
    let t : IsTrue before.tells = told mid.tells before.tells (sym (lower_tells before mid hss.lower puts)) tells in
    lower_back before mid hss.dir hss.top hss.lower sound t (holds t).top (holds t).lower puts

pub close_ends : (before mid after : ShelfState) (hss : HssState) → (IsTrue before.tells → Holds before hss) → IfSome hss.lower (λ l. IsCurrent hss.dir hss.top l) → PutsLower before hss.lower mid → PutsKey mid hss.dir hss.top.parts after
    → EndsHss before hss.dir after
close_ends before mid after hss holds sound lower puts =
    let t = lower_tells before mid hss.lower lower in
    let told_mid : IsTrue before.tells → IsTrue mid.tells = told before.tells mid.tells t in
    record {
      tells = puts.tells ∙ t;
      home = λ tells. home_after mid after hss.dir hss.top (told_mid tells) (close_top before mid hss holds sound lower (told_mid tells)).1 puts;
      others = λ tells. keeps_both hss.dir before mid after (close_top before mid hss holds sound lower (told_mid tells)).2 (keeps_top hss.dir mid after (puts.others (told_mid tells)));
    }

-- what a lower key that is held asks where it is put back
pub lower_held : (shelf : ShelfState) (dir : List ℕ) (lower : Option LowerState) → HoldsLower shelf dir lower → IfSome lower (λ l. HoldsKey shelf l.dir l.key)
lower_held shelf dir None holds = tt
lower_held shelf dir (Some lower) holds = holds.0

-- ---- readying

-- what is held and known where a lower key was kept, and where none was
pub kept_holds : (before mid : ShelfState) (dir : List ℕ) (top : KeyState) (old : Option LowerState) (kept : LowerState) → KeepsUnspent before old (Some kept) mid → (old ≡ Some kept) × ((mid ≡ before) × HasLeft kept.key)
kept_holds before mid dir top None kept keeps = absurd keeps
kept_holds before mid dir top (Some lower) kept keeps = (ap Some (sym keeps.1), (keeps.2, subst (λ (l : LowerState). HasLeft l.key) (sym keeps.1) keeps.0))

-- ---- what each call keeps

pub begins_made : (secret : SecretData) (before after : ShelfState) (dir : List ℕ) (hss : HssState) → CreatesHss secret before dir hss after → (IsTrue before.tells → AreHome before dir) → BeginsHss before dir hss after
begins_made secret before after dir hss creates home = record {
  tells = creates.makes.tells;
  place = creates.place;
  sound = subst (λ (l : Option LowerState). IfSome l (λ l. IsCurrent hss.dir hss.top l)) (sym creates.alone) tt;
  holds = λ tells. record {
    top = subst (λ (d : List ℕ). HoldsKey after d hss.top) (sym creates.place) (holds_made secret before after dir hss.top creates.makes tells);
    lower = subst (λ (l : Option LowerState). HoldsLower after hss.dir l) (sym creates.alone)
        (subst (λ (d : List ℕ). AreLowersIn after d) (sym creates.place) (λ n. in_else dir (low_dir dir n) before after (else_key dir before after creates.makes.others) (low-ne dir n) ((home tells).lowers n)));
  };
  others = λ tells. keeps_top dir before after creates.makes.others;
}

pub begins_opened : (before after : ShelfState) (dir : List ℕ) (hss : HssState) → OpensHss before dir hss after → (IsTrue before.tells → AreHome before dir) → BeginsHss before dir hss after
begins_opened before after dir hss opens home =
    let mid = opens.mid in
    let lowers : IsTrue before.tells → AreLowersIn mid dir = λ tells n. in_else dir (low_dir dir n) before mid (else_key dir before mid opens.takes.others) (low-ne dir n) ((home tells).lowers n) in
    let found : IsTrue before.tells → HoldsKey after dir hss.top × HoldsLower after dir hss.lower × KeepsElse dir mid after =
    λ tells. finds_holds dir hss.top mid after hss.lower opens.finds (told before.tells mid.tells opens.takes.tells tells) (holds_taken before mid dir hss.top opens.takes tells) (lowers tells) in
    record {
      tells = finds_tells dir hss.top mid after hss.lower opens.finds ∙ opens.takes.tells;
      place = opens.place;
      sound = subst (λ (d : List ℕ). IfSome hss.lower (λ l. IsCurrent d hss.top l)) (sym opens.place) (finds_sound dir hss.top before mid after hss.lower opens.takes opens.finds);
      holds = λ tells. record {
        top = subst (λ (d : List ℕ). HoldsKey after d hss.top) (sym opens.place) (found tells).0;
        lower = subst (λ (d : List ℕ). HoldsLower after d hss.lower) (sym opens.place) (found tells).1;
      };
      others = λ tells. keeps_both dir before mid after (keeps_top dir before mid opens.takes.others) (found tells).2;
    }

-- where the next lower key was made, or was not
pub ready_made : (random left : Stream) (before after : ShelfState) (old : HssState) (new_top : KeyState) (lower : LowerState) → IsSound old → (IsTrue before.tells → Holds before old) → lower.index < 2 ^ 32
    → (mid : ShelfState) → KeepsUnspent before old.lower None mid → MakesLower random mid old.dir old.top lower new_top after left → KeepsHss before old after (hss_of old.dir new_top (Some lower))
ready_made random left before after old new_top lower sound holds small mid keeps makes =
    let puts = shed_puts before mid old.lower keeps in
    let t = lower_tells before mid old.lower puts in
    let told_mid : IsTrue before.tells → IsTrue mid.tells = told before.tells mid.tells t in
    let back : IsTrue before.tells → HoldsKey mid old.dir old.top × AreLowersIn mid old.dir × KeepsElse old.dir before mid = λ tells. lower_back before mid old.dir old.top old.lower sound tells (holds tells).top (holds tells).lower puts in
    let made : IsTrue before.tells → HoldsKey after old.dir new_top × HoldsLower after old.dir (Some lower) × KeepsElse old.dir mid after =
    λ tells. made_holds random left mid after old.dir old.top new_top lower makes (told_mid tells) (back tells).0 (back tells).1 in
    record {
      tells = makes.vouches.writes.tells ∙ taken_tells old.top.secret.lms old.top.secret.ots random makes.between mid makes.mid lower.dir lower.key makes.takes ∙ t;
      place = refl;
      secret = (key_alone old.top new_top (Ok makes.vouches.signs.index) makes.vouches.signs.reserves).1;
      sound = made_current random left mid after old.dir old.top new_top lower small makes;
      holds = λ tells. record { top = (made tells).0; lower = (made tells).1 };
      others = λ tells. keeps_both old.dir before mid after (back tells).2 (made tells).2;
    }

pub ready_refused : (random left : Stream) (why : HssFault) (before after : ShelfState) (old new : HssState) → IsSound old → (IsTrue before.tells → Holds before old) → RefusesToReady random before old why new after left → KeepsHss before old after new
ready_refused random left why before after old new sound holds refuses =
    let mid = refuses.mid in
    let puts = shed_puts before mid old.lower refuses.keeps in
    let t = lower_tells before mid old.lower puts in
    let back : IsTrue before.tells → HoldsKey mid old.dir old.top × AreLowersIn mid old.dir × KeepsElse old.dir before mid = λ tells. lower_back before mid old.dir old.top old.lower sound tells (holds tells).top (holds tells).lower puts in
    let told_before : IsTrue mid.tells → IsTrue before.tells = told mid.tells before.tells (sym t) in
    let done = refused_holds random left why mid after old.dir old.top new.top refuses.refuses (λ tells. (back (told_before tells)).1) in
    subst (λ (h : HssState). KeepsHss before old after h) (sym refuses.now)
    (record {
      tells = done.0 ∙ t;
      place = refl;
      secret = refused_secret random left why mid after old.dir old.top new.top refuses.refuses;
      sound = tt;
      holds = λ tells. let d = done.1 (told before.tells mid.tells t tells) in record { top = d.0 (back tells).0; lower = d.1 };
      others = λ tells. keeps_both old.dir before mid after (back tells).2 (done.1 (told before.tells mid.tells t tells)).2;
    })

-- where one was kept
pub ready_kept : (before mid : ShelfState) (old : HssState) (kept : LowerState) → IsSound old → (IsTrue before.tells → Holds before old) → KeepsUnspent before old.lower (Some kept) mid → KeepsHss before old mid (hss_of old.dir old.top (Some kept))
ready_kept before mid old kept sound holds keeps =
    let k = kept_holds before mid old.dir old.top old.lower kept keeps in
    record {
      tells = ap (λ (s : ShelfState). s.tells) k.1.0;
      place = refl;
      secret = refl;
      sound = subst (λ (l : Option LowerState). IfSome l (λ l. IsCurrent old.dir old.top l)) k.0 sound;
      holds = λ tells. subst (λ (s : ShelfState). Holds s (hss_of old.dir old.top (Some kept))) (sym k.1.0)
          (record { top = (holds tells).top; lower = subst (λ (l : Option LowerState). HoldsLower before old.dir l) k.0 (holds tells).lower });
      others = λ tells. keeps_same old.dir before mid k.1.0;
    }

-- and the lower key then signs
pub sealing_keeps : (before after : ShelfState) (old ready : HssState) (lower signed : LowerState) → KeepsHss before old after ready → ready.lower ≡ Some lower → LowerFollows lower signed → KeepsHss before old after (hss_of ready.dir ready.top (Some signed))
sealing_keeps before after old ready lower signed keeps is follows = record {
  tells = keeps.tells;
  place = keeps.place;
  secret = keeps.secret;
  sound = current_follow ready.dir ready.top lower signed follows (subst (λ (l : Option LowerState). IfSome l (λ l. IsCurrent ready.dir ready.top l)) is keeps.sound);
  holds = λ tells. record {
    top = (keeps.holds tells).top;
    lower = lower_holds_follow after ready.dir lower signed follows (subst (λ (l : Option LowerState). HoldsLower after ready.dir l) is (keeps.holds tells).lower);
  };
  others = keeps.others;
}

-- two clauses on one result
pub both_ok : {T E : Type 0} (r : Result T E) (A B C : T → Type 0) → ((x : T) → A x → B x → C x) → IfOk r A → IfOk r B → IfOk r C
both_ok (Ok x) A B C f a b = f x a b
both_ok (Err e) A B C f a b = tt

pub one_ok : {T E : Type 0} (r : Result T E) (A C : T → Type 0) → ((x : T) → A x → C x) → IfOk r A → IfOk r C
one_ok (Ok x) A C f a = f x a
one_ok (Err e) A C f a = tt

pub one_err : {T E : Type 0} (r : Result T E) (A C : E → Type 0) → ((x : E) → A x → C x) → IfErr r A → IfErr r C
one_err (Ok x) A C f a = tt
one_err (Err e) A C f a = f e a

-- ---- sealing

-- the lower key is the same, whatever came of its sealing
pub sealing_follows : {T : Type 0} (r : Result T HssFault) (bytes : T → List ℕ) (old new : LowerState) (random left : Stream) (msg : List ℕ) → IfOk r (λ x. SealsBy old random msg (bytes x) new left) → IfErr r (λ why. SealsNone old random msg why new left) → LowerFollows old new
sealing_follows (Ok x) bytes old new random left msg seals none = seals_follow old new random left msg (bytes x) seals
sealing_follows (Err why) bytes old new random left msg seals none = unsealed_follow old new random left msg why none

pub hss_same : (dir dir' : List ℕ) (top : KeyState) (lower lower' : Option LowerState) → dir ≡ dir' → lower ≡ lower' → hss_of dir top lower ≡ hss_of dir' top lower'
hss_same dir dir' top lower lower' d l = ap (λ (x : List ℕ). hss_of x top lower) d ∙ ap (λ (x : Option LowerState). hss_of dir' top x) l

-- a count that rose has risen later too
pub rose_later : (lower : Option LowerState) (first mid last : ℕ) → IfSome lower (λ l. 0 < l.key.parts.used_faults → Rose first mid) → mid ≤ last → IfSome lower (λ l. 0 < l.key.parts.used_faults → Rose first last)
rose_later None first mid last rose later = tt
rose_later (Some l) first mid last rose later = λ any. omega (arith, rose any, later)
