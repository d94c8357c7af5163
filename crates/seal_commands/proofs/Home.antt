-- Where every part was in its place, every part is, once the parts of a two-level key are back.
use Rattle.std.proofs.Common.{◌≡◌, ◌≢◌, ◌⊎◌, inl, inr, ℕ, ◌<◌, ◌≤◌, List, Some, None, Option, Result, Err, refl, sym, ◌∙◌, ap, subst, arith, IsTrue}
use Rattle.std.specs.Prelude.{IfSome}
use Rattle.bec_bytes.specs.Causes.{Rose}
use Rattle.bec_disk.specs.declared.part.Part.TheVariants.{Key, Used, Peers}
use Rattle.bec_disk.specs.Shelf.{ShelfState, out}
use Rattle.bec_disk.specs.Slot.{Slot, slot}
use Rattle.key_directory.specs.Keys.{IsNoKey}
use Rattle.key_directory.specs.Parts.{IsHome, LetsNewGo, part_in, reading}
use Rattle.rand_core.specs.Stream.{Stream}
use Rattle.key_directory.proofs.Putting.{told}
use Rattle.hss_directory.specs.Calls.{BeginsHss, EndsHss, HeldRose, KeepsHss, LowerRose, PutsHss}
use Rattle.hss_directory.specs.declared.fault.HssFault.{HssFault}
use Rattle.hss_directory.specs.declared.fault.HssFault.TheVariants as faults
use Rattle.hss_directory.specs.Places.{AreHome, Holds, IsElsewhere, KeepsElse, OnlyReads}
use Rattle.hss_directory.specs.Values.{HssState, IsReadable, IsSound, LowerState, low_dir}
use Rattle.hss_directory.proofs.Places.{keeps_both}
use Rattle.seal_commands.specs.Inputs.{IsInputFault, IsLongText}
use Rattle.seal_commands.specs.Sealing.{ClosesHss, IsUndrawnCause, SealsInput, refusal_of, too_long, unread}
use Rattle.seal_commands.specs.declared.reading.TheConstants.{INPUT_LIMIT}
use Rattle.seal_commands.specs.declared.refusal.SealRefusal.{SealRefusal}
use Rattle.seal_commands.specs.declared.refusal.SealRefusal.TheVariants.{InputTooLong, Store}
use Rattle.hss_directory.proofs.Keys.{untouched_in}

-- no part of a two-level key is handed out of such a shelf
pub are_home : (shelf : ShelfState) (dir : List ℕ) → IsHome shelf → AreHome shelf dir
are_home shelf dir home = record {
  key_in = home (slot dir Key);
  used_in = home (slot dir Used);
  lowers = λ n. record { key_in = home (slot (low_dir dir n) Key); used_in = home (slot (low_dir dir n) Used); peers_in = home (slot (low_dir dir n) Peers) };
}

not_place : (shelf : ShelfState) (place other : Slot) → shelf.parts place ≡ out → shelf.parts other ≢ out → place ≢ other
not_place shelf place other is not_out same = not_out (subst (λ (p : Slot). shelf.parts p ≡ out) same is)

pub home_else : (before after : ShelfState) (dir : List ℕ) → IsHome before → KeepsElse dir before after → AreHome after dir → IsHome after
home_else before after dir home same are place is =
    let elsewhere : IsElsewhere dir place = record {
      key = not_place after place (slot dir Key) is are.key_in;
      used = not_place after place (slot dir Used) is are.used_in;
      lowers = λ n. record {
        key = not_place after place (slot (low_dir dir n) Key) is (are.lowers n).key_in;
        used = not_place after place (slot (low_dir dir n) Used) is (are.lowers n).used_in;
        peers = not_place after place (slot (low_dir dir n) Peers) is (are.lowers n).peers_in;
      };
    } in
    home place (sym (same place elsewhere) ∙ is)

pub home_read : (before after : ShelfState) → IsTrue before.tells → OnlyReads before after → IsHome before → IsHome after
home_read before after tells only home place = untouched_in (before.parts place) (after.parts place) (only.parts tells place) (home place)

-- ---- refusals

pub store_is_disk : (why : HssFault) (n : ℕ) → refusal_of why n ≡ Store → why ≡ faults.Disk
store_is_disk faults.Disk n is = refl
store_is_disk faults.KeyThere n is = absurd cc
store_is_disk faults.NoKey n is = absurd cc
store_is_disk faults.BadKey n is = absurd cc
store_is_disk faults.Spent n is = absurd cc
store_is_disk faults.Memory n is = absurd cc

-- a key that is created is refused for three causes alone
pub undrawn_cause : (shelf : ShelfState) (dir : List ℕ) (why : HssFault)
    → (why ≡ faults.KeyThere → IsTrue shelf.tells → IsNoKey (reading (part_in shelf dir Key)) → ⊥)
    → (why ≡ faults.Disk) ⊎ ((why ≡ faults.KeyThere) ⊎ (why ≡ faults.Memory)) → IsUndrawnCause shelf dir why
undrawn_cause shelf dir why refused (inl disk) = subst (IsUndrawnCause shelf dir) (sym disk) tt
undrawn_cause shelf dir why refused (inr (inl there)) = subst (IsUndrawnCause shelf dir) (sym there) (refused there)
undrawn_cause shelf dir why refused (inr (inr memory)) = subst (IsUndrawnCause shelf dir) (sym memory) tt

pub closed : {before after : ShelfState} {hss : HssState} → IsSound hss → IsReadable hss.top × IfSome hss.lower (λ lower. IsReadable lower.key) → PutsHss before hss after → ClosesHss before hss after
closed sound reads puts = record { sound = sound; reads = reads; puts = puts }

pub home_undrawn : (payload filling dir : List ℕ) (before after : ShelfState) → (after ≡ before) ⊎ LetsNewGo Key Used payload filling before dir after → IsTrue before.tells → IsHome before → IsHome after
home_undrawn payload filling dir before after (inl same) tells home = subst (λ (s : ShelfState). IsHome s) (sym same) home
home_undrawn payload filling dir before after (inr lets) tells home = lets.home tells home

-- a count of a disk that is put back makes the shelf's count rise
pub held_rose : (old new : HssState) (first mid last : ℕ) → Rose first mid ⊎ HeldRose old new → mid ≤ last → first ≤ mid → (0 < new.top.parts.used_faults → Rose mid last)
    → IfSome new.lower (λ l. 0 < l.key.parts.used_faults → Rose mid last) → Rose first last
held_rose old new first mid last (inl rose) later before top lower = omega (arith, rose, later)
held_rose old new first mid last (inr (inl rose)) later before top lower = omega (arith, top (omega (arith, rose)), before)
held_rose old new first mid last (inr (inr rose)) later before top lower = by new.lower rose lower
  where
    by : (l : Option LowerState) → LowerRose l → IfSome l (λ l. 0 < l.key.parts.used_faults → Rose mid last) → Rose first last
    by None rose lower = absurd rose
    by (Some l) rose lower = omega (arith, lower (omega (arith, rose.1)), before)

pub err_same : {T : Type 0} (a b : SealRefusal) → ◌≡◌ {A = Result T SealRefusal} (Err a) (Err b) → a ≡ b
err_same a b is = cc

-- a key is where it was while nothing is done
pub keeps_still : (shelf : ShelfState) (hss : HssState) → IsSound hss → (IsTrue shelf.tells → Holds shelf hss) → KeepsHss shelf hss shelf hss
keeps_still shelf hss sound holds = record { tells = refl; place = refl; secret = refl; sound = sound; holds = holds; others = λ tells place off. refl }

-- an input that was not read
pub unread_input : (hss : HssState) (shelf : ShelfState) (random : Stream) (left later : Option (List ℕ)) (old new : ℕ) (why : SealRefusal)
    → ((why ≡ InputTooLong) × IsLongText INPUT_LIMIT left later) ⊎ IsInputFault old new why → SealsInput hss shelf random random left later old new (Err why) hss shelf
unread_input hss shelf random left later old new why (inl long) = too_long long.1 (ap (λ (w : SealRefusal). Err w) long.0) refl refl refl
unread_input hss shelf random left later old new why (inr fault) = unread why fault refl refl refl refl

pub never_store : (left later : Option (List ℕ)) (old new : ℕ) (why : SealRefusal) → ((why ≡ InputTooLong) × IsLongText INPUT_LIMIT left later) ⊎ IsInputFault old new why → why ≡ Store → ⊥
never_store left later old new why (inl long) is = absurd cc
never_store left later old new why (inr (inl memory)) is = absurd cc
never_store left later old new why (inr (inr stream)) is = absurd cc

-- where all is in its place in the end
pub home_after_all : (before mid done after : ShelfState) (dir : List ℕ) (hss signed : HssState) → BeginsHss before dir hss mid → KeepsHss mid hss done signed → EndsHss done signed.dir after → IsTrue before.tells → IsHome before → IsHome after
home_after_all before mid done after dir hss signed begins keeps ends tells home =
    let t1 : IsTrue mid.tells = told before.tells mid.tells begins.tells tells in
    let t2 : IsTrue done.tells = told mid.tells done.tells keeps.tells t1 in
    let same : signed.dir ≡ dir = keeps.place ∙ begins.place in
    let first = keeps_both dir before mid done (begins.others tells) (subst (λ (d : List ℕ). KeepsElse d mid done) begins.place (keeps.others t1)) in
    let all = keeps_both dir before done after first (subst (λ (d : List ℕ). KeepsElse d done after) same (ends.others t2)) in
    home_else before after dir home all (subst (λ (d : List ℕ). AreHome after d) same (ends.home t2))

pub home_after_close : (before mid after : ShelfState) (dir : List ℕ) (hss : HssState) → BeginsHss before dir hss mid → EndsHss mid hss.dir after → IsTrue before.tells → IsHome before → IsHome after
home_after_close before mid after dir hss begins ends tells home =
    let t1 : IsTrue mid.tells = told before.tells mid.tells begins.tells tells in
    let all = keeps_both dir before mid after (begins.others tells) (subst (λ (d : List ℕ). KeepsElse d mid after) begins.place (ends.others t1)) in
    home_else before after dir home all (subst (λ (d : List ℕ). AreHome after d) begins.place (ends.home t1))
