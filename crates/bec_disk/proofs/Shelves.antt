-- Parts on a shelf in memory.
use Rattle.std.proofs.Common.{◌≡◌, ◌≢◌, ℕ, zero, suc, ◌<◌, ◌≤◌, Bool, true, false, cond, List, [], ◌∷◌, ◌++◌, length, get_or, set, refl, sym, ◌∙◌, ap, subst, arith, Some, None, Option, Ok}
use Rattle.std.specs.Prelude.{◌&&◌, ◌==◌, nat_lt}
use Rattle.std.specs.List.{find, position, position_or_len}
use Rattle.std.specs.Option.{option_or}
use Rattle.std.specs.Cmp.Derive.{both_true}
use Rattle.std.specs.Str.{bytes_eq}
use Rattle.std.proofs.lemmas.Bool.{false≢true}
use Rattle.std.proofs.lemmas.Bool.Decides.{Decides-eqb, nat_tests}
use Rattle.std.proofs.lemmas.List.{set-get_or}
use Rattle.std.proofs.lemmas.List.Folds.{find-set, find_past, find-append, find_at}
use Rattle.std.proofs.lemmas.List.Quantifiers.{position-Some}
use Rattle.std.proofs.lemmas.List.Sums.{position_or_len_is}
use Rattle.std.proofs.lemmas.Option.{slice_get_past, none-some}
use Rattle.std.proofs.lemmas.Slice.Eq.{bytes_eq-Decides}
use Rattle.bec_disk.specs.Slot.{Slot, slot, number_of, same_slot}
use Rattle.bec_disk.specs.Replay.{MemDiskState, state_of, made_disk, numbered_anew}
use Rattle.bec_disk.specs.Shelf.{PartState, absent, out, stands, Finds, Makes, PutsBack}
use Rattle.bec_disk.specs.Shelved.{MemShelfState, HandsOutDisk, is_at, entry_at, standing, part_of, shelf_of}
use Rattle.bec_disk.proofs.Records.{settled_handed}
use Rattle.bec_disk.specs.declared.part.Part.{Part}
use Rattle.bec_disk.specs.declared.part.Part.TheVariants.{Schema, Updates, Key, Used, Peers}
use Rattle.bec_disk.specs.declared.shelved.Shelved.{Shelved}

part_with : ℕ → Part
part_with zero = Schema
part_with (suc zero) = Updates
part_with (suc (suc zero)) = Key
part_with (suc (suc (suc zero))) = Used
part_with (suc (suc (suc (suc n)))) = Peers

part-back : (part : Part) → part_with (number_of part) ≡ part
unfolding part_with
part-back Schema = refl
part-back Updates = refl
part-back Key = refl
part-back Used = refl
part-back Peers = refl

both : (x y : Bool) → x && y ≡ true → (x ≡ true) × (y ≡ true)
both true y e = (refl, e)
both false y e = absurd (false≢true e)

-- the test of places decides
pub same_slot-eq : (a b : Slot) → same_slot a b ≡ true → a ≡ b
same_slot-eq a b e =
    let is = both (number_of a.part == number_of b.part) (bytes_eq a.dir b.dir) e in
    let parts = sym (part-back a.part) ∙ ap part_with ((Decides-eqb (number_of a.part) (number_of b.part)).0 is.0) ∙ part-back b.part in
    ap (λ (dir : List ℕ). slot dir a.part) ((bytes_eq-Decides a.dir b.dir).0 is.1) ∙ ap (λ (part : Part). slot b.dir part) parts

pub same_slot-self : (a : Slot) → same_slot a a ≡ true
same_slot-self a = both_true ((Decides-eqb (number_of a.part) (number_of a.part)).1 refl) ((bytes_eq-Decides a.dir a.dir).1 refl)

-- what is in one place is in no other
apart : (entry : Shelved) (place other : Slot) → is_at place entry ≡ true → same_slot place other ≡ false → is_at other entry ≡ false
apart entry place other here away = subst (λ (p : Slot). same_slot p other ≡ false) (sym (same_slot-eq entry.place place here)) away

-- the first entry in its at_place is replaced
pub replaced : (entries : List Shelved) (place : Slot) (i : ℕ) (new d : Shelved) → position (is_at place) entries ≡ Some i → new.place ≡ (get_or entries i d).place → entry_at (set entries i new) place ≡ Some new
replaced entries place i new d found at_place =
    let at = position-Some (is_at place) entries i d found in
    let here = ap (λ (p : Slot). same_slot p place) at_place ∙ at.1 in
    find-set (is_at place) entries i new (sym (position_or_len_is (is_at place) entries i d (omega (arith, at.0)) at.2 (λ lt. at.1))) at.0 here

pub others_kept : (entries : List Shelved) (place : Slot) (i : ℕ) (new d : Shelved) → position (is_at place) entries ≡ Some i → new.place ≡ (get_or entries i d).place
    → (other : Slot) → same_slot place other ≡ false → entry_at (set entries i new) other ≡ entry_at entries other
others_kept entries place i new d found at_place other away =
    let at = position-Some (is_at place) entries i d found in
    let past = apart (get_or entries i d) place other at.1 away in
    find_past (is_at other) entries i new d past (ap (λ (p : Slot). same_slot p other) at_place ∙ past)

-- the entry that was found
pub there : (entries : List Shelved) (place : Slot) (i : ℕ) (d : Shelved) → position (is_at place) entries ≡ Some i → entry_at entries place ≡ Some (get_or entries i d)
there entries place i d found = subst (λ (l : List Shelved). entry_at l place ≡ Some (get_or entries i d)) (set-get_or entries i d) (replaced entries place i (get_or entries i d) d found refl)

-- no entry was found
pub missing : (entries : List Shelved) (place : Slot) → position (is_at place) entries ≡ None → entry_at entries place ≡ None
missing entries place none = find_at (is_at place) entries ∙ slice_get_past entries (position_or_len (is_at place) entries) (behind (position_or_len (is_at place) entries) (length entries) none)
  where
    behind : (i n : ℕ) → cond (nat_lt i n) (Some i) None ≡ None → n ≤ i
    behind i n e = grind (arith, nat_tests)

-- an entry was added
pub added_there : (entries : List Shelved) (place : Slot) (new : Shelved) → entry_at entries place ≡ None → is_at place new ≡ true → entry_at (entries ++ new ∷ []) place ≡ Some new
added_there entries place new none here =
    find-append (is_at place) entries (new ∷ []) ∙ ap (λ (o : Option Shelved). option_or o (find (is_at place) (new ∷ []))) none ∙ ap (λ (b : Bool). cond b (Some new) None) here

pub added_others : (entries : List Shelved) (place : Slot) (new : Shelved) → is_at place new ≡ true → (other : Slot) → same_slot place other ≡ false → entry_at (entries ++ new ∷ []) other ≡ entry_at entries other
added_others entries place new here other away =
    find-append (is_at other) entries (new ∷ []) ∙ ap (λ (b : Bool). option_or (entry_at entries other) (cond b (Some new) None)) (apart new place other here away) ∙ or_none (entry_at entries other)
  where
    or_none : (o : Option Shelved) → option_or o None ≡ o
    or_none None = refl
    or_none (Some entry) = refl

-- the part that was found is handed out
pub finds_disk : (old : MemShelfState) (faults : ℕ) (place : Slot) (i : ℕ) (entry new : Shelved) (found : Option MemDiskState) → position (is_at place) old.entries ≡ Some i → entry ≡ get_or old.entries i entry
    → HandsOutDisk entry place found new → part_of (entry_at old.entries place) ≢ out
    → Finds state_of (shelf_of old) place (Ok found) (shelf_of (record { entries = set old.entries i new; faults = faults }))
finds_disk old faults place i entry new None at is hands not_out =
    absurd (not_out (ap part_of (there old.entries place i entry at ∙ ap (λ (e : Shelved). Some e) (sym is)) ∙ ap standing hands.0))
finds_disk old faults place i entry new (Some disk) at is hands not_out =
    let same_at : new.place ≡ (get_or old.entries i entry).place = ap (λ (e : Shelved). e.place) hands.3 ∙ ap (λ (e : Shelved). e.place) is in
    record {
      tells = refl;
      disk_tells = refl;
      part = λ tells. (
        state_of hands.0,
        ap part_of (there old.entries place i entry at ∙ ap (λ (e : Shelved). Some e) (sym is)) ∙ ap standing hands.1,
        ap state_of hands.2 ∙ settled_handed place hands.0,
      );
      is_out = λ tells. ap part_of (replaced old.entries place i new entry at same_at) ∙ ap (λ (e : Shelved). standing e.disk) hands.3;
      others = λ other away. ap part_of (others_kept old.entries place i new entry at same_at other away);
    }

-- a part was added
pub makes_disk : (old : MemShelfState) (faults : ℕ) (place : Slot) (entries : List Shelved) (disk : MemDiskState) → entry_at old.entries place ≡ None → entries ≡ old.entries ++ record { place = place; disk = None } ∷ [] → disk ≡ made_disk place
    → Makes state_of (shelf_of old) place (Ok disk) (shelf_of (record { entries = entries; faults = faults }))
makes_disk old faults place entries disk none is made = record {
  tells = refl;
  disk_tells = refl;
  part = λ tells. ap state_of made;
  is_out = λ tells. ap (λ (l : List Shelved). part_of (entry_at l place)) is ∙ ap part_of (added_there old.entries place new none (same_slot-self place));
  others = λ other away. ap (λ (l : List Shelved). part_of (entry_at l other)) is ∙ ap part_of (added_others old.entries place new (same_slot-self place) other away);
}
  where
    new : Shelved
    new = record { place = place; disk = None }

is_absent : PartState → Type 0
is_absent absent = Unit {0}
is_absent out = ⊥
is_absent (stands disk) = ⊥

not_absent : (part : PartState) → (is_absent part → ⊥) → part ≡ absent → ⊥
unfolding is_absent
not_absent part other e = other (subst is_absent (sym e) (tt {0}))

-- a part that is absent has no entry
pub absent_none : (found : Option Shelved) → part_of found ≡ absent → found ≡ None
unfolding is_absent
absent_none None is = refl
absent_none (Some entry) is = absurd (elsewhere entry.disk is)
  where
    elsewhere : (disk : Option MemDiskState) → standing disk ≡ absent → ⊥
    elsewhere None e = not_absent out (λ is. is) e
    elsewhere (Some disk) e = not_absent (stands (state_of disk)) (λ is. is) e

-- what a search in the borrowed entries says of the shelf's
pub searched : (found : Option ℕ) (bytes dir : List ℕ) (part : Part) (lent entries : List Shelved) → found ≡ position (is_at (slot bytes part)) lent → bytes ≡ dir → lent ≡ entries → position (is_at (slot dir part)) entries ≡ found
searched found bytes dir part lent entries is same value =
    ap (λ (b : List ℕ). position (is_at (slot b part)) entries) (sym same) ∙ ap (λ (l : List Shelved). position (is_at (slot bytes part)) l) (sym value) ∙ sym is

-- a part that is out has an entry
pub out_found : (entries : List Shelved) (place : Slot) → position (is_at place) entries ≡ None → part_of (entry_at entries place) ≡ out → ⊥
unfolding is_absent
out_found entries place none is = subst is_absent (sym (ap part_of (missing entries place none)) ∙ is) (tt {0})

-- a disk was put back
pub puts_back : (old : MemShelfState) (faults : ℕ) (place : Slot) (i : ℕ) (entry : Shelved) (disk : MemDiskState) → position (is_at place) old.entries ≡ Some i → entry ≡ get_or old.entries i entry
    → PutsBack (shelf_of old) place (state_of disk) (shelf_of (record { entries = set old.entries i (record { place = entry.place; disk = Some disk }); faults = faults }))
puts_back old faults place i entry disk at is = record {
  part = λ tells. ap part_of (replaced old.entries place i new entry at (ap (λ (e : Shelved). e.place) is));
  others = λ other away. ap part_of (others_kept old.entries place i new entry at (ap (λ (e : Shelved). e.place) is) other away);
}
  where
    new : Shelved
    new = record { place = entry.place; disk = Some disk }

-- a disk was put in a place where none was
pub put_added : (entries new : List Shelved) (place : Slot) (disk anew : MemDiskState) → position (is_at place) entries ≡ None → new ≡ entries ++ record { place = place; disk = Some anew } ∷ [] → anew ≡ numbered_anew disk
    → entry_at new place ≡ Some (record { place = place; disk = Some (numbered_anew disk) })
put_added entries new place disk anew none is same =
    ap (λ (l : List Shelved). entry_at l place) is ∙ added_there entries place (record { place = place; disk = Some anew }) (missing entries place none) (same_slot-self place)
    ∙ ap (λ (d : MemDiskState). let entry : Shelved = record { place = place; disk = Some d } in Some entry) same

-- and in a place where one was
pub put_there : (entries : List Shelved) (place : Slot) (i : ℕ) (entry : Shelved) (disk anew : MemDiskState) → position (is_at place) entries ≡ Some i → entry ≡ get_or entries i entry → anew ≡ numbered_anew disk
    → entry_at (set entries i (record { place = entry.place; disk = Some anew })) place ≡ Some (record { place = place; disk = Some (numbered_anew disk) })
put_there entries place i entry disk anew at is same =
    let here = same_slot-eq (get_or entries i entry).place place (position-Some (is_at place) entries i entry at).1 in
    replaced entries place i (record { place = entry.place; disk = Some anew }) entry at (ap (λ (e : Shelved). e.place) is)
    ∙ ap (λ (p : Slot). let new : Shelved = record { place = p; disk = Some anew } in Some new) (ap (λ (e : Shelved). e.place) is ∙ here)
    ∙ ap (λ (d : MemDiskState). let new : Shelved = record { place = place; disk = Some d } in Some new) same

-- what was found lies within
pub found_within : (entries : List Shelved) (place : Slot) (i : ℕ) → position (is_at place) entries ≡ Some i → i < length entries
found_within [] place i at = absurd (none-some i at)
found_within (entry ∷ entries) place i at = (position-Some (is_at place) (entry ∷ entries) i entry at).0
