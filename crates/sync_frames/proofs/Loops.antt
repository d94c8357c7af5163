-- Reading one id after the other, as a loop does.
use Rattle.std.proofs.Common.{◌≡◌, ℕ, suc, ◌+◌, ◌-◌, ◌<◌, ◌≤◌, true, false, List, [], ◌∷◌, ◌++◌, refl, sym, ap, ◌∙◌, arith, append_assoc}
use Rattle.std.proofs.lemmas.List.{append-nil}
use Rattle.std.specs.Prelude.{Option, Some, None}
use Rattle.update_model.specs.declared.update_id.UpdateId.{UpdateId}
use Rattle.sync_frames.specs.declared.fields.PayloadError.{PayloadError}
use Rattle.sync_frames.specs.declared.fields.PayloadError.TheVariants.{Memory, NoForm}
use Rattle.sync_frames.specs.Reading.{Read, Stops, ◌>>=◌, judge, id_at, ids_at, is_next}

abbrev Ids : Type 0
Ids = Read (List UpdateId)

-- what was read before, and what is still read
abbrev pub with_front : List UpdateId → Read (List UpdateId) → Read (List UpdateId)
with_front front read = read >>= λ x. Some (front ++ x.0, x.1)

-- one id, and then the others
abbrev first_then : UpdateId → Read (List UpdateId) → Read (List UpdateId)
first_then first others = others >>= λ x. Some (first ∷ x.0, x.1)

regroup : (front : List UpdateId) (n : UpdateId) (read : Ids) → with_front front (first_then n read) ≡ with_front (front ++ n ∷ []) read
regroup front n (Some x) = ap (λ (ns : List UpdateId). Some (ns, x.1)) (simp append_assoc)
regroup front n None = refl

-- a next id, and the others behind it
ids_next : (count done : ℕ) (last : Option UpdateId) (bytes : List ℕ) → done < count
    → ids_at (count - done) last bytes ≡ (id_at bytes >>= λ id. judge (is_next last id.0) >>= λ above. first_then id.0 (ids_at (count - (done + 1)) (Some id.0) id.1))
unfolding ids_at
ids_next count done last bytes h = let e : count - done ≡ suc (count - (done + 1)) = omega arith in rw e refl

-- Where no id can be read, none of the rest can.
pub id_fails : (e : PayloadError) (front : List UpdateId) (count done : ℕ) (last : Option UpdateId) (bytes : List ℕ) (total : Read (List UpdateId)) → done < count
    → Stops e (id_at bytes) → with_front front (ids_at (count - done) last bytes) ≡ total → Stops e total
id_fails Memory front count done last bytes total h stops so_far = tt
id_fails NoForm front count done last bytes total h stops so_far =
    let bound : with_front front (ids_at (count - done) last bytes) ≡ None = rw (ids_next count done last bytes h, stops) refl in
    sym so_far ∙ bound

-- An id that is not above the one before it ends reading.
pub id_refused : (front : List UpdateId) (count done : ℕ) (last : Option UpdateId) (bytes : List ℕ) (id : UpdateId) (after : List ℕ) (total : Read (List UpdateId)) → done < count
    → id_at bytes ≡ Some (id, after) → is_next last id ≡ false → with_front front (ids_at (count - done) last bytes) ≡ total → total ≡ None
id_refused front count done last bytes id after total h is below so_far =
    let bound : with_front front (ids_at (count - done) last bytes) ≡ None = rw (ids_next count done last bytes h, is, below) refl in
    sym so_far ∙ bound

-- Else it is one of those read, and the others are left.
pub id_goes_on : (front : List UpdateId) (count done : ℕ) (last : Option UpdateId) (bytes : List ℕ) (id : UpdateId) (after : List ℕ) (total : Read (List UpdateId)) → done < count
    → id_at bytes ≡ Some (id, after) → is_next last id ≡ true → with_front front (ids_at (count - done) last bytes) ≡ total
    → with_front (front ++ id ∷ []) (ids_at (count - (done + 1)) (Some id) after) ≡ total
id_goes_on front count done last bytes id after total h is above so_far =
    let bound : with_front front (ids_at (count - done) last bytes) ≡ with_front front (first_then id (ids_at (count - (done + 1)) (Some id) after)) = rw (ids_next count done last bytes h, is, above) refl in
    sym (regroup front id (ids_at (count - (done + 1)) (Some id) after)) ∙ sym bound ∙ so_far

pub ids_done : (front : List UpdateId) (count done : ℕ) (last : Option UpdateId) (bytes : List ℕ) (total : Read (List UpdateId)) → count ≤ done
    → with_front front (ids_at (count - done) last bytes) ≡ total → total ≡ Some (front, bytes)
unfolding ids_at
ids_done front count done last bytes total h so_far =
    let e : count - done ≡ 0 = omega arith in
    let none : ids_at (count - done) last bytes ≡ Some ([], bytes) = rw e refl in
    sym so_far ∙ ap (with_front front) none ∙ ap (λ (ns : List UpdateId). Some (ns, bytes)) (append-nil front)
