-- Reading one item after the other, as a loop does.
use Rattle.std.proofs.Common.{◌≡◌, ℕ, suc, ◌+◌, ◌-◌, ◌<◌, ◌≤◌, true, false, List, [], ◌∷◌, ◌++◌, refl, sym, ap, ◌∙◌, arith, append_assoc}
use Rattle.std.proofs.lemmas.List.{append-nil}
use Rattle.std.specs.Prelude.{Result, Ok, Err, Option, Some}
use Rattle.update_model.specs.declared.update_id.UpdateId.{UpdateId}
use Rattle.update_codec.specs.declared.codec_fault.CodecKind.TheVariants.{Order}
use Rattle.update_codec.specs.declared.halt.Halt.{Halt}
use Rattle.update_codec.specs.declared.halt.UpdateReadError.{UpdateReadError}
use Rattle.update_codec.specs.declared.halt.UpdateReadError.TheVariants.{Halted, Memory}
use Rattle.update_codec.specs.Reading.{Read, Stops, ◌>>=◌, judge, id_at, ids_at, is_next, value_at, values_at, op_at, ops_at}
use Rattle.update_codec.proofs.Steps.{failed, halt_at}

-- what was read before, and what is still read
abbrev pub with_front : {A : Type 0} → List A → Read (List A) → Read (List A)
with_front front read = read >>= λ x. Ok (front ++ x.0, x.1)

-- one item, and then the others
abbrev pub first_then : {A : Type 0} → A → Read (List A) → Read (List A)
first_then first others = others >>= λ x. Ok (first ∷ x.0, x.1)

regroup : {A : Type 0} (front : List A) (n : A) (read : Read (List A)) → with_front front (first_then n read) ≡ with_front (front ++ n ∷ []) read
regroup {A} front n (Ok x) = ap (λ (ns : List A). Ok (ns, x.1)) (simp append_assoc)
regroup front n (Err f) = refl

-- Reading what is left begins with an item: where that fails, so does the whole.
pub ends : {X A : Type 0} (e : UpdateReadError) (front : List A) (item : Result X Halt) (f : X → Read (List A)) (total : Read (List A)) → Stops e item → with_front front (item >>= f) ≡ total → Stops e total
ends Memory front item f total stops so_far = tt
ends {X} {A} (Halted h) front item f total stops so_far = let bound : with_front front (item >>= f) ≡ failed (List A × List ℕ) h = rw stops refl in sym so_far ∙ bound

-- Where it does not, the total so far has the item, and the others are left.
pub goes_on : {X A : Type 0} (front : List A) (item : Result X Halt) (x : X) (f : X → Read (List A)) (n : A) (others total : Read (List A)) → item ≡ Ok x → f x ≡ first_then n others → with_front front (item >>= f) ≡ total → with_front (front ++ n ∷ []) others ≡ total
goes_on front item x f n others total is_x then so_far =
    let bound : with_front front (item >>= f) ≡ with_front front (first_then n others) = rw is_x (ap (with_front front) then) in
    sym (regroup front n others) ∙ sym bound ∙ so_far

pub is_done : {A : Type 0} (front : List A) (bytes : List ℕ) (left total : Read (List A)) → left ≡ Ok ([], bytes) → with_front front left ≡ total → total ≡ Ok (front, bytes)
is_done {A} front bytes left total e so_far = sym so_far ∙ ap (with_front front) e ∙ ap (λ (ns : List A). Ok (ns, bytes)) (append-nil front)

-- a next value, and the others behind it
pub values_next : (number count done : ℕ) (bytes : List ℕ) → done < count
    → values_at number (count - done) bytes ≡ (value_at number bytes >>= λ x. first_then x.0 (values_at number (count - (done + 1)) x.1))
unfolding values_at
values_next number count done bytes h = let e : count - done ≡ suc (count - (done + 1)) = omega arith in rw e refl

pub values_end : (number count done : ℕ) (bytes : List ℕ) → count ≤ done → values_at number (count - done) bytes ≡ Ok ([], bytes)
unfolding values_at
values_end number count done bytes h = let e : count - done ≡ 0 = omega arith in rw e refl

-- a next operation, and the others behind it
pub ops_next : (count done : ℕ) (bytes : List ℕ) → done < count
    → ops_at (count - done) done bytes ≡ (op_at done bytes >>= λ x. first_then x.0 (ops_at (count - (done + 1)) (done + 1) x.1))
unfolding ops_at
ops_next count done bytes h = step (count - done) (count - (done + 1)) (omega arith)
  where
    step : (n m : ℕ) → n ≡ suc m → ops_at n done bytes ≡ (op_at done bytes >>= λ x. first_then x.0 (ops_at m (done + 1) x.1))
    step n m e = rw e refl

pub ops_end : (count done : ℕ) (bytes : List ℕ) → count ≤ done → ops_at (count - done) done bytes ≡ Ok ([], bytes)
unfolding ops_at
ops_end count done bytes h = let e : count - done ≡ 0 = omega arith in rw e refl

-- a next id, and the others behind it
pub ids_next : (count done : ℕ) (last : Option UpdateId) (bytes : List ℕ) → done < count
    → ids_at (count - done) last bytes ≡ (id_at bytes >>= λ id. judge (is_next last id.0) Order bytes >>= λ above. first_then id.0 (ids_at (count - (done + 1)) (Some id.0) id.1))
unfolding ids_at
ids_next count done last bytes h = let e : count - done ≡ suc (count - (done + 1)) = omega arith in rw e refl

-- Where no id can be read, none of the rest can.
pub id_fails : (e : UpdateReadError) (front : List UpdateId) (count done : ℕ) (last : Option UpdateId) (bytes : List ℕ) (total : Read (List UpdateId)) → done < count
    → Stops e (id_at bytes) → with_front front (ids_at (count - done) last bytes) ≡ total → Stops e total
id_fails Memory front count done last bytes total h stops so_far = tt
id_fails (Halted halt) front count done last bytes total h stops so_far =
    let bound : with_front front (ids_at (count - done) last bytes) ≡ failed (List UpdateId × List ℕ) halt = rw (ids_next count done last bytes h, stops) refl in
    sym so_far ∙ bound

-- An id that is not above the one before it ends reading.
pub id_refused : (front : List UpdateId) (count done : ℕ) (last : Option UpdateId) (bytes : List ℕ) (id : UpdateId) (after : List ℕ) (total : Read (List UpdateId)) → done < count
    → id_at bytes ≡ Ok (id, after) → is_next last id ≡ false → with_front front (ids_at (count - done) last bytes) ≡ total → total ≡ failed (List UpdateId × List ℕ) (halt_at Order bytes)
id_refused front count done last bytes id after total h is below so_far =
    let bound : with_front front (ids_at (count - done) last bytes) ≡ failed (List UpdateId × List ℕ) (halt_at Order bytes) = rw (ids_next count done last bytes h, is, below) refl in
    sym so_far ∙ bound

-- Else it is one of those read, and the others are left.
pub id_goes_on : (front : List UpdateId) (count done : ℕ) (last : Option UpdateId) (bytes : List ℕ) (id : UpdateId) (after : List ℕ) (total : Read (List UpdateId)) → done < count
    → id_at bytes ≡ Ok (id, after) → is_next last id ≡ true → with_front front (ids_at (count - done) last bytes) ≡ total
    → with_front (front ++ id ∷ []) (ids_at (count - (done + 1)) (Some id) after) ≡ total
id_goes_on front count done last bytes id after total h is above so_far =
    let bound : with_front front (ids_at (count - done) last bytes) ≡ with_front front (first_then id (ids_at (count - (done + 1)) (Some id) after)) = rw (ids_next count done last bytes h, is, above) refl in
    sym (regroup front id (ids_at (count - (done + 1)) (Some id) after)) ∙ sym bound ∙ so_far

pub ids_done : (front : List UpdateId) (count done : ℕ) (last : Option UpdateId) (bytes : List ℕ) (total : Read (List UpdateId)) → count ≤ done
    → with_front front (ids_at (count - done) last bytes) ≡ total → total ≡ Ok (front, bytes)
unfolding ids_at
ids_done front count done last bytes total h so_far =
    let e : count - done ≡ 0 = omega arith in
    is_done front bytes (ids_at (count - done) last bytes) total (rw e refl) so_far
