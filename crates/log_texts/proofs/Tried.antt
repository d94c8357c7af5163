-- Numbers of digits are tried from the least one on.
use Rattle.std.proofs.Common.{◌≡◌, ◌∙◌, ℕ, zero, suc, ◌+◌, ◌-◌, ◌<◌, ◌≤◌, Bool, true, false, not, ◌&&◌, cond, List, [], ◌∷◌, length, drop, take, get_or, refl, sym, ap, arith}
use Rattle.std.specs.List.{list_any}
use Rattle.table_text.specs.Names.{id_text}
use Rattle.update_model.specs.declared.update_id.UpdateId.{UpdateId}
use Rattle.log_texts.specs.Digits.{are_apart, digits_within, starts_as}
use Rattle.log_texts.proofs.Marks.{from_before}

one_more : (ids : List UpdateId) (digits : ℕ) → digits < 64 → digits_within (64 - digits) ids ≡ cond (are_apart digits ids) digits (digits_within (63 - digits) ids)
one_more ids digits low =
    let left : 64 - digits ≡ suc (63 - digits) = omega (arith, low) in
    let here : 63 - (63 - digits) ≡ digits = omega (arith, low) in
    ap (λ n. digits_within n ids) left ∙ (λ i. cond (are_apart (here i) ids) (here i) (digits_within (63 - digits) ids))

-- a number that does not, and the next one
pub digits_next : (ids : List UpdateId) (digits : ℕ) → digits < 64 → are_apart digits ids ≡ false → digits_within (64 - digits) ids ≡ digits_within (64 - (digits + 1)) ids
digits_next ids digits low apart =
    let next : 63 - digits ≡ 64 - (digits + 1) = omega (arith, low) in
    one_more ids digits low ∙ ap (λ b. cond b digits (digits_within (63 - digits) ids)) apart ∙ ap (λ n. digits_within n ids) next

-- of the last ids
at_last : (digits : ℕ) (ids : List UpdateId) (p : ℕ) (d : UpdateId) (start : List ℕ) → 0 < p → p ≤ length ids → start ≡ take digits (id_text (get_or ids (p - 1) d))
    → are_apart digits (drop (p - 1) ids) ≡ (not (list_any (starts_as digits start) (drop p ids)) && are_apart digits (drop p ids))
at_last digits ids p d start some within is =
    ap (are_apart digits) (from_before ids p d some within)
    ∙ (λ i. not (list_any (starts_as digits (sym is i)) (drop p ids)) && are_apart digits (drop p ids))

-- one more id is apart from those behind it
pub apart_next : (digits : ℕ) (ids : List UpdateId) (p : ℕ) (d : UpdateId) (start : List ℕ) → 0 < p → p ≤ length ids → start ≡ take digits (id_text (get_or ids (p - 1) d))
    → list_any (starts_as digits start) (drop p ids) ≡ false → are_apart digits (drop p ids) ≡ true → are_apart digits (drop (p - 1) ids) ≡ true
apart_next digits ids p d start some within is none apart = at_last digits ids p d start some within is ∙ (λ i. not (none i) && apart i)

both_false : (b : Bool) → (b && false) ≡ false
both_false true = refl
both_false false = refl

-- what is not apart at the end is not apart
apart_drop : (digits n : ℕ) (ids : List UpdateId) → are_apart digits (drop n ids) ≡ false → are_apart digits ids ≡ false
apart_drop digits zero ids h = h
apart_drop digits (suc n) [] h = absurd cc
apart_drop digits (suc n) (id ∷ ids) h =
    let first = not (list_any (starts_as digits (take digits (id_text id))) ids) in
    ap (λ b. first && b) (apart_drop digits n ids h) ∙ both_false first

-- an id is not apart from those behind it
pub apart_not : (digits : ℕ) (ids : List UpdateId) (p : ℕ) (d : UpdateId) (start : List ℕ) → 0 < p → p ≤ length ids → start ≡ take digits (id_text (get_or ids (p - 1) d))
    → list_any (starts_as digits start) (drop p ids) ≡ true → are_apart digits ids ≡ false
apart_not digits ids p d start some within is found =
    apart_drop digits (p - 1) ids (at_last digits ids p d start some within is ∙ (λ i. not (found i) && are_apart digits (drop p ids)))
