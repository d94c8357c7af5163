-- The records of a store.
use Rattle.std.proofs.Common.{◌≡◌, ◌⊎◌, inl, inr, ℕ, ◌<◌, ◌^◌, List, ◌++◌, length, sym, ap, subst, ◌∙◌, Some, None, arith, ◌≤◌, ◌+◌, add-one, append_assoc, get_or, slice_get, take}
use Rattle.std.proofs.lemmas.List.Elements.{All-get_or}
use Rattle.std.proofs.lemmas.Option.{slice_get_cases}
use Rattle.bec_bytes.specs.Framed.{framed, stream_of}
use Rattle.bec_bytes.proofs.Frames.{stream_of-push}
use Rattle.history.proofs.Arriving.{take_next}
use Rattle.update_check.specs.Members.{AreMembers}
use Rattle.update_check.specs.Signed.{IsChecked}
use Rattle.update_model.specs.Rule.{RuleData}

-- each update of a store is short
pub member_short : (rule : RuleData) (members : List (List ℕ)) (i : ℕ) (bytes : List ℕ) → AreMembers rule members → slice_get members i ≡ Some bytes → length bytes < 2 ^ 32
member_short rule members i bytes are at =
    let is = (slice_get_cases members i).1 in
    by is
  where
    by : ((x : List ℕ) × (i < length members) × (slice_get members i ≡ Some x) × (get_or members i x ≡ x)) ⊎ ((length members ≤ i) × (slice_get members i ≡ None)) → length bytes < 2 ^ 32
    by (inl there) =
        let same : there.0 ≡ bytes = (let a = there.2 in cc) in
        let checked : IsChecked rule bytes = subst (IsChecked rule) (there.3 ∙ same) (All-get_or (IsChecked rule) members i there.0 there.1 are.checked) in
        let short = checked.1.spells.short in
        omega (arith, short)
    by (inr past) = absurd (let a = past.1 in cc)

-- one record more
pub one_record : (items old : List ℕ) (members : List (List ℕ)) (i : ℕ) (bytes : List ℕ) → slice_get members i ≡ Some bytes → items ≡ old ++ stream_of (take i members)
    → items ++ framed bytes ≡ old ++ stream_of (take (i + 1) members)
one_record items old members i bytes at is =
    ap (λ (w : List ℕ). w ++ framed bytes) is ∙ append_assoc old (stream_of (take i members)) (framed bytes)
    ∙ ap (λ (w : List ℕ). old ++ w) (sym (stream_of-push (take i members) bytes) ∙ ap stream_of (sym (take_next members i bytes at) ∙ ap (λ (n : ℕ). take n members) (sym (add-one i))))
