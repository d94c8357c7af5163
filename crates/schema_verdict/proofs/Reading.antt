-- What is read of a text, and what the text is by what was read.
use Rattle.std.proofs.Common.{◌≡◌, ◌⊎◌, inl, inr, ℕ, ◌+◌, ◌<◌, ◌≤◌, Bool, true, false, List, [], ◌++◌, length, codes, refl, sym, ap, subst, ◌∙◌, append-nil, take, drop, length-take, Option, Some, None, Err, arith, nat_lt}
use Rattle.std.specs.Io.KnownBytes.{Consumes, IsAtEnd}
use Rattle.std.proofs.lemmas.List.{take_all, drop_all, take_at, drop_at}
use Rattle.std.proofs.lemmas.Bool.Decides.{nat_tests}
use Rattle.row_check.specs.Checksum.{is_luhn}
use Rattle.schema.specs.Data.{SchemaData}
use Rattle.confluence_test.specs.Taking.{RefusesSchema, fault, not_confluent, TakesSchema}
use Rattle.confluence_test.specs.declared.refusal.SchemaRefusal.{SchemaRefusal}
use Rattle.schema_verdict.specs.Inputs.{ReadsText}
use Rattle.schema_verdict.specs.Verdict.{CheckAnswer, OutcomeOf, Prints, confluent, refused}

-- a text that fits in the buffer, or fills it
short_or_full : (n size : ℕ) → n ≤ size → (n < size) ⊎ (n ≡ size)
short_or_full n size fits = by_case (nat_lt n size) refl
  where
    by_case : (b : Bool) → nat_lt n size ≡ b → (n < size) ⊎ (n ≡ size)
    by_case true e = inl (grind (arith, nat_tests))
    by_case false e = inr (grind (arith, nat_tests))

-- what was read is what the input begins with, and what is left is all behind it
pub text_read : (limit : ℕ) (before after : Option (List ℕ)) (n : ℕ) (buf : List ℕ) → length buf ≡ limit + 1 → Consumes before after (take n buf) → n ≤ length buf → (n < length buf → IsAtEnd after)
    → ReadsText limit before after (take n buf)
text_read limit None after n buf size came fits ends = tt
text_read limit (Some xs) None n buf size came fits ends = absurd came
text_read limit (Some xs) (Some ys) n buf size came fits ends =
    let small : n ≤ limit + 1 = omega arith in
    elim (short_or_full n (limit + 1) small) [
      | inl few ↦
          let none : ys ≡ [] = ends (omega (arith, size)) in
          let all : xs ≡ take n buf = came ∙ ap (λ (t : List ℕ). take n buf ++ t) none ∙ append-nil (take n buf) in
          let taken : length (take n buf) ≡ n = simp length-take (omega arith) in
          let short : length xs ≤ limit + 1 = (let lengths = ap length all in omega arith) in
          (sym all ∙ sym (take_all (limit + 1) xs short), ap Some (none ∙ sym (drop_all (limit + 1) xs short)))
      | inr full ↦
          let taken : length (take n buf) ≡ limit + 1 = simp length-take (omega arith) in
          (sym (take_at (take n buf) ys (limit + 1) taken) ∙ ap (take (limit + 1)) (sym came), ap Some (sym (drop_at (take n buf) ys (limit + 1) taken) ∙ ap (drop (limit + 1)) (sym came)))
    ]

-- ---- a text that is too long shows it in what is read

pub no_longer : (input : List ℕ) → length (take 65537 input) ≤ 65536 → take 65537 input ≡ input
no_longer input fits = by_case (nat_lt 65537 (length input)) refl
  where
    by_case : (b : Bool) → nat_lt 65537 (length input) ≡ b → take 65537 input ≡ input
    by_case true e = let many : 65537 < length input = grind (arith, nat_tests) in let taken : length (take 65537 input) ≡ 65537 = simp length-take (omega arith) in absurd (omega (arith, taken))
    by_case false e = take_all 65537 input (grind (arith, nat_tests))

pub whole_taken : (input : List ℕ) (schema : SchemaData) → TakesSchema is_luhn (take 65537 input) schema → TakesSchema is_luhn input schema
whole_taken input schema takes = subst (λ (t : List ℕ). TakesSchema is_luhn t schema) (no_longer input takes.declares.0) takes

pub whole_refused : (input : List ℕ) (why : SchemaRefusal) → RefusesSchema is_luhn (take 65537 input) why → RefusesSchema is_luhn input why
whole_refused input why (not_confluent schema which example declares refuted is) =
    subst (λ (t : List ℕ). RefusesSchema is_luhn t why) (no_longer input declares.0) (not_confluent schema which example declares refuted is)
whole_refused input why (fault first (inr within) is) = subst (λ (t : List ℕ). RefusesSchema is_luhn t why) (no_longer input within.0) (fault first (inr within) is)
whole_refused input why (fault first (inl over) is) = by_case (nat_lt 65536 (length input)) refl
  where
    by_case : (b : Bool) → nat_lt 65536 (length input) ≡ b → RefusesSchema is_luhn input why
    by_case true e = fault first (inl (grind (arith, nat_tests), over.1, over.2)) is
    by_case false e = let few : length input ≤ 65536 = grind (arith, nat_tests) in let all = ap length (take_all 65537 input (omega arith)) in let much = over.0 in absurd (omega (arith, all))

-- ---- what a text that was read answers

pub confluent_read : {R : Type 0} (refusal_of : SchemaRefusal → R) (before after : Option (List ℕ)) (read : List ℕ) (schema : SchemaData) (outcome : OutcomeOf R)
    → ReadsText 65536 before after read → TakesSchema is_luhn read schema → Prints outcome (codes "confluent\n") → CheckAnswer refusal_of before after outcome
confluent_read refusal_of None after read schema outcome reads takes prints = confluent read schema tt takes prints
confluent_read refusal_of (Some input) after read schema outcome reads takes prints =
    confluent input schema (refl, reads.1) (whole_taken input schema (subst (λ (t : List ℕ). TakesSchema is_luhn t schema) reads.0 takes)) prints

pub refused_read : {R : Type 0} (refusal_of : SchemaRefusal → R) (before after : Option (List ℕ)) (read : List ℕ) (why : SchemaRefusal)
    → ReadsText 65536 before after read → RefusesSchema is_luhn read why → CheckAnswer refusal_of before after (Err (refusal_of why))
refused_read refusal_of None after read why reads refuses = refused read why tt refuses refl
refused_read refusal_of (Some input) after read why reads refuses =
    refused input why (refl, reads.1) (whole_refused input why (subst (λ (t : List ℕ). RefusesSchema is_luhn t why) reads.0 refuses)) refl
