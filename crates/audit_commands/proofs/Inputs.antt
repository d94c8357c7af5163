-- What an input is by what was read of it.
use Rattle.std.proofs.Common.{◌≡◌, ◌∙◌, ℕ, ◌<◌, ◌≤◌, Bool, true, false, List, length, refl, sym, subst, length-take, take, Option, None, Some, arith, nat_lt}
use Rattle.std.proofs.lemmas.List.{take_all}
use Rattle.std.proofs.lemmas.Bool.Decides.{nat_tests}
use Rattle.update_model.specs.declared.author_key.AuthorKey.{AuthorKey}
use Rattle.schema_verdict.specs.Inputs.{IsWholeText, ReadsText}
use Rattle.audit_text.specs.Certificates.{HoldsDoubled, HoldsNone}

module _ (short : (bytes : List ℕ) (key : AuthorKey) (index : ℕ) → HoldsDoubled bytes key index → length bytes ≤ 524296) where
  -- where so many bytes were read, they are all
  all_read : (input : List ℕ) → length (take 524297 input) ≤ 524296 → take 524297 input ≡ input
  all_read input small = by (nat_lt 524296 (length input)) refl
    where
      by : (b : Bool) → nat_lt 524296 (length input) ≡ b → take 524297 input ≡ input
      by true e = let many : 524296 < length input = grind (arith, nat_tests) in let taken : length (take 524297 input) ≡ 524297 = simp length-take (omega arith) in absurd (omega (arith, taken, small))
      by false e = let few : length input ≤ 524296 = grind (arith, nat_tests) in take_all 524297 input (omega (arith, few))

  pub confirmed_read : (before after : Option (List ℕ)) (read : List ℕ) (key : AuthorKey) (index : ℕ) → ReadsText 524296 before after read → HoldsDoubled read key index
      → (input : List ℕ) × IsWholeText 524296 before after input × HoldsDoubled input key index
  confirmed_read None after read key index reads held = (read, tt, held)
  confirmed_read (Some input) after read key index reads held =
      let few : length (take 524297 input) ≤ 524296 = subst (λ (t : List ℕ). length t ≤ 524296) reads.0 (short read key index held) in
      (input, (refl, reads.1), subst (λ (t : List ℕ). HoldsDoubled t key index) (reads.0 ∙ all_read input few) held)

  pub refused_read : (before after : Option (List ℕ)) (read : List ℕ) → ReadsText 524296 before after read → HoldsNone read
      → (input : List ℕ) × IsWholeText 524296 before after input × HoldsNone input
  refused_read None after read reads none = (read, tt, none)
  refused_read (Some input) after read reads none = (
    input,
    (refl, reads.1),
    λ key index held.
        let whole : take 524297 input ≡ input = take_all 524297 input (let small = short input key index held in omega (arith, small)) in
        none key index (subst (λ (t : List ℕ). HoldsDoubled t key index) (sym (reads.0 ∙ whole)) held),
  )
