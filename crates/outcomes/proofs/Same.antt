-- Outcomes that nobody tells apart.
use Rattle.std.proofs.Common.{◌≡◌, ℕ, List, Option, Some, Ok, Err, refl, sym, ap, ◌∙◌}
use Rattle.outcomes.specs.declared.refusal.Refusal.{Refusal}
use Rattle.outcomes.specs.Outcome.{Outcome, status_for, status_of, text_for, text_of}
use Rattle.schema_verdict.specs.Verdict.{Prints}

-- the outcomes are told apart by nobody: one status and one text
abbrev pub Same : Outcome → Outcome → Type 0
Same a b = (status_of a ≡ status_of b) × (text_of a ≡ text_of b)

pub same_prints : (a b : Outcome) (text line : List ℕ) → text ≡ line → Prints a text → Prints b line → Same a b
same_prints (Ok x) (Ok y) text line same p q = (refl, p ∙ same ∙ sym q)
same_prints (Ok x) (Err s) text line same p q = absurd q
same_prints (Err r) b text line same p q = absurd p

pub same_refused : (a b : Outcome) (r s : Refusal) → r ≡ s → a ≡ Err r → b ≡ Err s → Same a b
same_refused a b r s same e f = (ap status_of e ∙ ap status_for same ∙ sym (ap status_of f), ap text_of e ∙ ap text_for same ∙ sym (ap text_of f))

-- what a source has left has one answer
abbrev pub IsOneAnswer : (Option (List ℕ) → Option (List ℕ) → Outcome → Type 0) → Type 0
IsOneAnswer Answer = (input : List ℕ) (after other : Option (List ℕ)) (a b : Outcome) → Answer (Some input) after a → Answer (Some input) other b → Same a b
