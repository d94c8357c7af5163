-- What is read of a text.
use Rattle.std.specs.Prelude.{◌≡◌, ℕ, ◌+◌, List, take, drop, Some, IfSome}
use Rattle.std.specs.declared.option.Option.{Option}

-- what is read of a text that may have so many bytes: one byte more, at most
abbrev pub ReadsText : ℕ → Option (List ℕ) → Option (List ℕ) → List ℕ → Type 0
ReadsText limit before after text = IfSome before (λ input. (text ≡ take (limit + 1) input) × (after ≡ Some (drop (limit + 1) input)))

-- This is the whole text that the source has, of which one byte more than this limit is read at most.
abbrev pub IsWholeText : ℕ → Option (List ℕ) → Option (List ℕ) → List ℕ → Type 0
IsWholeText limit before after text = IfSome before (λ input. (text ≡ input) × (after ≡ Some (drop (limit + 1) input)))
