-- When ids are heads.
use Rattle.std.specs.Prelude.{◌<◌, ◌+◌, ◌&&◌, ◌++◌, ◌∷◌, [], ℕ, zero, suc, Bool, true, not, cond, List, Option, Some, None, IfSome, is_none, ltb}
use Rattle.update_model.specs.declared.update_id.UpdateId.{UpdateId}
use Rattle.head_set.specs.declared.span.Span.{Span}

-- whether a head with this end, if it has one, is a head still after so many adds
abbrev pub lasts : Option ℕ → ℕ → Bool
lasts None n = true
lasts (Some until) n = not (ltb until n)

-- whether an id with this span is a head after so many adds
abbrev pub is_head : Span → ℕ → Bool
is_head span n = ltb span.since n && lasts span.until n

-- whether an id with this span is a head after any add
abbrev pub has_moment : Span → Bool
has_moment span = lasts span.until (span.since + 1)

-- the ids that are heads after so many adds
unfoldable pub heads_at : List (UpdateId × Span) → ℕ → List UpdateId
heads_at [] n = []
heads_at (e ∷ es) n = cond (is_head e.1 n) (e.0 ∷ heads_at es n) (heads_at es n)

-- the heads after each of so many adds
unfoldable pub states : List (UpdateId × Span) → ℕ → List (List UpdateId)
states es zero = []
states es (suc n) = states es n ++ heads_at es (suc n) ∷ []

-- Each span began, and each end was set, in the first adds, so many.
pub record IsBefore (n : ℕ) (span : Span) : Type 0 where
  pub began : span.since < n
  pub ended : IfSome span.until (λ until. until < n)

abbrev pub AreBefore : List (UpdateId × Span) → ℕ → Type 0
AreBefore [] n = Unit {0}
AreBefore (e ∷ es) n = IsBefore n e.1 × AreBefore es n

-- the ids whose spans have no end
unfoldable pub unended : List (UpdateId × Span) → List UpdateId
unended [] = []
unended (e ∷ es) = cond (is_none e.1.until) (e.0 ∷ unended es) (unended es)

-- the end, if it was set in the first adds, so many
abbrev pub end_in : Option ℕ → ℕ → Option ℕ
end_in None n = None
end_in (Some until) n = cond (ltb until n) (Some until) None

-- what the first adds, so many, made of a span
abbrev pub cut_span : Span → ℕ → Span
cut_span span n = record { since = span.since; until = end_in span.until n }
