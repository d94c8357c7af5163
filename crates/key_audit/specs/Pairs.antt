-- The least update of some, and the least beside it that says something else, as they are found by going through the
-- updates once.
use Rattle.std.specs.Prelude.{◌≡◌, ◌≢◌, ℕ, Bool, List, [], ◌∷◌, Option, Some, None, MatchOption, if◌then◌else◌}
use Rattle.std.specs.Ordering.{is_lt}
use Rattle.std.specs.Str.{bytes_eq}
use Rattle.update_model.specs.Entry.{id_cmp}
use Rattle.update_codec.specs.Parts.{id_of}
use Rattle.key_audit.specs.Doubles.{message_of}
use Rattle.key_audit.specs.Entries.{IsAny, IsLeast}

-- a first update, and a second one where there is one
pub record Pair : Type 0 where
  pub first : List ℕ
  pub second : Option (List ℕ)

-- The first of a pair is the least update of a set, and the second the least of those whose message is not that of
-- the first.
pub record IsPairOf (set : List ℕ → Type 0) (pair : Pair) : Type 0 where
  pub first : IsLeast set IsAny pair.first
  pub second : MatchOption pair.second
      ((other : List ℕ) → set other → message_of other ≡ message_of pair.first)
      (λ second. IsLeast set (λ other. message_of other ≢ message_of pair.first) second)

-- What is known of a set: nothing where it is empty, and else its pair.
abbrev pub IsFound : (List ℕ → Type 0) → Option Pair → Type 0
IsFound set None = (update : List ℕ) → set update → ⊥
IsFound set (Some pair) = IsPairOf set pair

-- whether an id is below another
abbrev pub is_less : List ℕ → List ℕ → Bool
is_less a b = is_lt (id_cmp (id_of a) (id_of b))

-- whether two updates have one message
abbrev pub same_message : List ℕ → List ℕ → Bool
same_message a b = bytes_eq (message_of a) (message_of b)

-- the lesser of an update and of one that may be there
abbrev pub lesser : Option (List ℕ) → List ℕ → List ℕ
lesser None update = update
lesser (Some other) update = if is_less update other then update else other

-- A pair once one more update was seen. Below the first, it becomes the first: the old first was the least of all, so
-- it is the least of those that say something else, unless it says the same.
abbrev pub noted_in : Pair → List ℕ → Pair
noted_in pair update =
    if is_less update pair.first
    then record { first = update; second = if same_message update pair.first then pair.second else Some pair.first }
    else (if same_message update pair.first then pair else record { first = pair.first; second = Some (lesser pair.second update) })

-- the same where there may be no pair yet
abbrev pub noted : Option Pair → List ℕ → Pair
noted None update = record { first = update; second = None }
noted (Some pair) update = noted_in pair update

-- the pair of all these updates, behind those of which a pair was found
abbrev pub pair_after : Option Pair → List (List ℕ) → Option Pair
pair_after found [] = found
pair_after found (update ∷ updates) = pair_after (Some (noted found update)) updates
