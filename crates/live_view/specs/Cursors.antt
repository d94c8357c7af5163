-- Going through rising lines beside others.
use Rattle.std.specs.Prelude.{◌≡◌, ◌≢◌, List, [], ◌∷◌, ◌++◌}
use Rattle.std.specs.List.{AllByRecursion}
use Rattle.std.specs.declared.cmp.Ordering.TheVariants.{Less}
use Rattle.live_view.specs.Named.{named_cmp}
use Rattle.live_view.specs.Changes.{Line}

-- The first of these lines is this one.
abbrev pub begins_with : List Line → Line → Type 0
begins_with [] line = ⊥
begins_with (first ∷ lines) line = first ≡ line

-- The first of these lines comes before this one.
abbrev pub BeginsBefore : List Line → Line → Type 0
BeginsBefore [] line = ⊥
BeginsBefore (first ∷ lines) line = named_cmp first line ≡ Less

-- The first of these lines does not come before this one.
abbrev pub BeginsAt : List Line → Line → Type 0
BeginsAt [] line = Unit {0}
BeginsAt (first ∷ lines) line = named_cmp first line ≢ Less

-- Lines that all come before this one were passed, up to the first that does not.
pub record Passes (lines : List Line) (line : Line) (rest : List Line) : Type 0 where
  pub passed : List Line
  pub parts : lines ≡ passed ++ rest
  pub before : AllByRecursion (λ other. named_cmp other line ≡ Less) passed
  pub stops : BeginsAt rest line
