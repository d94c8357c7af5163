-- What the words of a command line ask for of worlds, by rules.
use Rattle.std.specs.Prelude.{◌≡◌, ℕ, ◌<◌, ◌≤◌, ◌^◌, Bool, List, [], ◌∷◌, Some, codes, decimal}
use Rattle.clap.specs.Words.{App, Text, matches_of}
use Rattle.command_words.specs.Requests.{Takes, given}
use Rattle.command_words.specs.Words.{command_app, flag, is_set, needed, position}

-- a request about worlds: the report of a script, audited or not; or a demonstration, with its number and how many updates it makes
pub data WorldText : Type 0 where
  world : Bool → WorldText
  demo : ℕ → ℕ → WorldText

-- world [--audit]
abbrev pub world_app : App
world_app = command_app (codes "world") (flag (codes "audit") ∷ [])

-- demo NUMBER COUNT
abbrev pub demo_app : App
demo_app = command_app (codes "demo") (needed (position (codes "NUMBER")) ∷ needed (position (codes "COUNT")) ∷ [])

-- The words ask for this of worlds. Numbers are written in decimal, without a leading zero; a count is from 4 to 4,000.
pub data AsksWorld (words : List Text) : WorldText → Type 0 where
  for_world : Takes (codes "world") world_app words → AsksWorld words (world (is_set (codes "audit") (matches_of world_app words)))
  for_demo : (number count : ℕ) → Takes (codes "demo") demo_app words → given demo_app words (codes "NUMBER") ≡ Some (decimal number) → number < 2 ^ 64
      → given demo_app words (codes "COUNT") ≡ Some (decimal count) → 4 ≤ count → count ≤ 4000 → AsksWorld words (demo number count)
