-- What the words of a command line ask for over a net, by rules.
use Rattle.std.specs.Prelude.{◌≡◌, ℕ, ◌≤◌, List, [], ◌∷◌, Some, codes, decimal}
use Rattle.clap.specs.Words.{App, Text}
use Rattle.command_words.specs.Requests.{Takes, given}
use Rattle.command_words.specs.Words.{command_app, needed, position, value}

-- a request that needs a net, with the words that name the directory and the address, and how many sessions are to be held
pub data NetText : Type 0 where
  sync : Text → Text → NetText
  serve : Text → Text → ℕ → NetText

-- ---- the arguments of each command

-- sync DIR ADDR
abbrev pub sync_app : App
sync_app = command_app (codes "sync") (needed (position (codes "DIR")) ∷ needed (position (codes "ADDR")) ∷ [])

-- serve DIR ADDR --sessions N
abbrev pub serve_app : App
serve_app = command_app (codes "serve") (needed (position (codes "DIR")) ∷ needed (position (codes "ADDR")) ∷ needed (value (codes "sessions")) ∷ [])

-- ---- the rules

-- The words ask for this over a net. `serve` holds 1 to 8 sessions, and their number is spelled in decimal.
pub data AsksNet (words : List Text) : NetText → Type 0 where
  for_sync : (directory address : Text) → Takes (codes "sync") sync_app words → given sync_app words (codes "DIR") ≡ Some directory
      → given sync_app words (codes "ADDR") ≡ Some address → AsksNet words (sync directory address)
  for_serve : (directory address : Text) (sessions : ℕ) → Takes (codes "serve") serve_app words → given serve_app words (codes "DIR") ≡ Some directory
      → given serve_app words (codes "ADDR") ≡ Some address → given serve_app words (codes "sessions") ≡ Some (decimal sessions)
      → 1 ≤ sessions → sessions ≤ 8 → AsksNet words (serve directory address sessions)
