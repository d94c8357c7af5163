-- What the words of a command line ask for of a query that is watched, by rules.
use Rattle.std.specs.Prelude.{◌≡◌, ℕ, ◌≤◌, List, [], ◌∷◌, Option, Some, None, codes, decimal}
use Rattle.clap.specs.Words.{App, Text}
use Rattle.command_words.specs.Requests.{Takes, given}
use Rattle.command_words.specs.Words.{command_app, needed, position, value}

-- a request to watch a query, with the word that names the directory, the text of the query, and how many lines a change has at least
pub data WatchText : Type 0 where
  watch : Text → Text → ℕ → WatchText

-- watch DIR TEXT [--every N]
abbrev pub watch_app : App
watch_app = command_app (codes "watch") (needed (position (codes "DIR")) ∷ needed (position (codes "TEXT")) ∷ value (codes "every") ∷ [])

-- The number of lines that a word writes in decimal: 1 to 4,096, and 1 where there is none.
abbrev pub IsEvery : Option Text → ℕ → Type 0
IsEvery None every = every ≡ 1
IsEvery (Some word) every = (word ≡ decimal every) × (1 ≤ every) × (every ≤ 4096)

-- The words ask for this.
pub data AsksWatch (words : List Text) : WatchText → Type 0 where
  for_watch : (directory text : Text) (every : ℕ) → Takes (codes "watch") watch_app words → given watch_app words (codes "DIR") ≡ Some directory
      → given watch_app words (codes "TEXT") ≡ Some text → IsEvery (given watch_app words (codes "every")) every → AsksWatch words (watch directory text every)
