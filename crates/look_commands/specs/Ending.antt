-- The exit status where one update is asked for, and none fits or several do.
use Rattle.std.specs.Prelude.{ℕ, ◌&&◌, ◌==◌, Bool, false, length, if◌then◌else◌, Option, Ok}
use Rattle.command_words.specs.LookRequests.{LookText, One, Show, Updates, Who}
use Rattle.outcomes.specs.Outcome.{Outcome}
use Rattle.schema_verdict.specs.declared.status.TheConstants.{DONE, REFUSED}

-- whether one update is asked for, and none fits or several do
abbrev pub lacks_one : LookText → Outcome → Bool
lacks_one (One directory (Updates (Show id full json))) (Ok text) = length text.items == 0
lacks_one (One directory (Updates (Who row full json))) (Ok text) = length text.items == 0
lacks_one request outcome = false

-- the exit status of what is said with this one: where one update is asked for and it is not there, nothing is said, and that is refused
abbrev pub status_with : Bool → ℕ → ℕ
status_with lacking status = if lacking && (status == DONE) then REFUSED else status
