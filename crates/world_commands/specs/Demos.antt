-- What a demonstration prints.
use Rattle.std.specs.Prelude.{◌≡◌, ℕ, List, [], ◌∷◌, ◌++◌, codes, decimal}
use Rattle.std.specs.Io.KnownBytes.{Appends}
use Rattle.demonstration.specs.Demos.{IsCounted, IsDemo}
use Rattle.demonstration.specs.declared.counts.DemoCounts.{DemoCounts}
use Rattle.row_check.specs.Checksum.{is_luhn}
use Rattle.schema_verdict.specs.Written.{Puts, SinkState}
use Rattle.schema_verdict.specs.declared.status.TheConstants.{DONE, OUT_OF_MEMORY}

-- a count on a line of its own
abbrev pub count_line : List ℕ → ℕ → List ℕ
count_line words count = words ++ (decimal count ++ 10 ∷ [])

-- the five counts
abbrev pub counts_text : DemoCounts → List ℕ
counts_text counts =
    count_line (codes "updates ") counts.updates ++ (count_line (codes "heads ") counts.heads ++ (count_line (codes "list ") counts.lists
    ++ (count_line (codes "task ") counts.tasks ++ count_line (codes "void ") counts.voids)))

-- The counts of a demonstration by this number of so many updates are written; or memory ran out, and nothing is written.
pub data TellsDemo (number count : ℕ) (sink sink_new : SinkState) (status : ℕ) : Type 0 where
  counted : (counts : DemoCounts) → IsCounted is_luhn counts → IsDemo number count counts → Puts sink.faults sink_new.faults sink.held sink_new.held DONE (counts_text counts) status
      → TellsDemo number count sink sink_new status
  uncounted : status ≡ OUT_OF_MEMORY → Appends sink.held sink_new.held [] → TellsDemo number count sink sink_new status
