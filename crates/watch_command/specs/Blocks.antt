-- The blocks that `watch` prints. An LF is 10.
use Rattle.std.specs.Prelude.{ℕ, List, [], ◌∷◌, ◌++◌, codes, Option, Some, None}
use Rattle.std.specs.List.{flat_map}
use Rattle.std.specs.Fmt.{decimal}
use Rattle.query_answer.specs.Lines.{row_line}
use Rattle.live_view.specs.Changes.{Line}
use Rattle.live_view.specs.declared.change.Change.{Change}

-- the lines of rows, each behind a mark
abbrev pub marked : List ℕ → List Line → List ℕ
marked mark lines = flat_map (λ line. mark ++ row_line line) lines

-- the line of how many records were read
abbrev pub count_line : ℕ → List ℕ
count_line count = codes "= " ++ (decimal count ++ 10 ∷ [])

-- a block: the lines that went, those that came, and how many records were read
abbrev pub block : List Line → List Line → ℕ → List ℕ
block went came count = marked (codes "- ") went ++ (marked (codes "+ ") came ++ count_line count)

-- the block of a change, where it is told
abbrev pub told_block : Option Change → ℕ → List ℕ
told_block None count = []
told_block (Some change) count = block change.went change.came count

-- the block of these lines, unless there are none
abbrev pub closing_block : List Line → List Line → ℕ → List ℕ
closing_block [] [] count = []
closing_block went came count = block went came count
