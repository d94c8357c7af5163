use Rattle.std.proofs.Common.{◌≡◌, [], drop}
use Rattle.expression_text.specs.Columns.{column_in}
use Rattle.expression_text.specs.Machine.{Begun, run}
use Rattle.expression_text.specs.Views.{reading_of, frames_of}
use Rattle.expression_text.proofs.building.build.Given as goal

-- the tokens that are left lead to where all lead
abbrev pub invariant-loop-token : goal.invariant-loop-token
invariant-loop-token l =
    run (column_in l.names) (reading_of l.progress, frames_of l.pending.items) (drop l.token-index l.tokens) ≡ run (column_in l.names) (Begun, []) l.tokens
