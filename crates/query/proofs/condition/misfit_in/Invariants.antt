use Rattle.std.proofs.Common.{◌≡◌, ◌+◌, ◌≤◌, drop}
use Rattle.query.specs.Columns.{kind_named}
use Rattle.query.specs.Conditions.{misfit_from, misfit_in}
use Rattle.query.proofs.condition.misfit_in.Given as goal

-- what is wrong first with the words that are left, is with all
abbrev pub invariant-loop-read : goal.invariant-loop-read
invariant-loop-read l = record {
  wrong : misfit_from (kind_named l.schema.tables l.table) l.stand l.left (l.at + l.read) (drop l.read l.words) ≡ misfit_in (kind_named l.schema.tables l.table) l.at l.words;
  deep : l.stand.depth ≤ l.read;
}
