use Rattle.std.proofs.Common.{◌≡◌, drop}
use Rattle.schema.specs.Checks.{checks_hold}
use Rattle.schema.proofs.checks.checks_hold.Given as goal

-- the checks that are left decide
abbrev pub invariant-loop-check : goal.invariant-loop-check
invariant-loop-check g l = checks_hold g.L.Relation.answer l.row (drop l.check-index l.checks) ≡ checks_hold g.L.Relation.answer l.row l.checks
