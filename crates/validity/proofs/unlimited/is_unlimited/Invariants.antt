use Rattle.std.proofs.Common.{◌≡◌, drop}
use Rattle.std.specs.List.{list_all}
use Rattle.table_model.specs.Verdicts.{is_unlimited}
use Rattle.validity.proofs.unlimited.is_unlimited.Given as goal

-- the tables that are left decide
abbrev pub invariant-loop-number : goal.invariant-loop-number
invariant-loop-number l = list_all is_unlimited (drop l.number l.schema.tables) ≡ list_all is_unlimited l.schema.tables
