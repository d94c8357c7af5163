use Rattle.std.proofs.Common.{◌≡◌, ◌++◌, drop}
use Rattle.validity.specs.Asked.{freed_by}
use Rattle.validity.proofs.kept_values.freed_by.Given as goal

-- with what the names that are left leave free it is all
abbrev pub invariant-loop-name : goal.invariant-loop-name
invariant-loop-name g l =
    l.freed.items ++ freed_by l.schema.tables (g.Q.RowsAt.row l.rows) (drop l.name-index l.names) ≡ freed_by l.schema.tables (g.Q.RowsAt.row l.rows) l.names
