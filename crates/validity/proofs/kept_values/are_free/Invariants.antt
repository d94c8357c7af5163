use Rattle.std.proofs.Common.{◌≡◌, [], drop, take}
use Rattle.validity.specs.Asked.{are_free}
use Rattle.validity.proofs.kept_values.are_free.Given as goal

-- the rows that are left decide
abbrev pub invariant-loop-index : goal.invariant-loop-index
invariant-loop-index g l =
    are_free l.schema.tables (g.Q.RowsAt.equal_count l.rows) l.freed.items (take l.index l.own) (drop l.index l.own)
    ≡ are_free l.schema.tables (g.Q.RowsAt.equal_count l.rows) l.freed.items [] l.own
