use Rattle.std.proofs.Common.{◌≡◌, ◌≤◌, [], drop, length}
use Rattle.table_model.specs.Visible.{rules_with}
use Rattle.validity.specs.Asked.{verdict_asked}
use Rattle.validity.proofs.judging.judge_operations.Given as goal

-- the operations that are left decide
abbrev pub invariant-loop-op : goal.invariant-loop-op
invariant-loop-op g l = record {
  few : length l.op-items ≤ 256;
  number : l.done.number ≡ l.op-index;
  rest :
      verdict_asked (rules_with g.L.Relation.answer l.schema.tables) (g.Q.RowsAt.row l.rows) (g.Q.RowsAt.has_child l.rows) (g.Q.RowsAt.equal_count l.rows) l.node
      l.done.number l.done.own.items l.done.deleted.items (drop l.op-index l.op-items)
      ≡ verdict_asked (rules_with g.L.Relation.answer l.schema.tables) (g.Q.RowsAt.row l.rows) (g.Q.RowsAt.has_child l.rows) (g.Q.RowsAt.equal_count l.rows) l.node 0 [] [] l.op-items;
}
