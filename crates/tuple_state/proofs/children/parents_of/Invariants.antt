use Rattle.std.proofs.Common.{◌≡◌, ◌≤◌, length, take, vec_len}
use Rattle.std.specs.Vec.{vec_capacity}
use Rattle.tuple_state.specs.Causes.{ends_from, parents_from}
use Rattle.tuple_state.specs.State.{rules_over}
use Rattle.tuple_state.proofs.children.parents_of.Given as goal

-- the names of the rows so far, and there is room for the ends of all
abbrev pub invariant-loop-number : goal.invariant-loop-number
invariant-loop-number l = record {
  names : l.names.items ≡ parents_from (rules_over l.fn.shapes) l.first (take l.number l.rows);
  ends : l.ends.items ≡ ends_from (rules_over l.fn.shapes) l.from (take l.number l.rows);
  len : vec_len l.ends ≡ l.number;
  room : length l.rows ≤ vec_capacity l.ends;
}
