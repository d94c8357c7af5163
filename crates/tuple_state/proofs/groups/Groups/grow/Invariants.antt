use Rattle.std.proofs.Common.{◌≡◌, ◌+◌, ◌++◌, ◌≤◌, length, take}
use Rattle.std.specs.Vec.{vec_capacity}
use Rattle.tuple_state.specs.Grouped.{AreGroupsOf}
use Rattle.tuple_state.proofs.groups.Groups.grow.Given as goal

-- the groups of the rows so far are known, and there is room for all
abbrev pub invariant-loop-number : goal.invariant-loop-number
invariant-loop-number l = record {
  groups : AreGroupsOf l.shapes (l.rows ++ take l.number l.inserted) l.self;
  most : l.number ≤ length l.inserted;
  numbers : length l.self.numbers.items ≡ length l.rows + l.number;
  least : length l.self.least.items ≡ length l.rows + l.number;
  nexts : length l.self.nexts.items ≡ length l.rows + l.number;
  room : length l.rows + length l.inserted ≤ vec_capacity l.self.numbers;
  space : length l.rows + length l.inserted ≤ vec_capacity l.self.least;
  way : length l.rows + length l.inserted ≤ vec_capacity l.self.nexts;
}
