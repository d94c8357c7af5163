use Rattle.std.proofs.Common.{◌≡◌, ◌≤◌, length, take}
use Rattle.std.specs.Vec.{vec_capacity}
use Rattle.ancestry.proofs.ancestry.Ancestry.copy.Given as goal

-- the lists so far are copied, and there is room for all

abbrev pub invariant-loop-preds : goal.invariant-loop-preds
invariant-loop-preds l = record {
  copied : l.members.items ≡ take l.preds-index l.preds-items;
  room : length l.preds-items ≤ vec_capacity l.members;
}

abbrev pub invariant-loop-list : goal.invariant-loop-list
invariant-loop-list l = record {
  copied : l.namers.items ≡ take l.list-index l.list-items;
  room : length l.list-items ≤ vec_capacity l.namers;
}
