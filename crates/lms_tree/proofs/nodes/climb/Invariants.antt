use Rattle.std.proofs.Common.{◌≡◌, ◌*◌, ◌/◌, ◌^◌, take, drop}
use Rattle.lms_tree.specs.Tree.{climbed}
use Rattle.lms_tree.proofs.nodes.climb.Given as goal

abbrev pub invariant-loop-level : goal.invariant-loop-level
invariant-loop-level l = record {
  place : l.node ≡ l.fn.r / 2 ^ l.level;
  so_far : l.value ≡ climbed l.ident (λ level. take 32 (drop (32 * level) l.path)) l.fn.r l.fn.leaf l.level;
}
