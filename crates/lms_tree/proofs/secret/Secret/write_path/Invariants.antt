use Rattle.std.proofs.Common.{◌≡◌, ◌+◌, ◌*◌, ◌/◌, ◌^◌, take}
use Rattle.lm_ots.specs.Joined.{joined}
use Rattle.lms_tree.specs.LmsKind.{height, leaf_count}
use Rattle.lms_tree.specs.Tree.{node_of, sibling}
use Rattle.lms_tree.specs.SecretKey.{value_of_leaf}
use Rattle.lms_tree.proofs.secret.Secret.write_path.Given as goal

abbrev pub invariant-loop-level : goal.invariant-loop-level
invariant-loop-level l = record {
  place : l.node ≡ (leaf_count l.self.lms + l.fn.q) / 2 ^ l.level;
  written : take (32 * l.level) l.out ≡ joined (λ level. node_of l.self.ident (value_of_leaf l.self) (height l.self.lms) level (sibling ((leaf_count l.self.lms + l.fn.q) / 2 ^ level))) l.level;
}
