use Rattle.std.proofs.Common.{◌≡◌, ◌+◌, ◌-◌, ◌∙◌, length, ap, arith}
use Rattle.confluence_test.proofs.Chains.{copies_length}
use Rattle.confluence_test.proofs.examples.at_most_example.Goals as goal

pub twice_after-requires : goal.twice_after-requires
twice_after-requires c =
    let n : length c.push_copies.new.chain ≡ (c.args.count - 1) + length c.in_ok-base.base =
    ap length c.in_ok-push_copies.ensures ∙ copies_length (c.args.count - 1) c.in_ok-row.row c.in_ok-base.base in
    let few = c.in_ok-base.ensures.few in
    let most = c.requires.few in
    omega arith
