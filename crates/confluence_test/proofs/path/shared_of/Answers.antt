use Rattle.std.proofs.Common.{◌≡◌, ◌≤◌, ◌∙◌, length, ap, arith}
use Rattle.confluence_laws.specs.Examples.{Step, need, for_each}
use Rattle.table_model.specs.Visible.{bare_rules}
use Rattle.confluence_test.proofs.Paths.{needed_of, shared_next, shared_end}
use Rattle.confluence_test.proofs.path.shared_of.Goals as goal

pub loop-step-preserved : goal.loop-step-preserved
loop-step-preserved c =
    let rules = bare_rules c.args.schema.now.tables in
    let grow = need rules c.args.table in
    let grown : c.need_all_but.new.chain ≡ for_each grow (needed_of rules c.step-item.result) c.loop-step.shared =
    c.in_ok-need_all_but.ensures.needed ∙ ap (λ (s : Step). for_each grow (needed_of rules s) c.loop-step.shared) c.step.view_is in
    record {
      needed = shared_next rules grow c.args.back.now c.loop-step.step-index c.step-item.result c.loop-step.shared c.need_all_but.new.chain _ c.loop-step-test.true c.step-item.is grown c.loop-step.invariant.needed;
      once = c.in_ok-need_all_but.ensures.once;
    }

pub returns-clause-shared : goal.returns-clause-shared
returns-clause-shared c =
    let rules = bare_rules c.args.schema.now.tables in
    let end : length c.args.back.now ≤ c.loop-step.step-index = omega arith in
    shared_end rules c.args.back.now c.loop-step.step-index c.args.table c.args.column c.loop-step.shared c.need_all_but-2.new.chain end c.in_ok-need_all_but-2.ensures.needed c.loop-step.invariant.needed
