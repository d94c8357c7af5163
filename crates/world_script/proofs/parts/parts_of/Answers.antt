use Rattle.std.proofs.Common.{◌≡◌, arith, rules}
use Rattle.world_script.specs.Scripts.{lines_before}
use Rattle.world_script.proofs.Fronts.{divided, none_passed, one_passed}
use Rattle.world_script.proofs.parts.parts_of.Goals as goal

pub loop-after-init : goal.loop-after-init
loop-after-init c = none_passed c.args.text.now

pub loop-after-preserved : goal.loop-after-preserved
loop-after-preserved c = one_passed c.args.text.now c.loop-after.rest.now c.in-Some.after.now c.loop-after.number c.loop-after.invariant c.in-Some.ensures.passed

pub returns : goal.returns
returns c =
    let here : lines_before c.loop-after.rest.now ≡ 0 = search rules in
    divided c.args.text.now c.loop-after.rest.now c.loop-after.number c.loop-after.invariant here c.requires
