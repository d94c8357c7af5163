use Rattle.std.proofs.Common.{List, subst}
use Rattle.std.specs.List.{AllByRecursion}
use Rattle.row_check.specs.Checksum.{is_luhn}
use Rattle.world_commands.proofs.Doing.{Going, going_begins, going_on}
use Rattle.world_commands.proofs.running.run_lines.Goals as goal
use Rattle.world_script.specs.Lines.{HasForm}
use Rattle.world_script.specs.declared.line.Line.{Line}

pub loop-line-init : goal.loop-line-init
loop-line-init c = record {
  form = c.requires.form;
  runs = c.requires.runs;
  going = going_begins is_luhn c.args.lines.now c.args.world.now c.args.report.now.items;
}

pub loop-line-preserved : goal.loop-line-preserved
loop-line-preserved c =
    let all = c.args.lines.now in
    let parts = c.in-Some.ensures.cases.0 in
    let so_far = subst (λ (ls : List Line). Going is_luhn all ls c.args.world.now c.loop-line.world c.args.report.now.items c.loop-line.report.items) parts c.loop-line.invariant.going in
    record {
      form = (subst (AllByRecursion HasForm) parts c.loop-line.invariant.form).1;
      runs = c.in_ok-run_line.ensures.runs;
      going = going_on is_luhn all c.in-Some.line.now c.in-Some.after.now c.args.world.now c.loop-line.world c.run_line.new.world c.args.report.now.items c.loop-line.report.items
          c.run_line.new.report.items so_far c.in_ok-run_line.ensures.happens;
    }
