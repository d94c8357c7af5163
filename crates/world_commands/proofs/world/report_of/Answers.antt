use Rattle.std.proofs.Common.{ℕ, List, [], subst}
use Rattle.byzantine_world.specs.Codes.{ShowsWorld}
use Rattle.row_check.specs.Checksum.{is_luhn}
use Rattle.world_commands.proofs.Doing.{reported}
use Rattle.world_commands.proofs.world.report_of.Goals as goal
use Rattle.world_commands.specs.Running.{LinesDone}
use Rattle.world_rules.specs.Worlds.{WorldData}
use Rattle.world_script.specs.declared.line.Line.{Line}

pub returns : goal.returns
returns c =
    let begun = c.in_ok-world.world in
    let code = c.run_lines.new.world in
    let out = c.run_lines.new.report.items in
    let from_none = subst (λ (r : List ℕ). (w : WorldData) → ShowsWorld begun w → LinesDone is_luhn w c.as_slice.result.now code r out) c.new-report.ensures.items c.in_ok-run_lines.ensures.happens in
    let run = subst (λ (ls : List Line). (w : WorldData) → ShowsWorld begun w → LinesDone is_luhn w ls code [] out) c.as_slice.ensures from_none in
    reported is_luhn c.args.audit c.args.script.now begun code out c.push_world.new.report.items c.in_ok-world.ensures run c.in_ok-push_world.ensures
