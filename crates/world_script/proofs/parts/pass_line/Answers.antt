use Rattle.std.proofs.Common.{sym, ◌∙◌, rules}
use Rattle.world_script.proofs.Fronts.{none_here, world_here}
use Rattle.world_script.proofs.parts.pass_line.Goals as goal
use Rattle.world_script.proofs.parts.pass_line.Goals.{in_default-via-in-Some+else-not-begins_world, in_default-via-in_default}

pub returns-in_default-clause-here : goal.returns-in_default-clause-here
returns-in_default-clause-here c =
    elim c.in_default.branch [
      | in_default-via-in-Some+else-not-begins_world w ↦
          world_here c.args.text.now w.in-Some.line.now _ w.in-Some.ensures.first (sym w.begins_world.ensures ∙ w.if-not-begins_world.false)
      | in_default-via-in_default w ↦ none_here c.args.text.now (search rules)
    ]
