use Rattle.std.proofs.Common.{◌≡◌, take}
use Rattle.outcomes.specs.Texts.{printed}
use Rattle.node_commands.proofs.commands.heads.heads_text.Given as goal

abbrev pub invariant-loop-id : goal.invariant-loop-id
invariant-loop-id l = l.text.items ≡ printed (take l.id-index l.heads)
