use Rattle.std.proofs.Common.{ap, ◌∙◌, map}
use Rattle.std.specs.Prelude.{is_some}
use Rattle.update_model.proofs.Closed.{position_of-held}
use Rattle.update_codec.specs.Parts.{entry_of}
use Rattle.watch_command.proofs.records.is_held.Goals as goal

pub returns : goal.returns
returns g c = c.is_some.ensures ∙ ap is_some c.position.ensures ∙ position_of-held (map entry_of c.args.replica.now.history.members) c.args.id.now
