use Rattle.std.proofs.Common.{◌∙◌}
use Rattle.tuple_state.proofs.Lookups.{visible_now}
use Rattle.tuple_state.proofs.tables.Tables.visible.Goals as goal

pub returns : goal.returns
returns c rules nodes held = c.is_shown.ensures ∙ visible_now rules nodes c.args.self.now held c.args.row.now
