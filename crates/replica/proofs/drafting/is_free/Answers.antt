use Rattle.std.proofs.Common.{map, ap, not, sym, ◌∙◌}
use Rattle.std.specs.Option.{is_some}
use Rattle.update_model.proofs.Closed.{position_of-held}
use Rattle.update_codec.specs.Parts.{entry_of}
use Rattle.replica.proofs.drafting.is_free.Goals as goal

pub returns-then-is_none-clause-held : goal.returns-then-is_none-clause-held
returns-then-is_none-clause-held g c =
    λ _. sym (position_of-held (map entry_of c.args.history.now.members) c.args.id.now) ∙ ap is_some (sym c.position.ensures) ∙ c.is_none.ensures ∙ ap not c.if-is_none.true
