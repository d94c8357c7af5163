use Rattle.table_model.specs.Visible.{rules_with}
use Rattle.replica.proofs.opening.open_declared.Goals as goal

pub over-requires-clause-unlimited : goal.over-requires-clause-unlimited
over-requires-clause-unlimited g c κs within = c.accepted_is_unlimited.ensures (rules_with g.L.Relation.answer c.args.declared.schema.tables) c.requires.taken.accepted
