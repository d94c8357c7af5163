use Rattle.std.proofs.Common.{sym, subst}
use Rattle.row_check.specs.Kinds.{FitsKinds}
use Rattle.query.specs.Columns.{seen_kinds}
use Rattle.query.specs.Data.{ConditionData}
use Rattle.query.proofs.condition.Condition.holds.Goals as goal

pub eval-requires-after_bounds : goal.eval-requires-after_bounds
eval-requires-after_bounds g c κs within =
    let values = c.args.values.now in
    c.kinds_fit_rows.ensures (seen_kinds c.self.inside.slots.items) values c.self.inside.expr c.self.invariant
    (subst (λ (condition : ConditionData). FitsKinds (seen_kinds condition.slots) values) (sym c.self.view_is) c.requires.kinds)
