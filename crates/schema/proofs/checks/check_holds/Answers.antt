use Rattle.std.proofs.Common.{sym, subst}
use Rattle.row_check.specs.Kinds.{HasKinds}
use Rattle.schema.specs.Checks.{CheckData}
use Rattle.schema.specs.Columns.{kinds_of}
use Rattle.schema.proofs.checks.check_holds.Goals as goal

pub eval-requires-after_bounds : goal.eval-requires-after_bounds
eval-requires-after_bounds g c κs within =
    let kinds = kinds_of c.args.columns.now in
    c.kinds_fit_rows.ensures kinds c.args.row.now c.check.inside.expr (subst (λ (check : CheckData). HasKinds kinds check.tree) (sym c.check.view_is) c.requires.sound) c.requires.kinds
