use Rattle.std.proofs.Common.{sym, ◌∙◌}
use Rattle.table_model.specs.Visible.{rules_with}
use Rattle.confluence_checker.proofs.Wanted.{breaks_found, closed_sides}
use Rattle.confluence_checker.proofs.confirming.confirm.Goals as goal

pub found_in-requires-after_bounds : goal.found_in-requires-after_bounds
found_in-requires-after_bounds g c κs within = (closed_sides c.args.left.now c.args.right.now c.args.both.now (sym c.are_closed.ensures ∙ c.if-not-are_closed.false)).0

pub found_in-requires-2-after_bounds : goal.found_in-requires-2-after_bounds
found_in-requires-2-after_bounds g c κs within = (closed_sides c.args.left.now c.args.right.now c.args.both.now (sym c.are_closed.ensures ∙ c.if-not-are_closed.false)).1

pub found_in-requires-3-after_bounds : goal.found_in-requires-3-after_bounds
found_in-requires-3-after_bounds g c κs within = (closed_sides c.args.left.now c.args.right.now c.args.both.now (sym c.are_closed.ensures ∙ c.if-not-are_closed.false)).2

pub returns : goal.returns
returns g c = λ earlier later declared split same.
    c.is_shown.ensures
    ∙ breaks_found (rules_with g.L.Relation.answer c.args.checker.now.schema.now.tables) c.args.which.now earlier later declared c.args.left.now c.args.right.now c.args.both.now c.in_ok-on_left.on_left c.in_ok-on_right.on_right
    c.in_ok-on_both.on_both split same (sym c.are_closed.ensures ∙ c.if-not-are_closed.false) c.in_ok-on_left.ensures c.in_ok-on_right.ensures c.in_ok-on_both.ensures
