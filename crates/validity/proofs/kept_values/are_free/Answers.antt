use Rattle.std.proofs.Common.{[], sym, ◌∙◌}
use Rattle.validity.specs.Asked.{freed_by}
use Rattle.validity.proofs.Taken.{none_kept}
use Rattle.validity.proofs.kept_values.are_free.Goals as goal

pub returns-then-not-is_one_kept : goal.returns-then-not-is_one_kept
returns-then-not-is_one_kept g c =
    none_kept c.args.schema.now.tables (g.Q.RowsAt.equal_count c.args.rows.now) (freed_by c.args.schema.now.tables (g.Q.RowsAt.row c.args.rows.now) c.args.deleted.now) [] c.args.own.now
    (sym c.is_one_kept.ensures ∙ c.if-not-is_one_kept.true)
