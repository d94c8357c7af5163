use Rattle.std.proofs.Common.{◌≤◌, List, length, sym, subst}
use Rattle.schema.specs.declared.column.Column.{Column}
use Rattle.schema_text.proofs.Keeping.{columns_few}
use Rattle.schema_text.proofs.draft.Draft.target_number.Goals as goal

pub number_of-requires : goal.number_of-requires
number_of-requires c = subst (λ (columns : List Column). length columns ≤ 16) (sym c.columns_at.ensures) (columns_few c.args.self.now c.in-Some.table c.requires)
