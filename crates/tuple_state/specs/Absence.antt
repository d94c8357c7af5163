-- Why a row is not visible.
use Rattle.std.specs.Prelude.{ℕ, ◌+◌, not, ◌&&◌, List, count_by}
use Rattle.update_model.specs.Node.{NodeData}
use Rattle.table_model.specs.Counts.{one_where}
use Rattle.table_model.specs.Verdicts.{effects_in, effects_of, is_valid, judged}
use Rattle.table_model.specs.Visible.{Rules, TableRow, cascade_refs, is_deleted, is_least, is_visible}

-- how many causes a row has to be absent: the valid updates that delete it, its references by CASCADE to rows that are not
-- visible, and 1 where a lesser candidate of its table has its value in the column of which the table keeps the least row
abbrev pub causes_of : Rules → List NodeData → TableRow → ℕ
causes_of rules nodes row =
    count_by (λ j. is_valid j.verdict && is_deleted (effects_of j.node) row.name) (judged rules nodes)
    + count_by (λ r. not (is_visible rules (effects_in rules nodes) r.name)) (cascade_refs rules row)
    + one_where (not (is_least rules (effects_in rules nodes) (is_visible rules (effects_in rules nodes)) row))
