use Rattle.std.proofs.Common.{◌∙◌, List, map, filter, ap, ap₂}
use Rattle.std.proofs.lemmas.List.Sorted.{IsPermutation-trans}
use Rattle.query.specs.declared.item.Item.{Item}
use Rattle.query_answer.specs.declared.line.Line.{Line}
use Rattle.query_answer.specs.Answers.{picked}
use Rattle.query_answer.specs.Rows.{rows_of}
use Rattle.query_answer.specs.Values.{is_asked, rows_in}
use Rattle.query_answer.proofs.Lending.{kept_listed}
use Rattle.query_answer.proofs.Sorting.{first_rows, row_of, rows_exact, rows_ordered, sorted_rows}
use Rattle.query_answer.proofs.answering.answer_rows.Goals as goal

pub returns : goal.returns
returns g c = λ lists are.
    let query = c.args.query.now in
    let keys = query.keys.items in
    let asked = is_asked g.L.Relation.answer lists query.condition in
    let rows = filter asked (rows_of c.args.rows query.table) in
    let lines = c.in_ok-lines.lines.items in
    record {
      rows = sorted_rows lists keys rows;
      exact = IsPermutation-trans (sorted_rows lists keys rows) rows (filter asked (rows_in lists query.table)) (rows_exact lists keys rows) (kept_listed asked c.args.rows lists are query.table);
      ordered = rows_ordered lists keys rows;
      columns = c.in_ok-columns.ensures ∙ ap (λ (items : List Item). map (λ item. item.name) items) c.as_slice-items.ensures.value;
      values = c.in_ok-values.ensures lists are
          ∙ ap₂ (λ (items : List Item) (xs : List Line). map (λ line. picked lists items (row_of line)) xs) c.as_slice-items.ensures.value c.as_slice.ensures.value
          ∙ first_rows lists keys (picked lists query.columns.items) query.limit rows lines (c.in_ok-lines.ensures lists are);
    }
