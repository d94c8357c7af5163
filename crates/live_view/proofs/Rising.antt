-- The lines of a named query rise.
use Rattle.std.proofs.Common.{◌≡◌, ◌∙◌, ℕ, Bool, List, [], ◌∷◌, length, map, filter, Some, None, Option, refl, sym, ap, subst}
use Rattle.std.specs.List.{AllByRecursion, IsDistinct}
use Rattle.std.specs.List.Sorted.{IsPermutation, IsSorted, IsStrictlySortedBy}
use Rattle.std.specs.declared.cmp.Ordering.TheVariants.{Less}
use Rattle.std.specs.Ordering.{eq_by_cmp}
use Rattle.std.proofs.lemmas.List.Sorted.{IsPermutation-sym}
use Rattle.std.proofs.lemmas.Map.Keys.{IsDistinct-from_sorted}
use Rattle.update_model.specs.declared.row_name.RowName.{RowName}
use Rattle.update_model.specs.declared.value.Value.{Value}
use Rattle.update_model.specs.declared.value.Value.TheVariants as value
use Rattle.update_model.specs.Node.{NodeData}
use Rattle.table_model.specs.declared.shown_row.ShownRow.{ShownRow}
use Rattle.table_model.specs.Tables.{name_cmp}
use Rattle.table_model.specs.Visible.{Rules}
use Rattle.table_model.proofs.Rising.{distinct_kept, name_cmp_total, rising_from_sort}
use Rattle.query.specs.declared.item.Item.{Item}
use Rattle.query.specs.declared.item.Key.{Key}
use Rattle.query.specs.declared.source.Source.{Source}
use Rattle.query.specs.declared.source.Source.TheVariants as source
use Rattle.query.specs.Queries.{QueryData}
use Rattle.query_answer.specs.Answers.{AnswerData, IsAnswer, IsAnswerOver, limited, picked}
use Rattle.query_answer.specs.Order.{row_cmp}
use Rattle.query_answer.specs.Values.{is_asked, rows_in, value_of}
use Rattle.query_answer.proofs.Showing.{shown_rising}
use Rattle.live_view.specs.Named.{BeginWithName, IsNamed, RiseByName, name_in, named_cmp}

-- a line begins with the name of its row
named_line : (tables : List (List ShownRow)) (columns : List Item) (row : ShownRow) → BeginWithName columns → name_in (picked tables columns row) ≡ row.name
named_line tables [] row named = absurd named
named_line tables (item ∷ items) row named = ap (λ (s : Source). name_in (value_of tables row s ∷ map (λ it. value_of tables row it.source) items)) named

each_line : (tables : List (List ShownRow)) (columns : List Item) (row : ShownRow) (rows : List ShownRow) → BeginWithName columns
    → AllByRecursion (λ name. name_cmp row.name name ≡ Less) (map (λ (r : ShownRow). r.name) rows)
    → AllByRecursion (λ line. named_cmp (picked tables columns row) line ≡ Less) (map (picked tables columns) rows)
each_line tables columns row [] named all = tt
each_line tables columns row (other ∷ rows) named all =
    let a = named_line tables columns row named in
    let b = named_line tables columns other named in
    (subst (λ (x : RowName). name_cmp x (name_in (picked tables columns other)) ≡ Less) (sym a) (subst (λ (x : RowName). name_cmp row.name x ≡ Less) (sym b) all.0), each_line tables columns row rows named all.1)

lines_rise : (tables : List (List ShownRow)) (columns : List Item) (rows : List ShownRow) → BeginWithName columns → IsStrictlySortedBy name_cmp (map (λ (r : ShownRow). r.name) rows)
    → RiseByName (map (picked tables columns) rows)
unfolding IsStrictlySortedBy
lines_rise tables columns [] named rising = tt
lines_rise tables columns (row ∷ rows) named rising = (each_line tables columns row rows named rising.0, lines_rise tables columns rows named rising.1)

-- the rows of an answer without keys rise by their names
rows_rise : (tables : List (List ShownRow)) (asked : ShownRow → Bool) (all rows : List ShownRow) → IsStrictlySortedBy name_cmp (map (λ (r : ShownRow). r.name) all)
    → IsPermutation rows (filter asked all) → IsSorted (row_cmp tables []) rows → IsStrictlySortedBy name_cmp (map (λ (r : ShownRow). r.name) rows)
rows_rise tables asked all rows rising moved sorted =
    rising_from_sort (λ (r : ShownRow). r.name) name_cmp name_cmp_total (filter asked all) rows (IsPermutation-sym rows (filter asked all) moved)
    (distinct_kept (λ (r : ShownRow). r.name) (eq_by_cmp name_cmp) asked all (IsDistinct-from_sorted name_cmp (map (λ (r : ShownRow). r.name) all) rising)) sorted

pub named_rise : (rules : Rules) (nodes : List NodeData) (query : QueryData) (answer : AnswerData) → IsNamed query → IsAnswerOver rules nodes query answer → RiseByName answer.rows
named_rise rules nodes query answer named over =
    let tables = over.tables in
    let rising = shown_rising rules nodes (length rules.tables) tables over.shown query.table in
    let sorted : IsSorted (row_cmp tables []) over.is.rows = subst (λ (keys : List Key). IsSorted (row_cmp tables keys) over.is.rows) named.keys over.is.ordered in
    let up = rows_rise tables (is_asked rules.ask tables query.condition) (rows_in tables query.table) over.is.rows rising over.is.exact sorted in
    let all : answer.rows ≡ map (picked tables query.columns) over.is.rows =
    over.is.values ∙ ap (λ (limit : Option ℕ). map (picked tables query.columns) (limited limit over.is.rows)) named.limit in
    subst RiseByName (sym all) (lines_rise tables query.columns over.is.rows named.columns up)
