-- Steps of growing a chain by what is needed.
use Rattle.std.proofs.Common.{◌≡◌, ℕ, ◌+◌, ◌-◌, ◌<◌, ◌≤◌, zero, suc, Bool, true, false, cond, List, [], ◌∷◌, ◌++◌, length, drop, refl, sym, ap, ◌∙◌, arith, Option, None}
use Rattle.schema.specs.declared.column.Column.{Column}
use Rattle.schema.specs.Columns.{target_of}
use Rattle.table_model.specs.Visible.{Rules, table_of}
use Rattle.confluence_laws.specs.Examples.{Item, has_table, item_of, needed_by, needed_tables, needed_but, for_each, need, base_of}
use Rattle.confluence_test.proofs.Listing.{drop_all}

pub needed_plain_but : (number : ℕ) (columns : List Column) → needed_but None number columns ≡ needed_tables columns
needed_plain_but number [] = refl
needed_plain_but number (c ∷ cs) = ap (λ l. needed_by c.null (target_of c.kind) ++ l) (needed_plain_but (number + 1) cs)

pub each_of_both : (grow : List Item → ℕ → List Item) (xs ys : List ℕ) (items : List Item) → for_each grow (xs ++ ys) items ≡ for_each grow ys (for_each grow xs items)
each_of_both grow [] ys items = refl
each_of_both grow (x ∷ xs) ys items = each_of_both grow xs ys (grow items x)

-- no more columns
pub need_end : (grow : List Item → ℕ → List Item) (skip : Option ℕ) (columns : List Column) (i : ℕ) (grown final : List Item) → length columns ≤ i
    → for_each grow (needed_but skip i (drop i columns)) grown ≡ final → grown ≡ final
need_end grow skip columns i grown final h told = sym (ap (λ (l : List Column). for_each grow (needed_but skip i l) grown) (drop_all columns i h)) ∙ told

-- the rows that a table's rows need
pub base_is : (rules : Rules) (table : ℕ) (items grown : List Item) → items ≡ [] → grown ≡ for_each (need rules table) (needed_but None 0 (table_of rules table).columns) items → grown ≡ base_of rules table
base_is rules table items grown none told =
    told ∙ ap (for_each (need rules table) (needed_but None 0 (table_of rules table).columns)) none
    ∙ ap (λ (l : List ℕ). for_each (need rules table) l []) (needed_plain_but 0 (table_of rules table).columns)

-- a needed row that is there already, or is too deep
pub need_kept : (rules : Rules) (depth : ℕ) (items : List Item) (table : ℕ) → has_table items table ≡ true → items ≡ need rules depth items table
unfolding need
need_kept rules zero items table h = refl
need_kept rules (suc depth) items table h =
    sym (ap (λ (b : Bool). cond b items (item_of rules (for_each (need rules depth) (needed_tables (table_of rules table).columns) items) table ∷ for_each (need rules depth) (needed_tables (table_of rules table).columns) items)) h)

pub need_none : (rules : Rules) (depth : ℕ) (items : List Item) (table : ℕ) → depth ≡ 0 → items ≡ need rules depth items table
unfolding need
need_none rules zero items table h = refl
need_none rules (suc depth) items table h = absurd (omega arith)

-- a new one
pub need_new : (rules : Rules) (depth : ℕ) (items grown : List Item) (item : Item) (table : ℕ) → 0 < depth → has_table items table ≡ false
    → grown ≡ for_each (need rules (depth - 1)) (needed_but None 0 (table_of rules table).columns) items → item ≡ item_of rules grown table → item ∷ grown ≡ need rules depth items table
unfolding need
need_new rules zero items grown item table some new is made = absurd (omega arith)
need_new rules (suc depth) items grown item table some new is made =
    let lower : suc depth - 1 ≡ depth = omega arith in
    let plain : grown ≡ for_each (need rules depth) (needed_tables (table_of rules table).columns) items =
    is ∙ ap (λ (d : ℕ). for_each (need rules d) (needed_but None 0 (table_of rules table).columns) items) lower
    ∙ ap (λ (l : List ℕ). for_each (need rules depth) l items) (needed_plain_but 0 (table_of rules table).columns) in
    ap (λ (x : Item). x ∷ grown) made ∙ ap (λ (l : List Item). item_of rules l table ∷ l) plain
    ∙ sym (ap (λ (b : Bool). cond b items (item_of rules (for_each (need rules depth) (needed_tables (table_of rules table).columns) items) table ∷ for_each (need rules depth) (needed_tables (table_of rules table).columns) items)) new)
