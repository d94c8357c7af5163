-- Chains with one row of a table at most.
use Rattle.std.proofs.Common.{◌≡◌, ℕ, ◌==◌, ◌<◌, ◌≤◌, zero, suc, Bool, true, false, cond, ◌||◌, List, [], ◌∷◌, length, refl, sym, ap, ◌∙◌, subst, arith, Option, None}
use Rattle.std.specs.List.{AllByRecursion}
use Rattle.std.proofs.lemmas.Bool.{ne_eqb, eqb-true, eqb-false}
use Rattle.schema.specs.declared.table_def.TableDef.{TableDef}
use Rattle.schema.specs.Sound.{AreTables}
use Rattle.table_model.specs.Visible.{table_of, bare_rules}
use Rattle.confluence_laws.specs.Examples.{Item, has_table, item_of, needed_tables, needed_but, for_each, need}
use Rattle.confluence_test.specs.Plans.{AreOnce}
use Rattle.confluence_test.proofs.Sounds.{sound_columns, low_but}
use Rattle.confluence_test.proofs.Needing.{needed_plain_but}

-- how many of the first so many tables have a row
abbrev present : List Item → ℕ → ℕ
present items zero = 0
present items (suc count) = cond (has_table items count) (suc (present items count)) (present items count)

present_most : (items : List Item) (count : ℕ) → present items count ≤ count
present_most items zero = omega arith
present_most items (suc count) =
    let before = present_most items count in
    let step : (b : Bool) → cond b (suc (present items count)) (present items count) ≤ suc count = elim [ true ↦ omega arith | false ↦ omega arith ] in
    step (has_table items count)

present_above : (item : Item) (items : List Item) (count : ℕ) → count ≤ item.table → present (item ∷ items) count ≡ present items count
present_above item items zero h = refl
present_above item items (suc count) h =
    let before : present (item ∷ items) count ≡ present items count = present_above item items count (omega arith) in
    let other : (item.table == count) ≡ false = ne_eqb item.table count (λ e. omega arith) in
    ap (λ (b : Bool). cond (b || has_table items count) (suc (present (item ∷ items) count)) (present (item ∷ items) count)) other
    ∙ ap (λ (n : ℕ). cond (has_table items count) (suc n) n) before

present_more : (item : Item) (items : List Item) (count : ℕ) → item.table < count → has_table items item.table ≡ false → present (item ∷ items) count ≡ suc (present items count)
present_more item items zero h new = absurd (omega arith)
present_more item items (suc count) h new =
    let step : (b : Bool) → (item.table == count) ≡ b
    → cond (b || has_table items count) (suc (present (item ∷ items) count)) (present (item ∷ items) count) ≡ suc (cond (has_table items count) (suc (present items count)) (present items count)) =
    elim [
      | true ↦ λ e.
          let same : item.table ≡ count = eqb-true item.table count e in
          let none : has_table items count ≡ false = subst (λ (n : ℕ). has_table items n ≡ false) same new in
          ap suc (present_above item items count (omega arith)) ∙ sym (ap (λ (b : Bool). suc (cond b (suc (present items count)) (present items count))) none)
      | false ↦ λ e.
          let differ : item.table ≡ count → ⊥ = eqb-false item.table count e in
          let before : present (item ∷ items) count ≡ suc (present items count) = present_more item items count (let d : item.table ≡ count → ⊥ = differ in omega arith) new in
          ap (λ (n : ℕ). cond (has_table items count) (suc n) n) before ∙ moved (has_table items count) (present items count)
    ] in
    step (item.table == count) refl
  where
    moved : (b : Bool) (n : ℕ) → cond b (suc (suc n)) (suc n) ≡ suc (cond b (suc n) n)
    moved true n = refl
    moved false n = refl

once_present : (count : ℕ) (items : List Item) → AreOnce count items → present items count ≡ length items
once_present count [] h = nothing count
  where
    nothing : (n : ℕ) → present [] n ≡ 0
    nothing zero = refl
    nothing (suc n) = nothing n
once_present count (item ∷ items) h = present_more item items count h.0 h.1 ∙ ap suc (once_present count items h.2)

-- such a chain has no more rows than there are tables
pub once_few : (count : ℕ) (items : List Item) → AreOnce count items → length items ≤ count
once_few count items h = let n = once_present count items h in let most = present_most items count in omega arith

-- what a step that adds needed rows of a table keeps
pub record KeepsOnce (count : ℕ) (items grown : List Item) (top : ℕ) : Type 0 where
  pub once : AreOnce count grown
  pub above : (u : ℕ) → top ≤ u → has_table grown u ≡ has_table items u

pub once_each : (count : ℕ) (grow : List Item → ℕ → List Item) → ((items : List Item) (t : ℕ) → t < count → AreOnce count items → KeepsOnce count items (grow items t) (suc t))
    → (top : ℕ) → top ≤ count → (tables : List ℕ) → AllByRecursion (λ (u : ℕ). u < top) tables → (items : List Item) → AreOnce count items → KeepsOnce count items (for_each grow tables items) top
once_each count grow one top few [] low items once = record { once = once; above = λ u h. refl }
once_each count grow one top few (t ∷ tables) low items once =
    let below : t < top = low.0 in
    let first = one items t (omega arith) once in
    let rest = once_each count grow one top few tables low.1 (grow items t) first.once in
    record { once = rest.once; above = λ u h. rest.above u h ∙ first.above u (omega arith) }

pub once_need : (tables : List TableDef) → AreTables [] tables → (depth : ℕ) (items : List Item) (t : ℕ) → t < length tables → AreOnce (length tables) items
    → KeepsOnce (length tables) items (need (bare_rules tables) depth items t) (suc t)
unfolding need
once_need tables sound zero items t known once = record { once = once; above = λ u h. refl }
once_need tables sound (suc depth) items t known once =
    let rules = bare_rules tables in
    let needed = needed_tables (table_of rules t).columns in
    let grown = for_each (need rules depth) needed items in
    let low : AllByRecursion (λ (u : ℕ). u < t) needed = subst (AllByRecursion (λ (u : ℕ). u < t)) (needed_plain_but 0 (table_of rules t).columns) (low_but t None 0 (table_of rules t).columns (sound_columns tables sound t)) in
    let keeps = once_each (length tables) (need rules depth) (once_need tables sound depth) t (omega arith) needed low items once in
    let step : (b : Bool) → has_table items t ≡ b → KeepsOnce (length tables) items (cond b items (item_of rules grown t ∷ grown)) (suc t) =
    elim [
      | true ↦ λ e. record { once = once; above = λ u h. refl }
      | false ↦ λ e. record {
        once = (known, keeps.above t (omega arith) ∙ e, keeps.once);
        above = λ u h.
            let other : (t == u) ≡ false = ne_eqb t u (λ same. omega arith) in
            ap (λ (b : Bool). b || has_table grown u) other ∙ keeps.above u (omega arith);
      }
    ] in
    step (has_table items t) refl

-- the same of all that a table's rows need, but for one column
pub once_all : (tables : List TableDef) → AreTables [] tables → (depth : ℕ) (items : List Item) (t : ℕ) (skip : Option ℕ) → t < length tables → AreOnce (length tables) items
    → (grown : List Item) → grown ≡ for_each (need (bare_rules tables) depth) (needed_but skip 0 (table_of (bare_rules tables) t).columns) items → KeepsOnce (length tables) items grown t
once_all tables sound depth items t skip known once grown is =
    subst (λ (l : List Item). KeepsOnce (length tables) items l t) (sym is)
    (once_each (length tables) (need (bare_rules tables) depth) (once_need tables sound depth) t (omega arith) (needed_but skip 0 (table_of (bare_rules tables) t).columns)
    (low_but t skip 0 (table_of (bare_rules tables) t).columns (sound_columns tables sound t)) items once)
