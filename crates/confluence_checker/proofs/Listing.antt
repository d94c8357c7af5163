-- Lists of tables, and the tables of a closed list.
use Rattle.std.proofs.Common.{◌≡◌, ℕ, zero, suc, ◌+◌, ◌⊎◌, inl, inr, List, [], ◌∷◌, ◌++◌, length, map, filter, reverse, refl, sym, ap, ◌∙◌, subst, length-append, Some, slice_get}
use Rattle.std.specs.List.Sorted.{IsPermutation, IsStrictlySortedBy}
use Rattle.update_model.specs.Entry.{id_cmp}
use Rattle.update_model.specs.Node.{NodeData}
use Rattle.table_model.specs.declared.shown_row.ShownRow.{ShownRow}
use Rattle.table_model.specs.declared.void_line.VoidLine.{VoidLine}
use Rattle.table_model.specs.Invariants.{shown_in}
use Rattle.table_model.specs.Tables.{AreTablesOf, listed, void_lines}
use Rattle.table_model.specs.Verdicts.{in_table, judged}
use Rattle.table_model.specs.Visible.{Rules, TableRow}
use Rattle.table_model.proofs.Rising.{arrived_exact}
use Rattle.confluence_checker.specs.Sorting.{AreLists, AreRowsAmong}

get_pushed : {X : Type 0} (xs : List X) (y s : X) (k : ℕ) → slice_get (xs ++ y ∷ []) k ≡ Some s → (slice_get xs k ≡ Some s) ⊎ ((k ≡ length xs) × (y ≡ s))
get_pushed [] y s zero h = inr (refl, (cc))
get_pushed [] y s (suc k) h = absurd cc
get_pushed (x ∷ xs) y s zero h = inl h
get_pushed (x ∷ xs) y s (suc k) h = elim (get_pushed xs y s k h) [ inl e ↦ inl e | inr e ↦ inr (ap suc e.0, e.1) ]

pub lists_next : (count : ℕ) (rows : List TableRow) (lists new : List (List ShownRow)) (shown : List ShownRow) → AreLists count rows lists → AreRowsAmong rows count shown → new ≡ lists ++ shown ∷ [] → AreLists (count + 1) rows new
lists_next count rows lists new shown all one pushed = subst (AreLists (count + 1) rows) (sym pushed) (record {
  number = length-append lists (shown ∷ []) ∙ ap (λ n. n + 1) all.number;
  rows_of = λ number other h. elim (get_pushed lists shown other number h) [
    | inl e ↦ all.rows_of number other e
    | inr e ↦ subst (λ (l : List ShownRow). AreRowsAmong rows number l) e.1 (subst (λ (n : ℕ). AreRowsAmong rows n shown) (sym (e.0 ∙ all.number)) one)
  ];
})

-- the tables of a closed list, and its lines
pub tables_are : (rules : Rules) (nodes : List NodeData) (tables : List (List ShownRow)) (lines sorted : List VoidLine) (rows : List TableRow) → rows ≡ shown_in rules nodes
    → AreLists (length rules.tables) rows tables → reverse lines ≡ void_lines (judged rules nodes) → IsStrictlySortedBy id_cmp (map (λ line. line.id) sorted) → IsPermutation sorted lines
    → AreTablesOf rules nodes tables sorted
tables_are rules nodes tables lines sorted rows is all arrived rising moved = record {
  number = all.number;
  rows = λ number shown h.
      let one = all.rows_of number shown h in
      record {
        rising = one.rising;
        exact = subst (λ (l : List TableRow). IsPermutation shown (map listed (filter (in_table number) l))) is one.exact;
      };
  voids = record { rising = rising; exact = arrived_exact sorted lines (void_lines (judged rules nodes)) moved arrived };
}
