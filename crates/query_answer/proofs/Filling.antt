-- Tables that are written one after another.
use Rattle.std.proofs.Common.{◌≡◌, ℕ, zero, suc, ◌+◌, ◌<◌, List, [], ◌∷◌, ◌++◌, length, take, Option, Some, None, slice_get, refl, sym, ap, ◌∙◌, append-nil, append_assoc, arith}
use Rattle.std.specs.List.{zip}
use Rattle.table_model.specs.declared.shown_row.ShownRow.{ShownRow}
use Rattle.schema.specs.declared.table_def.TableDef.{TableDef}
use Rattle.query_answer.specs.Lines.{apart, each_after}
use Rattle.query_answer.specs.TablesJson.{json_table, next_table}

pub nothing : (number : ℕ) (table : Option TableDef) → next_table number table None ≡ []
nothing number None = refl
nothing number (Some table) = refl

-- one more table behind another one
later_more : (before : ℕ) (tables : List TableDef) (lists : List (List ShownRow)) (n : ℕ) → n < length tables
    → each_after 44 json_table (zip (take (suc n) tables) lists)
    ≡ each_after 44 json_table (zip (take n tables) lists) ++ next_table (suc before) (slice_get tables n) (slice_get lists n)
later_more before [] lists n within = absurd (omega arith)
later_more before (table ∷ tables) [] zero within = refl
later_more before (table ∷ tables) [] (suc n) within = sym (nothing (suc before) (slice_get tables n))
later_more before (table ∷ tables) (rows ∷ lists) zero within = append-nil (44 ∷ json_table (table, rows))
later_more before (table ∷ tables) (rows ∷ lists) (suc n) within =
    ap (λ (text : List ℕ). (44 ∷ json_table (table, rows)) ++ text) (later_more before tables lists n (omega arith))
    ∙ sym (append_assoc (44 ∷ json_table (table, rows)) (each_after 44 json_table (zip (take n tables) lists)) (next_table (suc before) (slice_get tables n) (slice_get lists n)))

-- one more table
one_more : (tables : List TableDef) (lists : List (List ShownRow)) (n : ℕ) → n < length tables
    → apart 44 json_table (zip (take (suc n) tables) lists)
    ≡ apart 44 json_table (zip (take n tables) lists) ++ next_table n (slice_get tables n) (slice_get lists n)
one_more [] lists n within = absurd (omega arith)
one_more (table ∷ tables) [] zero within = refl
one_more (table ∷ tables) [] (suc n) within = sym (nothing (suc n) (slice_get tables n))
one_more (table ∷ tables) (rows ∷ lists) zero within = append-nil (json_table (table, rows))
one_more (table ∷ tables) (rows ∷ lists) (suc n) within =
    ap (λ (text : List ℕ). json_table (table, rows) ++ text) (later_more n tables lists n (omega arith))
    ∙ sym (append_assoc (json_table (table, rows)) (each_after 44 json_table (zip (take n tables) lists)) (next_table (suc n) (slice_get tables n) (slice_get lists n)))

-- what was written before, and one more table
pub filled_next : (before out next : List ℕ) (tables : List TableDef) (lists : List (List ShownRow)) (n : ℕ) → n < length tables
    → out ≡ before ++ (91 ∷ apart 44 json_table (zip (take n tables) lists)) → next ≡ out ++ next_table n (slice_get tables n) (slice_get lists n)
    → next ≡ before ++ (91 ∷ apart 44 json_table (zip (take (n + 1) tables) lists))
filled_next before out next tables lists n within so_far added =
    let more : n + 1 ≡ suc n = omega arith in
    let this = next_table n (slice_get tables n) (slice_get lists n) in
    added ∙ ap (λ (text : List ℕ). text ++ this) so_far
    ∙ append_assoc before (91 ∷ apart 44 json_table (zip (take n tables) lists)) this
    ∙ ap (λ (text : List ℕ). before ++ (91 ∷ text)) (sym (one_more tables lists n within))
    ∙ ap (λ (k : ℕ). before ++ (91 ∷ apart 44 json_table (zip (take k tables) lists))) (sym more)
