-- Tables that are printed one after another.
use Rattle.std.proofs.Common.{◌≡◌, ℕ, zero, suc, ◌+◌, ◌<◌, List, [], ◌∷◌, ◌++◌, length, take, Option, Some, None, slice_get, refl, sym, ap, ◌∙◌, append-nil, append_assoc, arith}
use Rattle.table_model.specs.declared.shown_row.ShownRow.{ShownRow}
use Rattle.schema.specs.declared.table_def.TableDef.{TableDef}
use Rattle.table_text.specs.Tables.{table_text, pair_text, filled_text}

-- one more table
one_more : (tables : List TableDef) (lists : List (List ShownRow)) (n : ℕ) → n < length tables
    → filled_text (take (suc n) tables) lists ≡ filled_text (take n tables) lists ++ pair_text (slice_get tables n) (slice_get lists n)
one_more [] lists n within = absurd (omega arith)
one_more (table ∷ tables) [] zero within = refl
one_more (table ∷ tables) (rows ∷ lists) zero within = append-nil (table_text table rows)
one_more (table ∷ tables) [] (suc n) within = nothing (slice_get tables n)
  where
    nothing : (o : Option TableDef) → [] ≡ pair_text o None
    nothing None = refl
    nothing (Some other) = refl
one_more (table ∷ tables) (rows ∷ lists) (suc n) within =
    ap (λ (text : List ℕ). table_text table rows ++ text) (one_more tables lists n (omega arith))
    ∙ sym (append_assoc (table_text table rows) (filled_text (take n tables) lists) (pair_text (slice_get tables n) (slice_get lists n)))

-- what was printed before, and one more table
pub filled_next : (before out next : List ℕ) (tables : List TableDef) (lists : List (List ShownRow)) (n : ℕ) → n < length tables
    → out ≡ before ++ filled_text (take n tables) lists → next ≡ out ++ pair_text (slice_get tables n) (slice_get lists n)
    → next ≡ before ++ filled_text (take (n + 1) tables) lists
filled_next before out next tables lists n within so_far added =
    let more : n + 1 ≡ suc n = omega arith in
    added ∙ ap (λ (text : List ℕ). text ++ pair_text (slice_get tables n) (slice_get lists n)) so_far
    ∙ append_assoc before (filled_text (take n tables) lists) (pair_text (slice_get tables n) (slice_get lists n))
    ∙ ap (λ (text : List ℕ). before ++ text) (sym (one_more tables lists n within))
    ∙ ap (λ (k : ℕ). before ++ filled_text (take k tables) lists) (sym more)
