-- Tables that are told one after another.
use Rattle.std.proofs.Common.{◌≡◌, ℕ, zero, suc, ◌+◌, ◌<◌, List, [], ◌∷◌, ◌++◌, length, take, Option, Some, None, slice_get, refl, sym, ap, ◌∙◌, append-nil, append_assoc, arith}
use Rattle.table_model.specs.declared.shown_row.ShownRow.{ShownRow}
use Rattle.schema.specs.declared.table_def.TableDef.{TableDef}
use Rattle.page_text.specs.Parts.{each_listed, listed}

-- one more table
one_more : (text : TableDef → List ShownRow → List ℕ) (tables : List TableDef) (lists : List (List ShownRow)) (n : ℕ) → n < length tables
    → each_listed text (take (suc n) tables) lists ≡ each_listed text (take n tables) lists ++ listed text (slice_get tables n) (slice_get lists n)
one_more text [] lists n within = absurd (omega arith)
one_more text (table ∷ tables) [] zero within = refl
one_more text (table ∷ tables) (rows ∷ lists) zero within = append-nil (text table rows)
one_more text (table ∷ tables) [] (suc n) within = nothing (slice_get tables n)
  where
    nothing : (o : Option TableDef) → [] ≡ listed text o None
    nothing None = refl
    nothing (Some other) = refl
one_more text (table ∷ tables) (rows ∷ lists) (suc n) within =
    ap (λ (told : List ℕ). text table rows ++ told) (one_more text tables lists n (omega arith))
    ∙ sym (append_assoc (text table rows) (each_listed text (take n tables) lists) (listed text (slice_get tables n) (slice_get lists n)))

-- what was told before, and one more table
pub listed_next : (text : TableDef → List ShownRow → List ℕ) (before out next : List ℕ) (tables : List TableDef) (lists : List (List ShownRow)) (n : ℕ) → n < length tables
    → out ≡ before ++ each_listed text (take n tables) lists → next ≡ out ++ listed text (slice_get tables n) (slice_get lists n)
    → next ≡ before ++ each_listed text (take (n + 1) tables) lists
listed_next text before out next tables lists n within so_far added =
    let more : n + 1 ≡ suc n = omega arith in
    added ∙ ap (λ (told : List ℕ). told ++ listed text (slice_get tables n) (slice_get lists n)) so_far
    ∙ append_assoc before (each_listed text (take n tables) lists) (listed text (slice_get tables n) (slice_get lists n))
    ∙ ap (λ (told : List ℕ). before ++ told) (sym (one_more text tables lists n within))
    ∙ ap (λ (k : ℕ). before ++ each_listed text (take k tables) lists) (sym more)
