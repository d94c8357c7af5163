-- How much there is in a store, a line for each count. A blank is the byte 32, and an LF is 10.
use Rattle.std.specs.Prelude.{ℕ, List, [], ◌∷◌, ◌++◌, length, codes}
use Rattle.std.specs.Fmt.{decimal}
use Rattle.schema.specs.declared.table_def.TableDef.{TableDef}
use Rattle.table_model.specs.declared.shown_row.ShownRow.{ShownRow}
use Rattle.page_text.specs.declared.counts.Counts.{Counts}
use Rattle.page_text.specs.Parts.{each_listed}

-- words, and a count behind them
unfoldable pub count_line : List ℕ → ℕ → List ℕ
count_line words count = words ++ (32 ∷ (decimal count ++ 10 ∷ []))

-- how many rows a table shows
unfoldable pub rows_line : TableDef → List ShownRow → List ℕ
rows_line table rows = codes "rows of " ++ count_line table.name (length rows)

-- the counts of updates
unfoldable pub counts_text : Counts → List ℕ
counts_text counts = count_line (codes "updates") counts.updates ++ (count_line (codes "heads") counts.heads ++ count_line (codes "void") counts.voids)

-- the counts of updates, and then for each table how many rows it shows
unfoldable pub status_text : Counts → List TableDef → List (List ShownRow) → List ℕ
status_text counts tables lists = counts_text counts ++ each_listed rows_line tables lists
