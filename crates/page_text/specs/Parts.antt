-- The tables of a page, and its updates that do nothing. An LF is the byte 10.
use Rattle.std.specs.Prelude.{ℕ, ◌==◌, if◌then◌else◌, List, [], ◌∷◌, ◌++◌, Option, Some, None, codes}
use Rattle.std.specs.Fmt.{decimal}
use Rattle.std.specs.List.{flat_map}
use Rattle.schema.specs.declared.column.Column.{Column}
use Rattle.schema.specs.declared.table_def.TableDef.{TableDef}
use Rattle.table_model.specs.declared.reason.TheConstants.{NO_TABLE, MISFIT, CHECK_FALSE, NO_TARGET, MATCH_FALSE, NOT_DELETABLE, NOT_OWNER, RESTRICTED}
use Rattle.table_model.specs.declared.shown_row.ShownRow.{ShownRow}
use Rattle.table_model.specs.declared.void_line.VoidLine.{VoidLine}
use Rattle.table_text.specs.declared.name_style.NameStyle.TheVariants.{Full}
use Rattle.table_text.specs.Names.{name_text}
use Rattle.page_text.specs.Cells.{cell_of, cells, short_id, short_name}

-- the line of a row: its short name, and its values. Links lead to it by its whole name.
unfoldable pub row_part : ShownRow → List ℕ
row_part row =
    codes "<tr id=\"r" ++ (name_text Full row.name ++ (codes "\"><td>" ++ (short_name row.name ++ (codes "</td>" ++ (cells row.values ++ codes "</tr>\n")))))

-- that a table has no rows
abbrev pub none_part : List ShownRow → List ℕ
none_part [] = codes "<p>No rows.</p>\n"
none_part (row ∷ rows) = []

-- the head of a column
abbrev pub head_cell : Column → List ℕ
head_cell column = codes "<th>" ++ (column.name ++ codes "</th>")

-- the head of the names of rows, before those of the columns
unfoldable pub heads_begin : List ℕ
heads_begin = codes "</h2>\n<table><tr><th>row</th>"

-- the name of a table
unfoldable pub table_title : List ℕ → List ℕ
table_title name = codes "<h2>" ++ (name ++ heads_begin)

-- the name of a table, and the heads of its columns
unfoldable pub table_head : TableDef → List ℕ
table_head table = table_title table.name ++ (flat_map head_cell table.columns ++ codes "</tr>\n")

-- a table with its rows
unfoldable pub table_part : TableDef → List ShownRow → List ℕ
table_part table rows = table_head table ++ (flat_map row_part rows ++ (codes "</table>\n" ++ none_part rows))

-- What these texts say of each table with its rows, as long as there are both.
abbrev pub each_listed : (TableDef → List ShownRow → List ℕ) → List TableDef → List (List ShownRow) → List ℕ
each_listed text [] lists = []
each_listed text (table ∷ tables) [] = []
each_listed text (table ∷ tables) (rows ∷ lists) = text table rows ++ each_listed text tables lists

-- the same of one table, where there are both
abbrev pub listed : (TableDef → List ShownRow → List ℕ) → Option TableDef → Option (List ShownRow) → List ℕ
listed text None rows = []
listed text (Some table) None = []
listed text (Some table) (Some rows) = text table rows

-- why an update does nothing
abbrev pub why : ℕ → List ℕ
why reason =
    if reason == NO_TABLE then codes "there is no such table"
    else if reason == MISFIT then codes "values do not fit the columns"
    else if reason == CHECK_FALSE then codes "a CHECK is false"
    else if reason == NO_TARGET then codes "a row that it names is not there"
    else if reason == MATCH_FALSE then codes "a MATCH is false"
    else if reason == NOT_DELETABLE then codes "a row cannot be deleted"
    else if reason == NOT_OWNER then codes "it deletes another author's row"
    else if reason == RESTRICTED then codes "a row names the deleted one"
    else codes "another row has this value"

-- the line of an update that does nothing: its short id, why, and the number of the operation
unfoldable pub void_part : VoidLine → List ℕ
void_part line = codes "<tr>" ++ (cell_of (short_id line.id) ++ (cell_of (why line.reason) ++ (cell_of (decimal line.operation) ++ codes "</tr>\n")))

-- what stands above these lines
unfoldable pub voids_head : List ℕ
voids_head =
    codes "<h2>Updates that do nothing</h2>\n<table><tr><th>update</th><th>why</th><th>operation</th></tr>\n"

-- the updates that do nothing, if there are any
unfoldable pub voids_part : List VoidLine → List ℕ
voids_part [] = []
voids_part (line ∷ lines) = voids_head ++ (flat_map void_part (line ∷ lines) ++ codes "</table>\n")
