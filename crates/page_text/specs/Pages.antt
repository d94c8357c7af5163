-- A page of HTML that shows a store: its tables, the updates that do nothing, and the history as a picture. It loads nothing.
use Rattle.std.specs.Prelude.{ℕ, List, ◌++◌, codes}
use Rattle.schema.specs.declared.table_def.TableDef.{TableDef}
use Rattle.table_model.specs.declared.shown_row.ShownRow.{ShownRow}
use Rattle.table_model.specs.declared.void_line.VoidLine.{VoidLine}
use Rattle.page_text.specs.Parts.{each_listed, table_part, voids_part}

-- what a page begins with
unfoldable pub opening : List ℕ
opening =
    codes "<!doctype html>\n<html lang=\"en\"><head><meta charset=\"utf-8\">"
    ++ codes "<meta name=\"viewport\" content=\"width=device-width\">\n"

-- how a page, its tables, and all else look
unfoldable pub look_of_pages : List ℕ
look_of_pages =
    codes "<style>\nbody { font: 16px/1.5 sans-serif; margin: 2em; color: #222 } table { border-collapse: collapse }"

unfoldable pub look_of_cells : List ℕ
look_of_cells =
    codes " th, td { border: 1px solid #bbb; padding: .3em .7em; text-align: left; vertical-align: top; white-space: pre-wrap }\n"

unfoldable pub look_of_names : List ℕ
look_of_names = codes "th { background: #eee } td:first-child, .id { font-family: monospace; color: #666 }"

unfoldable pub look_of_others : List ℕ
look_of_others =
    codes " .null { color: #aaa } .picture { overflow: auto; border: 1px solid #bbb } tr:target { background: #ffc }\n</style>\n"

unfoldable pub looks : List ℕ
looks = look_of_pages ++ (look_of_cells ++ (look_of_names ++ look_of_others))

-- what stands before the name of the database, and behind it, in the title and above all
unfoldable pub title_end : List ℕ
title_end = codes "</title></head><body>\n"

unfoldable pub title_line : List ℕ → List ℕ
title_line title = codes "<title>" ++ (title ++ title_end)

unfoldable pub heading : List ℕ → List ℕ
heading title = codes "<h1>" ++ (title ++ codes "</h1>\n")

-- the name of the database, in the title and above all
unfoldable pub titled : List ℕ → List ℕ
titled title = title_line title ++ heading title

-- what stands above the picture of the history, and what ends the page
unfoldable pub history_begin : List ℕ
history_begin = codes "<h2>History</h2>\n<div class=\"picture\">\n"

unfoldable pub closing : List ℕ
closing = codes "</div>\n</body></html>\n"

-- the picture of the history, and the end of the page
unfoldable pub history : List ℕ → List ℕ
history picture = history_begin ++ (picture ++ closing)

-- all that stands above the tables
unfoldable pub front : List ℕ → List ℕ
front title = opening ++ (looks ++ titled title)

-- all that stands below the tables
unfoldable pub back : List VoidLine → List ℕ → List ℕ
back voids picture = voids_part voids ++ history picture

-- a page of the database with this name, whose tables have these rows, with the updates that do nothing and with this picture
unfoldable pub page_text : List ℕ → List TableDef → List (List ShownRow) → List VoidLine → List ℕ → List ℕ
page_text title tables lists voids picture = front title ++ (each_listed table_part tables lists ++ back voids picture)
