-- The schema of a demonstration: its text, and the tables that it declares.
use Rattle.std.specs.Prelude.{ℕ, pos, true, false, List, [], ◌∷◌, ◌++◌, codes}
use Rattle.std.specs.List.{flat_map}
use Rattle.update_model.specs.declared.value.Value.{Value}
use Rattle.update_model.specs.declared.value.Value.TheVariants.{Null, Int, Text}
use Rattle.row_check.specs.declared.cmp.Cmp.TheVariants.{Lt, Le, Gt}
use Rattle.row_check.specs.declared.term.Term.TheVariants as term
use Rattle.row_check.specs.Trees.{Tree, Either, Comparison, Absence, Check}
use Rattle.schema.specs.Checks.{CheckData}
use Rattle.schema.specs.Numbers.{no_table}
use Rattle.schema.specs.declared.action.Action.TheVariants.{Cascade, SetNull}
use Rattle.schema.specs.declared.column.Column.{Column}
use Rattle.schema.specs.declared.column.ColumnKind.TheVariants as kind
use Rattle.schema.specs.declared.rules.MatchRule.{MatchRule}
use Rattle.schema.specs.declared.table_def.TableDef.{TableDef}

-- the lines of the text
abbrev pub demo_lines : List (List ℕ)
demo_lines =
    codes "DATABASE tasks"
    ∷ codes "TABLE list DELETABLE"
    ∷ codes "COLUMN title TEXT 1 40"
    ∷ codes "COLUMN cap INT 0 9"
    ∷ codes "SAMPLE \"Home\" 9"
    ∷ codes "TABLE task DELETABLE"
    ∷ codes "COLUMN title TEXT 1 1024"
    ∷ codes "COLUMN prio INT 0 9"
    ∷ codes "COLUMN card TEXT 1 32 NULL"
    ∷ codes "REF list list CASCADE"
    ∷ codes "REF after task SETNULL NULL"
    ∷ codes "CHECK prio < 9 OR LEN title > 3"
    ∷ codes "CHECK card IS NULL OR NATIVE 1 card"
    ∷ codes "MATCH prio <= list.cap"
    ∷ codes "SAMPLE \"Buy\" 3 NULL"
    ∷ []

-- the text, in which each line has an end
abbrev pub demo_text : List ℕ
demo_text = flat_map (λ line. line ++ 10 ∷ []) demo_lines

-- ---- the table of lists

abbrev pub list_title_column : Column
list_title_column = record { name = codes "title"; kind = kind.Text 1 40; null = false; line = 3 }

abbrev pub list_cap_column : Column
list_cap_column = record { name = codes "cap"; kind = kind.Int (pos 0) (pos 9); null = false; line = 4 }

abbrev pub list_columns : List Column
list_columns = list_title_column ∷ list_cap_column ∷ []

abbrev pub list_sample : List Value
list_sample = Text (codes "Home") ∷ Int (pos 9) ∷ []

abbrev pub list_table : TableDef
list_table = record no_table { name = codes "list"; columns = list_columns; deletable = true; sample = list_sample }

-- ---- the table of tasks

abbrev pub task_title_column : Column
task_title_column = record { name = codes "title"; kind = kind.Text 1 1024; null = false; line = 7 }

abbrev pub task_prio_column : Column
task_prio_column = record { name = codes "prio"; kind = kind.Int (pos 0) (pos 9); null = false; line = 8 }

abbrev pub task_card_column : Column
task_card_column = record { name = codes "card"; kind = kind.Text 1 32; null = true; line = 9 }

-- the list that a task is in, table 0
abbrev pub task_list_column : Column
task_list_column = record { name = codes "list"; kind = kind.Reference 0 Cascade; null = false; line = 10 }

-- the task that it comes after, table 1
abbrev pub task_after_column : Column
task_after_column = record { name = codes "after"; kind = kind.Reference 1 SetNull; null = true; line = 11 }

abbrev pub task_columns : List Column
task_columns = task_title_column ∷ task_prio_column ∷ task_card_column ∷ task_list_column ∷ task_after_column ∷ []

-- a priority below 9, or a title of more than 3 bytes
abbrev pub urgent_tree : Tree
urgent_tree = Either (Comparison (term.Column 1) Lt (term.Literal (Int (pos 9)))) (Comparison (term.Length 0) Gt (term.Literal (Int (pos 3))))

abbrev pub urgent_check : CheckData
urgent_check = record { tree = urgent_tree; line = 12 }

-- no card, or one whose checksum is right
abbrev pub card_tree : Tree
card_tree = Either (Absence 2) (Check 1 (2 ∷ []))

abbrev pub card_check : CheckData
card_check = record { tree = card_tree; line = 13 }

-- the priority of a task is at most the cap of its list
abbrev pub cap_match : MatchRule
cap_match = record { column = 1; cmp = Le; reference = 3; target_column = 1; line = 14 }

abbrev pub task_sample : List Value
task_sample = Text (codes "Buy") ∷ Int (pos 3) ∷ Null ∷ Null ∷ Null ∷ []

abbrev pub task_table : TableDef
task_table = record no_table {
  name = codes "task";
  columns = task_columns;
  checks = urgent_check ∷ card_check ∷ [];
  matches = cap_match ∷ [];
  deletable = true;
  sample = task_sample;
}

-- the tables that it declares
abbrev pub demo_tables : List TableDef
demo_tables = list_table ∷ task_table ∷ []
