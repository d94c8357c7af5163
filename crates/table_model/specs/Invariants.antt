-- The invariants that a schema declares, and whether they hold in tables.
use Rattle.std.specs.Prelude.{ℕ, ◌+◌, ◌==◌, Bool, true, not, ◌&&◌, ◌||◌, List, [], ◌∷◌, ◌++◌, map, Option, Some, None, if◌then◌else◌}
use Rattle.std.specs.List.{list_any, list_all}
use Rattle.update_model.specs.declared.value.Value.{Value}
use Rattle.update_model.specs.declared.value.Value.TheVariants as value
use Rattle.update_model.specs.Node.{NodeData}
use Rattle.row_check.specs.Meaning.{value_at}
use Rattle.row_check.specs.Trees.{Tree, holds_tree}
use Rattle.schema.specs.declared.action.Action.{Action}
use Rattle.schema.specs.declared.column.Column.{Column}
use Rattle.table_model.specs.declared.invariant.Invariant.{Invariant}
use Rattle.table_model.specs.declared.invariant.InvariantKind.{InvariantKind}
use Rattle.table_model.specs.declared.invariant.InvariantKind.TheVariants as kind
use Rattle.schema.specs.declared.rules.MatchRule.{MatchRule}
use Rattle.schema.specs.declared.rules.UniqueRule.{UniqueRule}
use Rattle.schema.specs.declared.table_def.TableDef.{TableDef}
use Rattle.schema.specs.Checks.{CheckData}
use Rattle.schema.specs.Columns.{target_of}
use Rattle.table_model.specs.Visible.{Rules, TableRow, same_row, shown_rows}
use Rattle.table_model.specs.Verdicts.{effects_in, in_table, keeps_least, unique_holds, at_most_holds, matches_among}

-- what an invariant says
pub data Claim : Type 0 where
  -- no two rows of the table are equal in the column
  Unique : (table column : ℕ) → Claim
  -- the same, where of candidates with equal values the one with the least name is visible
  UniqueKept : (table column : ℕ) → Claim
  -- the table has at most so many rows
  AtMost : (table count : ℕ) → Claim
  -- where the table's column is not null, it names a row of the target
  Refers : (table column target : ℕ) (act : Action) → Claim
  -- the question is true of each row of the table
  Check : (table : ℕ) (tree : Tree) → Claim
  -- the comparison is true of each row of the table and the row that it names
  Match : (table : ℕ) (rule : MatchRule) → Claim

-- an invariant by its place, and what it says
pub record Declared : Type 0 where
  pub which : Invariant
  pub claim : Claim

-- what each item declares, from this number on
abbrev pub each_from : {X : Type 0} → (ℕ → X → List Declared) → ℕ → List X → List Declared
each_from declares number [] = []
each_from declares number (x ∷ xs) = declares number x ++ each_from declares (number + 1) xs

abbrev pub declared_at : InvariantKind → ℕ → ℕ → ℕ → Claim → List Declared
declared_at kind table place line claim = record { which = record { kind = kind; table = table; place = place; line = line }; claim = claim } ∷ []

abbrev pub unique_declared : Option ℕ → ℕ → ℕ → UniqueRule → List Declared
unique_declared kept table place rule =
    if keeps_least kept rule.column then declared_at kind.UniqueKept table place rule.line (UniqueKept table rule.column)
    else declared_at kind.Unique table place rule.line (Unique table rule.column)

abbrev pub at_most_declared : ℕ → TableDef → List Declared
at_most_declared number table =
    if table.at_most == 0 then [] else declared_at kind.AtMost number 0 table.at_most_line (AtMost number table.at_most)

abbrev pub refers_declared : ℕ → ℕ → ℕ → Option (ℕ × Action) → List Declared
refers_declared table place line None = []
refers_declared table place line (Some target) = declared_at kind.Reference table place line (Refers table place target.0 target.1)

abbrev pub reference_declared : ℕ → ℕ → Column → List Declared
reference_declared table place column = refers_declared table place column.line (target_of column.kind)

abbrev pub check_declared : ℕ → ℕ → CheckData → List Declared
check_declared table place rule = declared_at kind.Check table place rule.line (Check table rule.tree)

abbrev pub match_declared : ℕ → ℕ → MatchRule → List Declared
match_declared table place rule = declared_at kind.Match table place rule.line (Match table rule)

-- The invariants of a table: the UNIQUE lines, ATMOST, the references, and the CHECK and MATCH lines.
abbrev pub table_declared : ℕ → TableDef → List Declared
table_declared number table =
    each_from (unique_declared table.kept number) 0 table.uniques
    ++ at_most_declared number table
    ++ each_from (reference_declared number) 0 table.columns
    ++ each_from (check_declared number) 0 table.checks
    ++ each_from (match_declared number) 0 table.matches

-- the invariants of a schema, table by table
abbrev pub invariants_of : Rules → List Declared
invariants_of rules = each_from table_declared 0 rules.tables

-- what they say
abbrev pub claims_of : List Declared → List Claim
claims_of declared = map (λ d. d.claim) declared

-- whether a reference is null or names a row of the target table among these
abbrev pub names_shown : List TableRow → ℕ → Value → Bool
names_shown rows target (value.Row name) = list_any (λ row. same_row row.name name && (row.table == target)) rows
names_shown rows target other = true

-- whether a test is true of each row of a table
abbrev pub each_row : List TableRow → ℕ → (TableRow → Bool) → Bool
each_row rows table test = list_all (λ row. not (in_table table row) || test row) rows

-- whether what an invariant says is true of shown rows
abbrev pub claim_holds : Rules → List TableRow → Claim → Bool
claim_holds rules rows (Unique table column) = unique_holds rows table column
claim_holds rules rows (UniqueKept table column) = unique_holds rows table column
claim_holds rules rows (AtMost table count) = at_most_holds rows table count
claim_holds rules rows (Refers table column target act) = each_row rows table (λ row. names_shown rows target (value_at row.values column))
claim_holds rules rows (Check table tree) = each_row rows table (λ row. holds_tree rules.ask row.values tree)
claim_holds rules rows (Match table rule) = each_row rows table (λ row. matches_among rows row.values rule (value_at row.values rule.reference))

-- the shown rows of a closed list
abbrev pub shown_in : Rules → List NodeData → List TableRow
shown_in rules nodes = shown_rows rules (effects_in rules nodes)

-- whether these invariants hold in a closed list
abbrev pub satisfies : Rules → List NodeData → List Claim → Bool
satisfies rules nodes claims = list_all (claim_holds rules (shown_in rules nodes)) claims
