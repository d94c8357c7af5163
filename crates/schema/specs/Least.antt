-- Tables that keep the least row of each value, and those whose rows can be hidden for it.
use Rattle.std.specs.Prelude.{◌≡◌, ℕ, ◌==◌, Bool, true, false, not, ◌&&◌, ◌||◌, List, [], ◌∷◌, ◌++◌, length, map, slice_index_or, Option, Some, None, is_none, MatchOption}
use Rattle.std.specs.List.{list_all}
use Rattle.schema.specs.declared.action.Action.{Action}
use Rattle.schema.specs.declared.column.Column.{Column}
use Rattle.schema.specs.declared.rules.UniqueRule.{UniqueRule}
use Rattle.schema.specs.declared.table_def.TableDef.{TableDef}
use Rattle.schema.specs.Columns.{target_of, is_cascade, is_restrict}

-- what columns refer to, each by its own
abbrev pub targets_of : List Column → List (Option (ℕ × Action))
targets_of columns = map (λ column. target_of column.kind) columns

-- whether a reference, of the table behind those of which it is known which are steady, is not by CASCADE, or is to its own table
-- or to a steady one
abbrev pub is_led_steady : List Bool → Option (ℕ × Action) → Bool
is_led_steady known None = true
is_led_steady known (Some target) = not (is_cascade target.1) || (target.0 == length known) || slice_index_or known target.0 false

-- A table behind these is steady where it keeps no least row, and each other table that it refers to by CASCADE is steady. So no
-- row of it is hidden for a lesser one, itself or on its way.
abbrev pub is_steady_behind : List Bool → Option ℕ → List (Option (ℕ × Action)) → Bool
is_steady_behind known kept targets = is_none kept && list_all (is_led_steady known) targets

-- which of these tables are steady, behind those of which it is known
abbrev pub steady_behind : List Bool → List TableDef → List Bool
steady_behind known [] = known
steady_behind known (table ∷ tables) = steady_behind (known ++ is_steady_behind known table.kept (targets_of table.columns) ∷ []) tables

-- which of these tables are steady
abbrev pub steady_tables : List TableDef → List Bool
steady_tables tables = steady_behind [] tables

-- whether the table with this number is steady
abbrev pub is_steady : List TableDef → ℕ → Bool
is_steady tables number = slice_index_or (steady_tables tables) number false

-- whether a reference is not RESTRICT, or is to a table that is steady
abbrev pub is_held_steady : List Bool → Option (ℕ × Action) → Bool
is_held_steady steady None = true
is_held_steady steady (Some target) = not (is_restrict target.1) || slice_index_or steady target.0 false

-- whether each RESTRICT reference of a table behind those of which it is known is to a steady one, itself included
abbrev pub holds_steady : List Bool → Option ℕ → List (Option (ℕ × Action)) → Bool
holds_steady known kept targets = list_all (is_held_steady (known ++ is_steady_behind known kept targets ∷ [])) targets

-- whether a reference is not one by CASCADE to the table with this number
abbrev pub is_led_away : ℕ → Option (ℕ × Action) → Bool
is_led_away number None = true
is_led_away number (Some target) = not (is_cascade target.1) || not (target.0 == number)

-- whether a table keeps no least row, or does not refer to itself by CASCADE
abbrev pub leaves_itself : ℕ → Option ℕ → List (Option (ℕ × Action)) → Bool
leaves_itself number None targets = true
leaves_itself number (Some column) targets = list_all (is_led_away number) targets

-- A table that keeps the least row of a column has one UNIQUE, of this column, and no ATMOST.
abbrev pub IsKeptAlone : List UniqueRule → ℕ → Option ℕ → Type 0
IsKeptAlone uniques at_most kept = MatchOption kept (Unit {0}) (λ column. (rule : UniqueRule) × (uniques ≡ rule ∷ []) × (rule.column ≡ column) × (at_most ≡ 0))
