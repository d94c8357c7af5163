-- What each kind of fault asks of a line, by its form. A line is judged by these in turn: its form and turn, limits,
-- names, targets, kinds, the references of a MATCH, and the sample.
use Rattle.std.specs.Prelude.{◌≡◌, ℕ, pos, ◌<◌, ◌≤◌, ◌≤ℤ◌, Bool, false, not, ◌&&◌, ◌||◌, ◌==◌, nat_lt, List, length, All, Contains, [], ◌∷◌, ◌++◌, is_none, unwrap_or, true, Option, Some, None, IsTrue, IsSome, MatchOption, bytes_eq}
use Rattle.std.specs.List.{list_any, list_all}
use Rattle.update_model.specs.declared.limits.TheConstants.{MAX_TEXT}
use Rattle.update_model.specs.declared.value.Value.{Value}
use Rattle.update_model.specs.Form.{IsKnownKey}
use Rattle.text_words.specs.declared.literal.Literal.TheVariants as literal
use Rattle.text_words.specs.Names.{is_a_name, is_spelled_as_name}
use Rattle.expression_text.specs.declared.token.Token.{Token}
use Rattle.expression_text.specs.declared.token.Token.TheVariants as token
use Rattle.expression_text.specs.Columns.{IsKnown, HasShortText, column_in}
use Rattle.expression_text.specs.Grammar.{Parses, Disjunction}
use Rattle.row_check.specs.Kinds.{HasKinds}
use Rattle.row_check.specs.Trees.{Tree}
use Rattle.schema.specs.declared.action.Action.{Action}
use Rattle.schema.specs.declared.column.Column.{Column}
use Rattle.schema_text.specs.declared.draft.Draft.{Draft}
use Rattle.schema_text.specs.declared.form.Form.{Form}
use Rattle.schema_text.specs.declared.form.Form.TheVariants as form
use Rattle.schema_text.specs.declared.form.SampleValue.{SampleValue}
use Rattle.schema_text.specs.declared.form.SampleValue.TheVariants as sample
use Rattle.schema_text.specs.declared.form.PlainKind.{PlainKind}
use Rattle.schema_text.specs.declared.form.PlainKind.TheVariants as plain
use Rattle.schema.specs.declared.table_def.TableDef.{TableDef}
use Rattle.row_check.specs.Comparisons.{compares}
use Rattle.row_check.specs.Meaning.{value_at}
use Rattle.schema_text.specs.declared.limits.TheConstants.{MAX_AUTHORS, MAX_ROWS, MAX_TOKENS}
use Rattle.schema.specs.declared.limits.TheConstants.{MAX_CHECKS, MAX_COLUMNS, MAX_MATCHES, MAX_TABLES}
use Rattle.schema.specs.declared.rules.MatchRule.{MatchRule}
use Rattle.schema.specs.Checks.{checks_hold}
use Rattle.schema.specs.Columns.{is_reference, kinds_of, names_of, number_named, column_named, reference_at, reference_named, is_restrict, is_set_null, are_comparable}
use Rattle.schema.specs.Least.{holds_steady, leaves_itself, steady_tables, targets_of}
use Rattle.schema_text.specs.Drafts.{table_at, table_named}
use Rattle.schema_text.specs.Written.{sample_row, plain_count}
use Rattle.schema.specs.Rows.{fits_sample}

-- No name, for its length alone.
abbrev pub is_overlong : List ℕ → Bool
is_overlong name = nat_lt 32 (length name) && is_spelled_as_name name

abbrev pub IsShort : List ℕ → Type 0
IsShort name = is_overlong name ≡ false

abbrev pub HasShortName : Token → Type 0
HasShortName (token.Column name) = IsShort name
HasShortName other = Unit {0}

abbrev pub HasShortValue : SampleValue → Type 0
HasShortValue (sample.Literal (literal.Text bytes)) = length bytes ≤ MAX_TEXT
HasShortValue other = Unit {0}

-- An expression has not too many tokens, and no text or name in it is too long.
abbrev pub AreFewAndShort : List Token → Type 0
AreFewAndShort tokens = (length tokens ≤ MAX_TOKENS) × All HasShortText tokens × All HasShortName tokens

-- whether a UNIQUE of the column with this number stands already
abbrev pub is_unique : TableDef → Option ℕ → Bool
is_unique table None = false
is_unique table (Some column) = list_any (λ rule. rule.column == column) table.uniques

-- whether a table may have one more UNIQUE: one with KEEP LEAST where it has neither a UNIQUE nor an ATMOST, another
-- one where it has none with KEEP LEAST
abbrev pub may_be_unique : TableDef → Bool → Bool
may_be_unique table true = (length table.uniques == 0) && (table.at_most == 0)
may_be_unique table false = is_none table.kept

-- There is room for a column, whose name is not too long.
abbrev pub MayHaveMore : List Column → List ℕ → Type 0
MayHaveMore columns name = (length columns < MAX_COLUMNS) × IsShort name

-- Nothing is too many, too long or there twice.
abbrev pub IsWithinLimits : Draft → Form → Type 0
IsWithinLimits draft (form.Database name) = IsShort name
IsWithinLimits draft (form.Author key) = (length draft.authors < MAX_AUTHORS) × ¬ Contains draft.authors key
IsWithinLimits draft (form.Table name deletable owned) = (length draft.tables < MAX_TABLES) × IsShort name
IsWithinLimits draft (form.Column name kind null) = MayHaveMore draft.table.columns name
IsWithinLimits draft (form.Ref name table act null) = MayHaveMore draft.table.columns name
IsWithinLimits draft (form.Check tokens) = (length draft.table.checks < MAX_CHECKS) × AreFewAndShort tokens
IsWithinLimits draft (form.Match column cmp reference target) = (length draft.table.matches < MAX_MATCHES) × IsShort column × IsShort reference × IsShort target
IsWithinLimits draft (form.Unique column keeps) =
    IsShort column × (is_unique draft.table (number_named draft.table.columns column) ≡ false) × IsTrue (may_be_unique draft.table keeps)
IsWithinLimits draft (form.AtMost count) = (pos 1 ≤ℤ count) × (count ≤ℤ MAX_ROWS) × (draft.table.at_most ≡ 0) × (draft.table.kept ≡ None)
IsWithinLimits draft (form.Sample values) = All HasShortValue values

-- A name that no table has.
abbrev pub IsNewTable : List TableDef → List ℕ → Type 0
IsNewTable tables name = IsTrue (is_a_name name) × (list_any (λ table. bytes_eq table.name name) tables ≡ false)

-- A name that no column has.
abbrev pub IsNewColumn : List Column → List ℕ → Type 0
IsNewColumn columns name = IsTrue (is_a_name name) × (list_any (λ column. bytes_eq column.name name) columns ≡ false)

abbrev pub IsColumn : List Column → List ℕ → Type 0
IsColumn columns name = IsSome (column_named columns name)

-- The target of a reference has this column. Where the column is no reference, none is asked for.
abbrev pub HasTargetColumn : Draft → List ℕ → List ℕ → Type 0
HasTargetColumn draft reference column =
    MatchOption (reference_named draft.table.columns reference) (Unit {0}) (λ r. IsColumn (table_at draft r.0).columns column)

-- New names are names that are not taken, and the others are those of columns.
abbrev pub IsNamed : Draft → Form → Type 0
IsNamed draft (form.Database name) = IsTrue (is_a_name name)
IsNamed draft (form.Author key) = Unit {0}
IsNamed draft (form.Table name deletable owned) = IsNewTable draft.tables name
IsNamed draft (form.Column name kind null) = IsNewColumn draft.table.columns name
IsNamed draft (form.Ref name table act null) = IsNewColumn draft.table.columns name
IsNamed draft (form.Check tokens) = All (IsKnown (names_of draft.table.columns)) tokens
IsNamed draft (form.Match column cmp reference target) =
    IsColumn draft.table.columns column × IsColumn draft.table.columns reference × HasTargetColumn draft reference target
IsNamed draft (form.Unique column keeps) = IsColumn draft.table.columns column
IsNamed draft (form.AtMost count) = Unit {0}
IsNamed draft (form.Sample values) = Unit {0}

-- The table is an earlier one, or its own with NULL, and SETNULL has NULL.
abbrev pub HasGoodTarget : Draft → List ℕ → Action → Bool → Type 0
HasGoodTarget draft table act null =
    MatchOption (table_named draft table) ⊥ (λ number. IsTrue (null || nat_lt number (length draft.tables)) × IsTrue (null || not (is_set_null act)))

-- what the columns of the table that has begun refer to, with one more reference
abbrev pub targets_with : Draft → List ℕ → Action → List (Option (ℕ × Action))
targets_with draft table act = targets_of draft.table.columns ++ Some (unwrap_or (table_named draft table) 0, act) ∷ []

-- A reference is to such a table, and with it no RESTRICT reference is to a table whose rows may be hidden for a
-- lesser one.
abbrev pub IsReference : Draft → List ℕ → Action → Bool → Type 0
IsReference draft table act null =
    HasGoodTarget draft table act null × IsTrue (holds_steady (steady_tables draft.tables) draft.table.kept (targets_with draft table act))

-- The table that has begun holds on to no row of its own by RESTRICT, and does not refer to itself by CASCADE.
abbrev pub MayKeep : Draft → Type 0
MayKeep draft = IsTrue (holds_steady (steady_tables draft.tables) (Some 0) (targets_of draft.table.columns))
    × IsTrue (leaves_itself (length draft.tables) (Some 0) (targets_of draft.table.columns))

-- No line brings in a RESTRICT reference to rows that may be hidden for a lesser one, or a table that keeps the least
-- row and refers to itself by CASCADE.
abbrev pub HasTarget : Draft → Form → Type 0
HasTarget draft (form.Ref name table act null) = IsReference draft table act null
HasTarget draft (form.Unique column true) = MayKeep draft
HasTarget draft other = Unit {0}

-- Bounds that rise, and for lengths are from 0 to the longest of a text in a row.
abbrev pub AreBounds : PlainKind → Type 0
AreBounds (plain.Int lo hi) = lo ≤ℤ hi
AreBounds (plain.Text lo hi) = (pos 0 ≤ℤ lo) × (lo ≤ℤ hi) × (hi ≤ℤ pos MAX_TEXT)
AreBounds plain.Flag = Unit {0}

-- The tokens are this question about columns with these names.
abbrev pub Means : List (List ℕ) → List Token → Tree → Type 0
Means names tokens tree = Parses (column_in names) Disjunction tokens tree

-- An expression over the columns reads plain ones, and compares values of one kind.
abbrev pub IsTypedCheck : List Column → List Token → Type 0
IsTypedCheck columns tokens = (tree : Tree) × Means (names_of columns) tokens tree × HasKinds (kinds_of columns) tree

-- A reference is one, and the column can be compared with that of the target.
abbrev pub IsTypedMatch : Draft → List ℕ → List ℕ → List ℕ → Type 0
IsTypedMatch draft column reference target = MatchOption (reference_named draft.table.columns reference) ⊥
    (λ r. IsTrue (are_comparable (column_named draft.table.columns column) (column_named (table_at draft r.0).columns target)))

-- A column has values of its own, and never null.
abbrev pub IsTypedUnique : List Column → List ℕ → Type 0
IsTypedUnique columns name = MatchOption (column_named columns name) ⊥ (λ column. IsTrue (not (is_reference column.kind) && not column.null))

-- Kinds and bounds go together. A reference stands where one is asked for, and nowhere else.
abbrev pub IsTyped : Draft → Form → Type 0
IsTyped draft (form.Author key) = IsKnownKey key
IsTyped draft (form.Column name kind null) = AreBounds kind
IsTyped draft (form.Check tokens) = IsTypedCheck draft.table.columns tokens
IsTyped draft (form.Match column cmp reference target) = IsTypedMatch draft column reference target
IsTyped draft (form.Unique column keeps) = IsTypedUnique draft.table.columns column
IsTyped draft other = Unit {0}

-- A reference is not RESTRICT.
abbrev pub MayMatch : Draft → List ℕ → Type 0
MayMatch draft reference = MatchOption (reference_named draft.table.columns reference) (Unit {0}) (λ r. IsTrue (not (is_restrict r.1)))

-- A MATCH is along such a reference.
abbrev pub IsMatchable : Draft → Form → Type 0
IsMatchable draft (form.Match column cmp reference target) = MayMatch draft reference
IsMatchable draft other = Unit {0}

-- a comparison of a row's value with the sample of the table that a reference names, which is not asked of a table
-- itself
abbrev pub matches_target : Draft → List Value → MatchRule → Option (ℕ × Action) → Bool
matches_target draft row rule None = false
matches_target draft row rule (Some target) =
    (target.0 == length draft.tables) || compares rule.cmp (value_at row rule.column) (value_at (table_at draft target.0).sample rule.target_column)

-- every MATCH is true of a row
abbrev pub passes_matches : Draft → List Value → Bool
passes_matches draft row = list_all (λ rule. matches_target draft row rule (reference_at draft.table.columns rule.reference)) draft.table.matches

-- A row that the table may have: its values fit the columns, each CHECK is true of it, and so is each MATCH beside the
-- sample of its target.
abbrev pub IsSample : (ℕ → List Value → Bool) → Draft → List Value → Type 0
IsSample ask draft row = IsTrue (fits_sample draft.table.columns row) × IsTrue (checks_hold ask row draft.table.checks) × IsTrue (passes_matches draft row)

-- A sample has a value for each column that is no reference, and is such a row.
abbrev pub HasSample : (ℕ → List Value → Bool) → Draft → Form → Type 0
HasSample relation draft (form.Sample values) =
    (length values ≡ plain_count draft.table.columns) × IsSample relation draft (sample_row draft.table.columns values)
HasSample relation draft other = Unit {0}
