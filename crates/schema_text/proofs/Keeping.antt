-- Good lines keep a draft sound.
use Rattle.std.proofs.Common.{◌≡◌, ℕ, zero, suc, ◌+◌, ◌<◌, ◌≤◌, ltb, Bool, true, false, not, ◌&&◌, ◌||◌, cond, List, [], ◌∷◌, ◌++◌, length, refl, sym, ◌∙◌, ap, subst, arith, inl, inr, append_assoc, append-nil, length-append, ℤ, pos, negsuc, ◌≤ℤ◌}
use Rattle.std.specs.Prelude.{Option, Some, None, is_none, ◌==◌, IsSome, MatchOption, slice_get, unwrap_or, bytes_eq, position, option_and_then, nat_abs}
use Rattle.std.specs.List.{AllByRecursion, list_all, position_or_len}
use Rattle.std.proofs.lemmas.Bool.{and_parts, eqb-true, lt-ltb, ltb-true}
use Rattle.std.proofs.lemmas.Int.{ints}
use Rattle.std.proofs.lemmas.List.Folds.{find_at}
use Rattle.std.proofs.lemmas.List.Quantifiers.{position-Some}
use Rattle.expression_text.specs.Columns.{column_in}
use Rattle.row_check.specs.Kinds.{HasKinds}
use Rattle.schema.specs.declared.action.Action.{Action}
use Rattle.schema.specs.declared.column.Column.{Column}
use Rattle.schema.specs.declared.column.ColumnKind.TheVariants as kind
use Rattle.schema_text.specs.declared.draft.Draft.{Draft}
use Rattle.schema_text.specs.declared.form.Form.{Form}
use Rattle.schema_text.specs.declared.form.Form.TheVariants as form
use Rattle.schema_text.specs.declared.form.PlainKind.{PlainKind}
use Rattle.schema_text.specs.declared.form.PlainKind.TheVariants as plain
use Rattle.schema.specs.declared.table_def.TableDef.{TableDef}
use Rattle.schema.specs.Columns.{is_reference, kinds_of, names_of, number_named, column_named, target_of, reference_at, reference_named, is_restrict, are_comparable}
use Rattle.schema.specs.declared.rules.UniqueRule.{UniqueRule}
use Rattle.schema.specs.Least.{IsKeptAlone, holds_steady, is_held_steady, is_led_steady, is_steady_behind, leaves_itself, steady_tables, targets_of}
use Rattle.schema.specs.Numbers.{no_table}
use Rattle.schema_text.specs.Drafts.{start, table_at, table_named, first_some, kind_declared, with_column, with_rules, is_columns, is_in_table, is_turn}
use Rattle.schema_text.specs.Faults.{AreBounds, IsTypedMatch, IsTypedUnique, MayMatch, HasGoodTarget}
use Rattle.schema_text.specs.Steps.{IsAfter, number_of, target_columns, match_rule}
use Rattle.schema.specs.Data.{Meaning, SchemaData}
use Rattle.schema_text.specs.Schemas.{IsGood, Leads, LeadOn, IsComplete, Declares}
use Rattle.schema.specs.Sound.{IsSoundKind, IsSoundColumn, columns_or, IsSoundMatch, IsSoundUnique, IsSoundCheck, IsSoundTable, IsTable, AreTables, IsSchema}
use Rattle.schema_text.specs.Kept.{IsDraft}
use Rattle.schema_text.proofs.Unique.{OneExpression}

all_push : {X : Type 0} (P : X → Type 0) (xs : List X) (x : X) → AllByRecursion P xs → P x → AllByRecursion P (xs ++ x ∷ [])
all_push P [] x h p = (p, tt)
all_push P (y ∷ ys) x h p = (h.0, all_push P ys x h.1 p)

tables_push : (before ts : List TableDef) (t : TableDef) → AreTables before ts → IsTable (before ++ ts) t → AreTables before (ts ++ t ∷ [])
tables_push before [] t a h = (subst (λ (b : List TableDef). IsTable b t) (append-nil before) h, tt)
tables_push before (u ∷ ts) t a h =
    (a.0, tables_push (before ++ u ∷ []) ts t a.1 (subst (λ (b : List TableDef). IsTable b t) (sym (append_assoc before (u ∷ []) ts)) h))

one_more : {X : Type 0} (xs : List X) (x : X) (n : ℕ) → length xs < n → length (xs ++ x ∷ []) ≤ n
one_more xs x n h = omega (arith, length-append xs (x ∷ []))

get_low : {X : Type 0} (xs : List X) (i : ℕ) (x : X) → slice_get xs i ≡ Some x → i < length xs
get_low [] i x h = absurd cc
get_low (y ∷ ys) zero x h = omega arith
get_low (y ∷ ys) (suc i) x h = omega (arith, get_low ys i x h)

-- the column with a name stands at its number
number_stands : (columns : List Column) (name : List ℕ) (c : Column) → column_named columns name ≡ Some c → slice_get columns (number_of columns name) ≡ Some c
number_stands columns name c h =
    let p : Column → Bool = λ column. bytes_eq column.name name in
    let at : slice_get columns (position_or_len p columns) ≡ Some c = sym (find_at p columns) ∙ h in
    let low : position_or_len p columns < length columns = get_low columns (position_or_len p columns) c at in
    let is : number_of columns name ≡ position_or_len p columns =
    ap (λ (b : Bool). unwrap_or (cond b (Some (position_or_len p columns)) None) 0) (lt-ltb (position_or_len p columns) (length columns) low) in
    ap (slice_get columns) is ∙ at

some_value : {X : Type 0} (o : Option X) → IsSome o → (x : X) × (o ≡ Some x)
some_value None h = absurd cc
some_value (Some x) h = (x, refl)

reference_stands : (columns : List Column) (name : List ℕ) → IsSome (column_named columns name) → reference_at columns (number_of columns name) ≡ reference_named columns name
reference_stands columns name h =
    let c = some_value (column_named columns name) h in
    let F : Option Column → Option (ℕ × Action) = λ o. option_and_then (λ (column : Column). target_of column.kind) o in
    ap F (number_stands columns name c.0 c.1) ∙ sym (ap F c.1)

same_columns : (o : Option TableDef) (t : TableDef) → (unwrap_or o t).columns ≡ columns_or o t.columns
same_columns None t = refl
same_columns (Some u) t = refl

left_known : (a b : Option Column) → are_comparable a b ≡ true → IsSome a × IsSome b
left_known None b h = absurd cc
left_known (Some a) None h = absurd cc
left_known (Some a) (Some b) h = (refl, refl)

still_comparable : (d : Draft) (column target : List ℕ) (n : ℕ)
    → are_comparable (column_named d.table.columns column) (column_named (table_at d n).columns target) ≡ true
    → are_comparable (slice_get d.table.columns (number_of d.table.columns column)) (slice_get (columns_or (slice_get d.tables n) d.table.columns) (number_of (table_at d n).columns target)) ≡ true
still_comparable d column target n h =
    let known = left_known (column_named d.table.columns column) (column_named (table_at d n).columns target) h in
    let a = some_value (column_named d.table.columns column) known.0 in
    let b = some_value (column_named (table_at d n).columns target) known.1 in
    let left : slice_get d.table.columns (number_of d.table.columns column) ≡ column_named d.table.columns column = number_stands d.table.columns column a.0 a.1 ∙ sym a.1 in
    let right : slice_get (table_at d n).columns (number_of (table_at d n).columns target) ≡ column_named (table_at d n).columns target =
    number_stands (table_at d n).columns target b.0 b.1 ∙ sym b.1 in
    let cols : columns_or (slice_get d.tables n) d.table.columns ≡ (table_at d n).columns = sym (same_columns (slice_get d.tables n) d.table) in
    let there : slice_get (columns_or (slice_get d.tables n) d.table.columns) (number_of (table_at d n).columns target) ≡ column_named (table_at d n).columns target =
    ap (λ (cs : List Column). slice_get cs (number_of (table_at d n).columns target)) cols ∙ right in
    ap (λ (o : Option Column). are_comparable o (slice_get (columns_or (slice_get d.tables n) d.table.columns) (number_of (table_at d n).columns target))) left
    ∙ ap (λ (o : Option Column). are_comparable (column_named d.table.columns column) o) there ∙ h

match_sound : (line : ℕ) (d : Draft) (column reference target : List ℕ) (cmp : Rattle.row_check.specs.declared.cmp.Cmp.Cmp)
    → IsSome (column_named d.table.columns reference) → IsTypedMatch d column reference target → MayMatch d reference
    → IsSoundMatch d.tables d.table.columns (match_rule line d column cmp reference target)
match_sound line d column reference target cmp known typed may =
    let number = λ (o : Option (ℕ × Action)). number_of (target_columns d o) target in
    let Sound : Option (ℕ × Action) → ℕ → Type 0 = λ o k. MatchOption o ⊥ (λ r. (not (is_restrict r.1) ≡ true)
    × (are_comparable (slice_get d.table.columns (number_of d.table.columns column)) (slice_get (columns_or (slice_get d.tables r.0) d.table.columns) k) ≡ true)) in
    let step : (o : Option (ℕ × Action)) → MatchOption o ⊥ (λ r. are_comparable (column_named d.table.columns column) (column_named (table_at d r.0).columns target) ≡ true)
    → MatchOption o (Unit {0}) (λ r. not (is_restrict r.1) ≡ true) → Sound o (number o) =
    elim [ None ↦ λ t m. t | Some r ↦ λ t m. (m, still_comparable d column target r.0 t) ] in
    subst (λ (o : Option (ℕ × Action)). Sound o (number (reference_named d.table.columns reference))) (sym (reference_stands d.table.columns reference known)) (step (reference_named d.table.columns reference) typed may)

unique_sound : (line : ℕ) (columns : List Column) (name : List ℕ) → IsTypedUnique columns name → IsSoundUnique columns (record { column = number_of columns name; line = line })
unique_sound line columns name typed =
    let Plain : Column → Type 0 = λ column. (not (is_reference column.kind) && not column.null) ≡ true in
    let step : (o : Option Column) → column_named columns name ≡ o → MatchOption o ⊥ Plain → MatchOption (slice_get columns (number_of columns name)) ⊥ Plain =
    elim [ None ↦ λ e t. absurd t | Some c ↦ λ e t. subst (λ (o : Option Column). MatchOption o ⊥ Plain) (sym (number_stands columns name c e)) t ] in
    step (column_named columns name) refl typed

lengths : (lo hi : ℤ) → pos 0 ≤ℤ lo → lo ≤ℤ hi → hi ≤ℤ pos 1024 → (nat_abs lo ≤ nat_abs hi) × (nat_abs hi ≤ 1024)
lengths (pos a) (pos b) l m h = (omega (arith, ints), omega (arith, ints))
lengths (pos a) (negsuc b) l m h = absurd (omega (arith, ints))
lengths (negsuc a) hi l m h = absurd (omega (arith, ints))

pub small_count : (k : ℤ) → pos 1 ≤ℤ k → k ≤ℤ pos 64 → nat_abs k ≤ 64
small_count (pos a) l h = omega (arith, ints)
small_count (negsuc a) l h = absurd (omega (arith, ints))

pub kind_sound : (number : ℕ) (null : Bool) (k : PlainKind) → AreBounds k → IsSoundKind number null (kind_declared k)
kind_sound number null (plain.Int lo hi) h = h
kind_sound number null (plain.Text lo hi) h = lengths lo hi h.0 h.1 h.2
kind_sound number null plain.Flag h = tt

pub table_low : (d : Draft) (name : List ℕ) (n : ℕ) → table_named d name ≡ Some n → n ≤ length d.tables
table_low d name n h =
    let p : TableDef → Bool = λ table. bytes_eq table.name name in
    let step : (o : Option ℕ) → position p d.tables ≡ o → (b : Bool) → first_some o (cond b (Some (length d.tables)) None) ≡ Some n → n ≤ length d.tables =
    elim [
      | None ↦ λ e. elim [ true ↦ λ (f : Some (length d.tables) ≡ Some n). let is : length d.tables ≡ n = cc in omega arith | false ↦ λ f. absurd cc ]
      | Some m ↦ λ e b (f : Some m ≡ Some n). let is : m ≡ n = cc in omega (arith, (position-Some p d.tables m no_table e).0)
    ] in
    step (position p d.tables) refl (bytes_eq d.table.name name) h

target_sound : (d : Draft) (table : List ℕ) (act : Action) (null : Bool) → HasGoodTarget d table act null
    → IsSoundKind (length d.tables) null (kind.Reference (unwrap_or (table_named d table) 0) act)
target_sound d table act null good =
    let Good : Option ℕ → Type 0 = λ o. MatchOption o ⊥ (λ number. ((null || ltb number (length d.tables)) ≡ true) × ((null || not (Rattle.schema.specs.Columns.is_set_null act)) ≡ true)) in
    let step : (o : Option ℕ) → table_named d table ≡ o → Good o → IsSoundKind (length d.tables) null (kind.Reference (unwrap_or o 0) act) =
    elim [ None ↦ λ e g. absurd g | Some n ↦ λ e g. (table_low d table n e, g.0, g.1) ] in
    step (table_named d table) refl good

no_elements : {X : Type 0} (xs : List X) → (length xs == 0) ≡ true → xs ≡ []
no_elements [] h = refl
no_elements (x ∷ xs) h = absurd (let e = eqb-true (length (x ∷ xs)) 0 h in let n : length (x ∷ xs) ≡ suc (length xs) = refl in omega arith)

is_none_None : (o : Option ℕ) → is_none o ≡ true → o ≡ None
is_none_None None h = refl
is_none_None (Some n) h = absurd cc

targets_push : (columns : List Column) (column : Column) → targets_of (columns ++ column ∷ []) ≡ targets_of columns ++ target_of column.kind ∷ []
targets_push [] column = refl
targets_push (c ∷ columns) column = ap (λ (ts : List (Option (ℕ × Action))). target_of c.kind ∷ ts) (targets_push columns column)

plain_no_target : (k : PlainKind) → target_of (kind_declared k) ≡ None
plain_no_target (plain.Int lo hi) = refl
plain_no_target (plain.Text lo hi) = refl
plain_no_target plain.Flag = refl

-- a column of values is no reference
all_none : (p : Option (ℕ × Action) → Bool) → p None ≡ true → (ts : List (Option (ℕ × Action))) → list_all p (ts ++ None ∷ []) ≡ list_all p ts
all_none p h [] = ap (λ (b : Bool). b && true) h
all_none p h (t ∷ ts) = ap (λ (b : Bool). p t && b) (all_none p h ts)

plain_steady : (known : List Bool) (kept : Option ℕ) (columns : List Column) (column : Column) → target_of column.kind ≡ None
    → holds_steady known kept (targets_of columns) ≡ true → holds_steady known kept (targets_of (columns ++ column ∷ [])) ≡ true
plain_steady known kept columns column none h =
    let ts = targets_of columns in
    let is : targets_of (columns ++ column ∷ []) ≡ ts ++ None ∷ [] = targets_push columns column ∙ ap (λ (t : Option (ℕ × Action)). ts ++ t ∷ []) none in
    let own : is_steady_behind known kept (ts ++ None ∷ []) ≡ is_steady_behind known kept ts = ap (λ (b : Bool). is_none kept && b) (all_none (is_led_steady known) refl ts) in
    ap (holds_steady known kept) is
    ∙ ap (λ (b : Bool). list_all (is_held_steady (known ++ b ∷ [])) (ts ++ None ∷ [])) own
    ∙ all_none (is_held_steady (known ++ is_steady_behind known kept ts ∷ [])) refl ts ∙ h

column_kept : (d : Draft) (column : Column) → IsDraft d → is_columns d.phase ≡ true → length d.table.columns < 16 → IsSoundColumn (length d.tables) column
    → holds_steady (steady_tables d.tables) d.table.kept (targets_of (d.table.columns ++ column ∷ [])) ≡ true → IsDraft (with_column d column)
column_kept d column s turn few sound steady = record {
  few_tables = s.few_tables;
  tables = s.tables;
  some_tables = s.some_tables;
  room = s.room;
  no_checks = s.no_checks;
  no_matches = s.no_matches;
  no_uniques = s.no_uniques;
  no_kept = s.no_kept;
  table = record {
    few_columns = one_more d.table.columns column 16 few;
    columns = all_push (IsSoundColumn (length d.tables)) d.table.columns column s.table.columns sound;
    few_checks = s.table.few_checks;
    checks = subst (AllByRecursion (IsSoundCheck (d.table.columns ++ column ∷ []))) (sym (s.no_checks turn)) tt;
    few_matches = s.table.few_matches;
    matches = subst (AllByRecursion (IsSoundMatch d.tables (d.table.columns ++ column ∷ []))) (sym (s.no_matches turn)) tt;
    uniques = subst (AllByRecursion (IsSoundUnique (d.table.columns ++ column ∷ []))) (sym (s.no_uniques turn)) tt;
    at_most = s.table.at_most;
    kept = s.table.kept;
    steady = steady;
    leaves = subst (λ (o : Option ℕ). leaves_itself (length d.tables) o (targets_of (d.table.columns ++ column ∷ [])) ≡ true) (sym (s.no_kept turn)) refl;
  };
}

rules_kept : (d : Draft) (table : TableDef) → IsDraft d → is_in_table d.phase ≡ true → IsSoundTable d.tables table → IsDraft (with_rules d table)
rules_kept d table s turn sound = record {
  few_tables = s.few_tables;
  tables = s.tables;
  some_tables = λ e. absurd cc;
  room = λ e. s.room turn;
  no_checks = λ e. absurd cc;
  no_matches = λ e. absurd cc;
  no_uniques = λ e. absurd cc;
  no_kept = λ e. absurd cc;
  table = sound;
}

pub empty_sound : (before : List TableDef) (name : List ℕ) (deletable owned : Bool) → IsSoundTable before (record no_table { name = name; deletable = deletable; owned = owned })
empty_sound before name deletable owned = record {
  few_columns = omega arith;
  columns = tt;
  few_checks = omega arith;
  checks = tt;
  few_matches = omega arith;
  matches = tt;
  uniques = tt;
  at_most = omega arith;
  kept = tt;
  steady = refl;
  leaves = refl;
}

pub start_sound : IsDraft start
start_sound = record {
  few_tables = omega arith;
  tables = tt;
  some_tables = λ e. absurd cc;
  room = λ e. absurd cc;
  no_checks = λ e. absurd cc;
  no_matches = λ e. absurd cc;
  no_uniques = λ e. absurd cc;
  no_kept = λ e. absurd cc;
  table = empty_sound [] [] false false;
}

in_table : (d : Draft) → (is_in_table d.phase && ltb 0 (length d.table.columns)) ≡ true → (is_in_table d.phase ≡ true) × (1 ≤ length d.table.columns)
in_table d h = let two = and_parts (is_in_table d.phase) (ltb 0 (length d.table.columns)) h in (two.0, omega (arith, ltb-true 0 (length d.table.columns) two.1))

pub kept : OneExpression → (r : Meaning) (n : ℕ) (d : Draft) (f : Form) (next : Draft) → IsDraft d → is_turn d f ≡ true → IsGood r d f → IsAfter n d f next → IsDraft next
kept one r n d (form.Database name) next s t g h = subst IsDraft (sym h) (record {
  few_tables = s.few_tables;
  tables = s.tables;
  some_tables = λ e. absurd cc;
  room = λ e. absurd cc;
  no_checks = λ e. absurd cc;
  no_matches = λ e. absurd cc;
  no_uniques = λ e. absurd cc;
  no_kept = λ e. absurd cc;
  table = s.table;
})
kept one r n d (form.Author key) next s t g h = subst IsDraft (sym h) (record {
  few_tables = s.few_tables;
  tables = s.tables;
  some_tables = s.some_tables;
  room = s.room;
  no_checks = s.no_checks;
  no_matches = s.no_matches;
  no_uniques = s.no_uniques;
  no_kept = s.no_kept;
  table = s.table;
})
kept one r n d (form.Table name deletable owned) next s t g h = subst IsDraft (sym h) (record {
  few_tables = s.few_tables;
  tables = s.tables;
  some_tables = λ e. absurd cc;
  room = λ e. g.limits.0;
  no_checks = λ e. refl;
  no_matches = λ e. refl;
  no_uniques = λ e. refl;
  no_kept = λ e. refl;
  table = empty_sound d.tables name deletable owned;
})
kept one r n d (form.Column name k null) next s t g h =
    subst IsDraft (sym h) (column_kept d (record { name = name; kind = kind_declared k; null = null; line = n }) s t g.limits.0 (kind_sound (length d.tables) null k g.types)
    (plain_steady (steady_tables d.tables) d.table.kept d.table.columns (record { name = name; kind = kind_declared k; null = null; line = n }) (plain_no_target k) s.table.steady))
kept one r n d (form.Ref name table act null) next s t g h =
    subst IsDraft (sym h) (column_kept d (record { name = name; kind = kind.Reference (unwrap_or (table_named d table) 0) act; null = null; line = n }) s t g.limits.0 (target_sound d table act null g.target.0)
    (subst (λ (ts : List (Option (ℕ × Action))). holds_steady (steady_tables d.tables) d.table.kept ts ≡ true)
    (sym (targets_push d.table.columns (record { name = name; kind = kind.Reference (unwrap_or (table_named d table) 0) act; null = null; line = n }))) g.target.1))
kept one r n d (form.Check tokens) next s t g h =
    let same = one (column_in (names_of d.table.columns)) tokens g.types.0 h.0 g.types.1 h.1 in
    let kinds : HasKinds (kinds_of d.table.columns) h.0 = subst (HasKinds (kinds_of d.table.columns)) same g.types.2 in
    subst IsDraft (sym h.2) (rules_kept d (record d.table { checks = d.table.checks ++ record { tree = h.0; line = n } ∷ [] }) s (in_table d t).0 (record {
      few_columns = s.table.few_columns;
      columns = s.table.columns;
      few_checks = one_more d.table.checks (record { tree = h.0; line = n }) 16 g.limits.0;
      checks = all_push (IsSoundCheck d.table.columns) d.table.checks (record { tree = h.0; line = n }) s.table.checks kinds;
      few_matches = s.table.few_matches;
      matches = s.table.matches;
      uniques = s.table.uniques;
      at_most = s.table.at_most;
      kept = s.table.kept;
      steady = s.table.steady;
      leaves = s.table.leaves;
    }))
kept one r n d (form.Match column cmp reference target) next s t g h =
    subst IsDraft (sym h) (rules_kept d (record d.table { matches = d.table.matches ++ match_rule n d column cmp reference target ∷ [] }) s (in_table d t).0 (record {
      few_columns = s.table.few_columns;
      columns = s.table.columns;
      few_checks = s.table.few_checks;
      checks = s.table.checks;
      few_matches = one_more d.table.matches (match_rule n d column cmp reference target) 16 g.limits.0;
      matches = all_push (IsSoundMatch d.tables d.table.columns) d.table.matches (match_rule n d column cmp reference target) s.table.matches (match_sound n d column reference target cmp g.names.1 g.types g.matchable);
      uniques = s.table.uniques;
      at_most = s.table.at_most;
      kept = s.table.kept;
      steady = s.table.steady;
      leaves = s.table.leaves;
    }))
kept one r n d (form.Unique column true) next s t g h =
    let number = number_of d.table.columns column in
    let two = and_parts (length d.table.uniques == 0) (d.table.at_most == 0) g.limits.2 in
    let bare = no_elements d.table.uniques two.0 in
    subst IsDraft (sym h) (rules_kept d (record d.table { uniques = d.table.uniques ++ record { column = number; line = n } ∷ []; kept = Some number }) s (in_table d t).0 (record {
      few_columns = s.table.few_columns;
      columns = s.table.columns;
      few_checks = s.table.few_checks;
      checks = s.table.checks;
      few_matches = s.table.few_matches;
      matches = s.table.matches;
      uniques = all_push (IsSoundUnique d.table.columns) d.table.uniques (record { column = number; line = n }) s.table.uniques (unique_sound n d.table.columns column g.types);
      at_most = s.table.at_most;
      kept = (record { column = number; line = n }, ap (λ (us : List UniqueRule). us ++ record { column = number; line = n } ∷ []) bare, refl, eqb-true d.table.at_most 0 two.1);
      steady = g.target.0;
      leaves = g.target.1;
    }))
kept one r n d (form.Unique column false) next s t g h =
    let none = is_none_None d.table.kept g.limits.2 in
    subst IsDraft (sym h) (rules_kept d (record d.table { uniques = d.table.uniques ++ record { column = number_of d.table.columns column; line = n } ∷ [] }) s (in_table d t).0 (record {
      few_columns = s.table.few_columns;
      columns = s.table.columns;
      few_checks = s.table.few_checks;
      checks = s.table.checks;
      few_matches = s.table.few_matches;
      matches = s.table.matches;
      uniques = all_push (IsSoundUnique d.table.columns) d.table.uniques (record { column = number_of d.table.columns column; line = n }) s.table.uniques (unique_sound n d.table.columns column g.types);
      at_most = s.table.at_most;
      kept = subst (IsKeptAlone (d.table.uniques ++ record { column = number_of d.table.columns column; line = n } ∷ []) d.table.at_most) (sym none) tt;
      steady = s.table.steady;
      leaves = s.table.leaves;
    }))
kept one r n d (form.AtMost count) next s t g h =
    subst IsDraft (sym h) (rules_kept d (record d.table { at_most = nat_abs count; at_most_line = n }) s (in_table d t).0 (record {
      few_columns = s.table.few_columns;
      columns = s.table.columns;
      few_checks = s.table.few_checks;
      checks = s.table.checks;
      few_matches = s.table.few_matches;
      matches = s.table.matches;
      uniques = s.table.uniques;
      at_most = small_count count g.limits.0 g.limits.1;
      kept = subst (IsKeptAlone d.table.uniques (nat_abs count)) (sym g.limits.3) tt;
      steady = s.table.steady;
      leaves = s.table.leaves;
    }))
kept one r n d (form.Sample values) next s t g h =
    let turn = in_table d t in
    let whole = record d.table { sample = Rattle.schema_text.specs.Written.sample_row d.table.columns values } in
    subst IsDraft (sym h) (record {
      few_tables = one_more d.tables whole 16 (s.room turn.0);
      tables = tables_push [] d.tables whole s.tables (record {
        some_columns = turn.1;
        sample = g.sample.1.0;
        sound = record {
          few_columns = s.table.few_columns;
          columns = s.table.columns;
          few_checks = s.table.few_checks;
          checks = s.table.checks;
          few_matches = s.table.few_matches;
          matches = s.table.matches;
          uniques = s.table.uniques;
          at_most = s.table.at_most;
          kept = s.table.kept;
          steady = s.table.steady;
          leaves = s.table.leaves;
        };
      });
      some_tables = λ e. omega (arith, length-append d.tables (whole ∷ []));
      room = λ e. absurd cc;
      no_checks = λ e. absurd cc;
      no_matches = λ e. absurd cc;
      no_uniques = λ e. absurd cc;
      no_kept = λ e. absurd cc;
      table = empty_sound (d.tables ++ whole ∷ []) [] false false;
    })

pub leads_kept : OneExpression → (r : Meaning) (n : ℕ) (d : Draft) (line : List ℕ) (next : Draft) → IsDraft d → Leads r n d line next → IsDraft next
leads_kept one r n d line next s (inl h) = subst IsDraft (sym h.1) s
leads_kept one r n d line next s (inr h) = kept one r n d h.0 next s h.1.turn h.2 h.3

lead_kept : OneExpression → (r : Meaning) (n : ℕ) (d : Draft) (lines : List (List ℕ)) (end : Draft) → IsDraft d → LeadOn r n d lines end → IsDraft end
lead_kept one r n d [] end s h = subst IsDraft (sym h) s
lead_kept one r n d (line ∷ lines) end s h = lead_kept one r (n + 1) h.0 lines end (leads_kept one r n d line h.0 s h.1) h.2

pub schema_sound : (d : Draft) (text : List ℕ) → IsDraft d → 1 ≤ length d.tables → IsSchema (Rattle.schema_text.specs.Schemas.schema_of d text)
schema_sound d text s some = record { some_tables = some; few_tables = s.few_tables; tables = s.tables }

pub declared_sound : OneExpression → (r : Meaning) (text : List ℕ) (schema : SchemaData) → Declares r text schema → IsSchema schema
declared_sound one r text schema h =
    let s = lead_kept one r 1 start (Rattle.text_words.specs.Lines.lines_of text) h.1.0 start_sound h.1.1 in
    subst IsSchema (sym h.1.3) (schema_sound h.1.0 text s (s.some_tables h.1.2))

tables_few : (before ts : List TableDef) (n : ℕ) (t : TableDef) → AreTables before ts → slice_get ts n ≡ Some t → length t.columns ≤ 16
tables_few before [] n t a h = absurd cc
tables_few before (u ∷ ts) zero t a h = let is : u ≡ t = cc in subst (λ (v : TableDef). length v.columns ≤ 16) is a.0.sound.few_columns
tables_few before (u ∷ ts) (suc n) t a h = tables_few (before ++ u ∷ []) ts n t a.1 h

-- every table of a draft has at most sixteen columns
pub columns_few : (d : Draft) (n : ℕ) → IsDraft d → length (table_at d n).columns ≤ 16
columns_few d n s =
    let step : (o : Option TableDef) → slice_get d.tables n ≡ o → length (unwrap_or o d.table).columns ≤ 16 =
    elim [ None ↦ λ e. s.table.few_columns | Some t ↦ λ e. tables_few [] d.tables n t s.tables e ] in
    step (slice_get d.tables n) refl
