-- The samples of a schema that is declared under a meaning of native checks pass under it.
use Rattle.std.proofs.Common.{◌≡◌, ℕ, zero, suc, ◌+◌, ◌<◌, ◌≤◌, ◌==◌, ltb, Bool, true, false, ◌||◌, List, [], ◌∷◌, ◌++◌, length, refl, sym, ap, subst, arith, inl, inr, append_assoc, append-nil, length-append, Option, Some, None, unwrap_or, slice_get}
use Rattle.std.specs.List.{list_all, AllByRecursion}
use Rattle.std.proofs.lemmas.Bool.{both_ways, and_parts, and_from, ltb-true, ltb-false, eq-eqb}
use Rattle.update_model.specs.declared.value.Value.{Value}
use Rattle.row_check.specs.Comparisons.{compares}
use Rattle.row_check.specs.Meaning.{value_at}
use Rattle.text_words.specs.Lines.{lines_of}
use Rattle.schema.specs.declared.action.Action.{Action}
use Rattle.schema.specs.declared.column.Column.{Column}
use Rattle.schema_text.specs.declared.draft.Draft.{Draft}
use Rattle.schema_text.specs.declared.form.SampleValue.{SampleValue}
use Rattle.schema_text.specs.declared.form.Form.{Form}
use Rattle.schema_text.specs.declared.form.Form.TheVariants as form
use Rattle.schema.specs.declared.rules.MatchRule.{MatchRule}
use Rattle.schema.specs.declared.table_def.TableDef.{TableDef}
use Rattle.schema.specs.Checks.{checks_hold}
use Rattle.schema.specs.Columns.{reference_at}
use Rattle.schema_text.specs.Faults.{matches_target}
use Rattle.schema_text.specs.Drafts.{start}
use Rattle.schema.specs.Numbers.{no_table, table_number}
use Rattle.schema_text.specs.Written.{sample_row}
use Rattle.schema.specs.Samples.{sample_matches, SamplesPass}
use Rattle.schema_text.specs.Steps.{IsAfter}
use Rattle.schema.specs.Data.{Meaning, SchemaData}
use Rattle.schema_text.specs.Schemas.{IsGood, Leads, LeadOn, Declares}
use Rattle.schema.specs.Sound.{IsSoundColumn, AreTables}
use Rattle.schema_text.specs.Kept.{IsDraft}
use Rattle.schema_text.proofs.Keeping.{leads_kept, start_sound}
use Rattle.schema.proofs.Soundness.{target_below}
use Rattle.schema_text.proofs.Unique.{OneExpression}

all_weaker : {X : Type 0} (p q : X → Bool) → ((x : X) → p x ≡ true → q x ≡ true) → (xs : List X) → list_all p xs ≡ true → list_all q xs ≡ true
all_weaker p q h [] e = e
all_weaker p q h (x ∷ xs) e = let parts = and_parts (p x) (list_all p xs) e in and_from _ _ (h x parts.0) (all_weaker p q h xs parts.1)

-- a MATCH of the table with this number among these, along a reference to another one, is true of its sample
abbrev pub placed_matches : List TableDef → ℕ → List Value → MatchRule → Option (ℕ × Action) → Bool
placed_matches tables number sample rule None = false
placed_matches tables number sample rule (Some target) =
    (target.0 == number) || compares rule.cmp (value_at sample rule.column) (value_at (table_number tables target.0).sample rule.target_column)

-- the sample of the table with this number among these passes
pub record PassesAt (relation : Meaning) (tables : List TableDef) (number : ℕ) (table : TableDef) : Type 0 where
  pub checks : checks_hold relation table.sample table.checks ≡ true
  pub matches : list_all (λ rule. placed_matches tables number table.sample rule (reference_at table.columns rule.reference)) table.matches ≡ true

-- the samples of tables pass, each behind those before it
abbrev pub PassEach : Meaning → List TableDef → List TableDef → Type 0
PassEach relation before [] = Unit {0}
PassEach relation before (table ∷ tables) = PassesAt relation before (length before) table × PassEach relation (before ++ table ∷ []) tables

pass_push : (relation : Meaning) (before tables : List TableDef) (table : TableDef) → PassEach relation before tables
    → PassesAt relation (before ++ tables) (length (before ++ tables)) table → PassEach relation before (tables ++ table ∷ [])
pass_push relation before [] table a h = (subst (λ (l : List TableDef). PassesAt relation l (length l) table) (append-nil before) h, tt)
pass_push relation before (u ∷ tables) table a h =
    (a.0, pass_push relation (before ++ u ∷ []) tables table a.1 (subst (λ (l : List TableDef). PassesAt relation l (length l) table) (sym (append_assoc before (u ∷ []) tables)) h))

-- a table that is there is found whatever stands for those that are not, and with more tables behind it
found_there : (tables : List TableDef) (a b : TableDef) (n : ℕ) → n < length tables → unwrap_or (slice_get tables n) a ≡ unwrap_or (slice_get tables n) b
found_there [] a b n h = absurd (omega arith)
found_there (t ∷ tables) a b zero h = refl
found_there (t ∷ tables) a b (suc n) h = found_there tables a b n (omega arith)

found_with_more : (tables more : List TableDef) (a : TableDef) (n : ℕ) → n < length tables → unwrap_or (slice_get tables n) a ≡ unwrap_or (slice_get (tables ++ more) n) a
found_with_more [] more a n h = absurd (omega arith)
found_with_more (t ∷ tables) more a zero h = refl
found_with_more (t ∷ tables) more a (suc n) h = found_with_more tables more a n (omega arith)

-- what is asked of earlier ones alone depends on them alone
unless_own : (n m : ℕ) (a b : Bool) → n ≤ m → (n < m → a ≡ b) → ((n == m) || a) ≡ true → ((n == m) || b) ≡ true
unless_own n m a b low same h =
    let step : (l : Bool) → ltb n m ≡ l → ((n == m) || b) ≡ true =
    elim [
      | true ↦ λ e. subst (λ (c : Bool). ((n == m) || c) ≡ true) (same (ltb-true n m e)) h
      | false ↦ λ e.
          let high : m ≤ n = ltb-false n m e in
          let own : (n == m) ≡ true = eq-eqb n m (omega arith) in
          ap (λ (c : Bool). c || b) own
    ] in
    step (ltb n m) refl

-- the references of a sound table are to earlier ones or to itself
module _ (number : ℕ) (columns : List Column) (sound : AllByRecursion (IsSoundColumn number) columns) where
  by_reference : (P Q : MatchRule → Option (ℕ × Action) → Bool)
      → ((rule : MatchRule) (target : ℕ × Action) → target.0 ≤ number → P rule (Some target) ≡ true → Q rule (Some target) ≡ true) → ((rule : MatchRule) → P rule None ≡ false)
      → (rules : List MatchRule) → list_all (λ rule. P rule (reference_at columns rule.reference)) rules ≡ true → list_all (λ rule. Q rule (reference_at columns rule.reference)) rules ≡ true
  by_reference P Q step none rules h =
      let one : (rule : MatchRule) (o : Option (ℕ × Action)) → reference_at columns rule.reference ≡ o → P rule o ≡ true → Q rule o ≡ true =
      λ rule. elim [
        | None ↦ λ e p. absurd (both_ways _ (none rule) p)
        | Some target ↦ λ e p. step rule target (target_below number columns sound rule.reference target.0 target.1 e) p
      ] in
      all_weaker (λ rule. P rule (reference_at columns rule.reference)) (λ rule. Q rule (reference_at columns rule.reference))
      (λ rule p. one rule (reference_at columns rule.reference) refl p) rules h

-- with more tables behind them
more_behind : (relation : Meaning) (before more : List TableDef) (table : TableDef) → AllByRecursion (IsSoundColumn (length before)) table.columns
    → PassesAt relation before (length before) table → PassesAt relation (before ++ more) (length before) table
more_behind relation before more table sound is = record {
  checks = is.checks;
  matches = by_reference (length before) table.columns sound (placed_matches before (length before) table.sample) (placed_matches (before ++ more) (length before) table.sample)
      (λ rule target low h. unless_own target.0 (length before) _ _ low
      (λ lower. ap (λ (t : TableDef). compares rule.cmp (value_at table.sample rule.column) (value_at t.sample rule.target_column)) (found_with_more before more no_table target.0 lower)) h)
      (λ rule. refl) table.matches is.matches;
}

-- the sample line of a table
sample_passes : (relation : Meaning) (d : Draft) (values : List SampleValue) → IsDraft d → IsGood relation d (form.Sample values)
    → PassesAt relation d.tables (length d.tables) (record d.table { sample = sample_row d.table.columns values })
sample_passes relation d values s g =
    let row = sample_row d.table.columns values in record {
      checks = g.sample.1.1;
      matches = by_reference (length d.tables) d.table.columns s.table.columns (matches_target d row) (placed_matches d.tables (length d.tables) row)
          (λ rule target low h. unless_own target.0 (length d.tables) _ _ low
          (λ lower. ap (λ (t : TableDef). compares rule.cmp (value_at row rule.column) (value_at t.sample rule.target_column)) (found_there d.tables d.table no_table target.0 lower)) h)
          (λ rule. refl) d.table.matches g.sample.1.2;
    }

pass_on : (relation : Meaning) (n : ℕ) (d : Draft) (f : Form) (next : Draft) → IsDraft d → PassEach relation [] d.tables → IsGood relation d f → IsAfter n d f next → PassEach relation [] next.tables
pass_on relation n d (form.Database name) next s p g h = subst (λ (e : Draft). PassEach relation [] e.tables) (sym h) p
pass_on relation n d (form.Author key) next s p g h = subst (λ (e : Draft). PassEach relation [] e.tables) (sym h) p
pass_on relation n d (form.Table name deletable owned) next s p g h = subst (λ (e : Draft). PassEach relation [] e.tables) (sym h) p
pass_on relation n d (form.Column name k null) next s p g h = subst (λ (e : Draft). PassEach relation [] e.tables) (sym h) p
pass_on relation n d (form.Ref name table act null) next s p g h = subst (λ (e : Draft). PassEach relation [] e.tables) (sym h) p
pass_on relation n d (form.Check tokens) next s p g h = subst (λ (e : Draft). PassEach relation [] e.tables) (sym h.2) p
pass_on relation n d (form.Match column cmp reference target) next s p g h = subst (λ (e : Draft). PassEach relation [] e.tables) (sym h) p
pass_on relation n d (form.Unique column keeps) next s p g h = subst (λ (e : Draft). PassEach relation [] e.tables) (sym h) p
pass_on relation n d (form.AtMost count) next s p g h = subst (λ (e : Draft). PassEach relation [] e.tables) (sym h) p
pass_on relation n d (form.Sample values) next s p g h =
    subst (λ (e : Draft). PassEach relation [] e.tables) (sym h) (pass_push relation [] d.tables (record d.table { sample = sample_row d.table.columns values }) p (sample_passes relation d values s g))

leads_pass : (relation : Meaning) (n : ℕ) (d : Draft) (line : List ℕ) (next : Draft) → IsDraft d → PassEach relation [] d.tables → Leads relation n d line next → PassEach relation [] next.tables
leads_pass relation n d line next s p (inl h) = subst (λ (e : Draft). PassEach relation [] e.tables) (sym h.1) p
leads_pass relation n d line next s p (inr h) = pass_on relation n d h.0 next s p h.2 h.3

-- the tables that lines lead to are sound, and their samples pass
lead_pass : OneExpression → (relation : Meaning) (n : ℕ) (d : Draft) (lines : List (List ℕ)) (end : Draft) → IsDraft d → PassEach relation [] d.tables → LeadOn relation n d lines end
    → AreTables [] end.tables × PassEach relation [] end.tables
lead_pass one relation n d [] end s p h = subst (λ (e : Draft). AreTables [] e.tables × PassEach relation [] e.tables) (sym h) (s.tables, p)
lead_pass one relation n d (line ∷ lines) end s p h =
    lead_pass one relation (n + 1) h.0 lines end (leads_kept one relation n d line h.0 s h.1) (leads_pass relation n d line h.0 s p h.1) h.2

pass_each : (relation : Meaning) (before tables : List TableDef) → AreTables before tables → PassEach relation before tables
    → (place : ℕ) → PassesAt relation (before ++ tables) (length before + place) (table_number tables place)
pass_each relation before [] a p place = record { checks = refl; matches = refl }
pass_each relation before (table ∷ tables) a p zero =
    let n : length before ≡ length before + 0 = omega arith in
    subst (λ (number : ℕ). PassesAt relation (before ++ table ∷ tables) number table) n (more_behind relation before (table ∷ tables) table a.0.sound.columns p.0)
pass_each relation before (table ∷ tables) a p (suc place) =
    let rest = pass_each relation (before ++ table ∷ []) tables a.1 p.1 place in
    let n : length (before ++ table ∷ []) + place ≡ length before + suc place = (let e = length-append before (table ∷ []) in omega arith) in
    subst (λ (l : List TableDef). PassesAt relation l (length before + suc place) (table_number tables place)) (append_assoc before (table ∷ []) tables)
    (subst (λ (number : ℕ). PassesAt relation ((before ++ table ∷ []) ++ tables) number (table_number tables place)) n rest)

tables_pass : (relation : Meaning) (tables : List TableDef) → AreTables [] tables → PassEach relation [] tables → SamplesPass relation tables
tables_pass relation tables a p =
    let at : (number : ℕ) → PassesAt relation tables number (table_number tables number) = λ number.
    let n : 0 + number ≡ number = omega arith in
    subst (λ (k : ℕ). PassesAt relation tables k (table_number tables number)) n (pass_each relation [] tables a p number) in
    let same : (number : ℕ) (rule : MatchRule) (o : Option (ℕ × Action)) → placed_matches tables number (table_number tables number).sample rule o ≡ true → sample_matches tables number rule o ≡ true =
    λ number rule. elim [ None ↦ λ h. h | Some target ↦ λ h. h ] in record {
      checks = λ number. (at number).checks;
      matches = λ number. all_weaker (λ rule. placed_matches tables number (table_number tables number).sample rule (reference_at (table_number tables number).columns rule.reference)) _
          (λ rule h. same number rule (reference_at (table_number tables number).columns rule.reference) h) (table_number tables number).matches (at number).matches;
    }

-- the samples of every schema that a text declares
pub declared_pass : OneExpression → (relation : Meaning) (text : List ℕ) (schema : SchemaData) → Declares relation text schema → SamplesPass relation schema.tables
declared_pass one relation text schema h =
    let both = lead_pass one relation 1 start (lines_of text) h.1.0 start_sound tt h.1.1 in
    subst (λ (s : SchemaData). SamplesPass relation s.tables) (sym h.1.3) (tables_pass relation h.1.0.tables both.0 both.1)
