-- The samples of a schema are rows that its tables may have.
use Rattle.std.proofs.Common.{◌≡◌, ℕ, ◌<◌, ◌≤◌, Bool, true, false, not, ◌||◌, List, [], ◌∷◌, ◌++◌, length, refl, sym, ap, ◌∙◌, subst, Option, Some, None, is_some, arith, nat_le, nat_lt, slice_get, option_and_then}
use Rattle.std.specs.Prelude.{IsTrue, MatchOption, if◌then◌else◌}
use Rattle.std.specs.List.{list_all, AllByRecursion}
use Rattle.std.proofs.lemmas.Bool.{and_parts, and_from, ltb-true, leb-false, lt-leb, ne_eqb}
use Rattle.update_model.specs.declared.value.Value.{Value}
use Rattle.row_check.specs.Comparisons.{compares}
use Rattle.row_check.specs.Meaning.{is_null, value_at}
use Rattle.schema.specs.declared.action.Action.{Action}
use Rattle.schema.specs.declared.column.Column.{Column}
use Rattle.schema.specs.declared.column.ColumnKind.{ColumnKind}
use Rattle.schema.specs.declared.column.ColumnKind.TheVariants as kind
use Rattle.schema.specs.declared.rules.MatchRule.{MatchRule}
use Rattle.schema.specs.Columns.{is_reference, target_of, reference_at, is_restrict, are_comparable, fits}
use Rattle.schema.specs.Rows.{fits_sample_at, fits_sample}
use Rattle.schema.specs.Sound.{IsSoundKind, IsSoundColumn}
use Rattle.table_model.specs.Visible.{Rules, table_of}
use Rattle.schema.specs.Numbers.{table_number}
use Rattle.schema.specs.Samples.{sample_matches, SamplesPass}
use Rattle.confluence_laws.specs.Examples.{needed_by, needed_tables}
use Rattle.confluence_laws.proofs.Plain.{compared_left, compared_right}
use Rattle.schema.proofs.Soundness.{IsSound, ComparesPlain, each_at, kind_of_target, target_below}
use Rattle.confluence_laws.proofs.Needed.{sample_fits, IsMatched, IsSampled, AreSampled}

by_kind : (c : Column) (v : Value) (k : ColumnKind) → (if is_reference k then is_null v else fits c v) ≡ true → (is_some (target_of k) || fits c v) ≡ true
by_kind c v (kind.Int lo hi) h = h
by_kind c v (kind.Text lo hi) h = h
by_kind c v kind.Flag h = h
by_kind c v (kind.Reference target act) h = refl

sample_fits_from : (cs : List Column) (vs : List Value) → fits_sample cs vs ≡ true → sample_fits cs vs ≡ true
sample_fits_from [] [] h = refl
sample_fits_from [] (v ∷ vs) h = absurd (cc)
sample_fits_from (c ∷ cs) [] h = absurd (cc)
sample_fits_from (c ∷ cs) (v ∷ vs) h =
    let parts = and_parts (fits_sample_at c v) (fits_sample cs vs) h in and_from _ _ (by_kind c v c.kind parts.0) (sample_fits_from cs vs parts.1)

-- a reference that may not be null is to an earlier table
pub lower_at : (number : ℕ) (c : Column) → IsSoundColumn number c → (r : ℕ × Action) → target_of c.kind ≡ Some r → c.null ≡ false → nat_lt r.0 number ≡ true
lower_at number c sound r t null =
    let s = subst (λ (k : ColumnKind). IsSoundKind number c.null k) (kind_of_target c.kind r.0 r.1 t) sound in
    ap (λ b. b || nat_lt r.0 number) (sym null) ∙ s.1

pub append_all : (q : ℕ → Bool) (xs ys : List ℕ) → list_all q xs ≡ true → list_all q ys ≡ true → list_all q (xs ++ ys) ≡ true
append_all q [] ys a b = b
append_all q (x ∷ xs) ys a b = let parts = and_parts (q x) _ a in and_from _ _ parts.0 (append_all q xs ys parts.1 b)

lower_needed : (number : ℕ) (cs : List Column) → AllByRecursion (IsSoundColumn number) cs → list_all (λ u. nat_lt u number) (needed_tables cs) ≡ true
lower_needed number [] h = refl
lower_needed number (c ∷ cs) h =
    let step : (o : Option (ℕ × Action)) → target_of c.kind ≡ o → (b : Bool) → c.null ≡ b → list_all (λ u. nat_lt u number) (needed_by b o) ≡ true =
    elim [
      | None ↦ λ t b e. refl
      | Some r ↦ λ t. elim [ true ↦ λ e. refl | false ↦ λ e. and_from _ _ (lower_at number c h.0 r t e) refl ]
    ] in
    append_all (λ u. nat_lt u number) (needed_by c.null (target_of c.kind)) (needed_tables cs) (step (target_of c.kind) refl c.null refl) (lower_needed number cs h.1)

-- the column of a reference
pub column_at : (cs : List Column) (place : ℕ) (r : ℕ × Action) → reference_at cs place ≡ Some r → (c : Column) × ((slice_get cs place ≡ Some c) × (target_of c.kind ≡ Some r))
column_at cs place r e =
    let step : (o : Option Column) → slice_get cs place ≡ o → option_and_then (λ column. target_of column.kind) o ≡ Some r → (c : Column) × ((slice_get cs place ≡ Some c) × (target_of c.kind ≡ Some r)) =
    elim [ None ↦ λ f g. absurd (cc) | Some c ↦ λ f g. (c, (f, g)) ] in
    step (slice_get cs place) refl e

module _ (rules : Rules) (sound : IsSound rules.tables) (pass : SamplesPass rules.ask rules.tables) (t : ℕ) (known : nat_le (length rules.tables) t ≡ false) where
  known_below : (u : ℕ) → u ≤ t → nat_le (length rules.tables) u ≡ false
  known_below u l = lt-leb (length rules.tables) u (omega (arith, leb-false (length rules.tables) t known))

  matched_each : (ms : List MatchRule) → AllByRecursion (ComparesPlain rules.tables (table_of rules t)) ms
      → list_all (λ rule. sample_matches rules.tables t rule (reference_at (table_of rules t).columns rule.reference)) ms ≡ true → AllByRecursion (IsMatched rules t) ms
  matched_each [] s p = tt
  matched_each (m ∷ ms) s p =
      let columns = (table_of rules t).columns in
      let parts = and_parts (sample_matches rules.tables t m (reference_at columns m.reference)) _ p in
      let step : (o : Option (ℕ × Action)) → reference_at columns m.reference ≡ o
      → MatchOption o ⊥ (λ r. IsTrue (not (is_restrict r.1)) × IsTrue (are_comparable (slice_get columns m.column) (slice_get (table_number rules.tables r.0).columns m.target_column)))
      → sample_matches rules.tables t m o ≡ true → IsMatched rules t m =
      elim [
        | None ↦ λ e h q. absurd h
        | Some r ↦ λ e h q.
            let c = column_at columns m.reference r e in
            let below : r.0 ≤ t = target_below t columns (sound t).columns m.reference r.0 r.1 e in
            record {
              column = c.0;
              target = r;
              plain = compared_left columns m.column (slice_get (table_of rules r.0).columns m.target_column) h.1;
              at = c.1.0;
              to = c.1.1;
              far = compared_right (table_of rules r.0).columns m.target_column (slice_get columns m.column) h.1;
              known = known_below r.0 below;
              loose = h.0;
              apart = λ null.
                  let lower : r.0 < t = ltb-true r.0 t (lower_at t c.0 (each_at (IsSoundColumn t) columns m.reference c.0 (sound t).columns c.1.0) r c.1.1 null) in
                  ne_eqb r.0 t (λ same. omega arith);
              passes = λ apart. ap (λ b. b || compares m.cmp (value_at (table_of rules t).sample m.column) (value_at (table_of rules r.0).sample m.target_column)) (sym apart) ∙ q;
            }
      ] in
      (step (reference_at columns m.reference) refl s.0 parts.0, matched_each ms s.1 parts.1)

  sampled_at : IsSampled rules t
  sampled_at = record {
    fit = sample_fits_from (table_of rules t).columns (table_of rules t).sample (sound t).sample;
    checked = pass.checks t;
    matched = matched_each (table_of rules t).matches (sound t).matches (pass.matches t);
    lower = lower_needed t (table_of rules t).columns (sound t).columns;
    plain = (sound t).checks;
  }

pub are_sampled : (rules : Rules) → IsSound rules.tables → SamplesPass rules.ask rules.tables → AreSampled rules
are_sampled rules sound pass t known = sampled_at rules sound pass t known
