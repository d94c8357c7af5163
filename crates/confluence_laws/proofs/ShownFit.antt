-- Shown rows fit their columns.
use Rattle.std.proofs.Common.{◌≡◌, ℕ, Bool, true, false, cond, not, ◌&&◌, ◌||◌, List, [], ◌∷◌, refl, subst, Option, Some, None}
use Rattle.std.specs.List.{list_all, AllByRecursion}
use Rattle.std.proofs.lemmas.Bool.{and_parts, and_from, both_ways, not-true}
use Rattle.update_model.specs.declared.value.Value.{Value}
use Rattle.update_model.specs.declared.value.Value.TheVariants as value
use Rattle.update_model.specs.Node.{NodeData}
use Rattle.schema.specs.declared.action.Action.{Action}
use Rattle.schema.specs.declared.column.Column.{Column}
use Rattle.schema.specs.declared.column.ColumnKind.{ColumnKind}
use Rattle.schema.specs.Columns.{target_of, is_set_null, fits, all_fit}
use Rattle.schema.specs.Sound.{IsSoundKind, IsSoundColumn}
use Rattle.table_model.specs.Nodes.{IsClosed}
use Rattle.table_model.specs.Visible.{Rules, Effects, table_of, is_visible, is_nulled, shown_value, shown_values}
use Rattle.table_model.specs.Verdicts.{effects_in, effects, judge_next, judged, verdict_on}
use Rattle.table_model.specs.Invariants.{shown_in}
use Rattle.table_model.proofs.Founded.{IsWellFounded, founded_closed}
use Rattle.table_model.proofs.Standing.{each_stands}
use Rattle.schema.proofs.Soundness.{IsSound, kind_of_target}
use Rattle.confluence_laws.proofs.Accepted.{all_shown}

-- null may stand where a reference may be shown as null
nulled_null : (number : ℕ) (c : Column) → IsSoundColumn number c → is_nulled (target_of c.kind) ≡ true → c.null ≡ true
nulled_null number c sound h =
    let step : (o : Option (ℕ × Action)) → target_of c.kind ≡ o → is_nulled o ≡ true → c.null ≡ true =
    elim [
      | None ↦ λ t e. absurd (cc)
      | Some r ↦ λ t e.
          let s = subst (λ (k : ColumnKind). IsSoundKind number c.null k) (kind_of_target c.kind r.0 r.1 t) sound in
          null_from c.null (is_set_null r.1) e s.2
    ] in
    step (target_of c.kind) refl h
  where
    null_from : (null b : Bool) → b ≡ true → (null || not b) ≡ true → null ≡ true
    null_from true b e h = refl
    null_from false b e h = absurd (both_ways b (not-true b h) e)

value_fits : (rules : Rules) (g : Effects) (number : ℕ) (c : Column) → IsSoundColumn number c → (v : Value) → fits c v ≡ true → fits c (shown_value rules g c.kind v) ≡ true
value_fits rules g number c sound value.Null h = h
value_fits rules g number c sound (value.Int n) h = h
value_fits rules g number c sound (value.Text bytes) h = h
value_fits rules g number c sound (value.Flag flag) h = h
value_fits rules g number c sound (value.Own index) h = h
value_fits rules g number c sound (value.Row name) h =
    let step : (b : Bool) → (is_nulled (target_of c.kind) && not (is_visible rules g name)) ≡ b → fits c (cond b value.Null (value.Row name)) ≡ true =
    elim [ true ↦ λ e. nulled_null number c sound (and_parts (is_nulled (target_of c.kind)) _ e).0 | false ↦ λ e. h ] in
    step (is_nulled (target_of c.kind) && not (is_visible rules g name)) refl

values_fit : (rules : Rules) (g : Effects) (number : ℕ) (cs : List Column) → AllByRecursion (IsSoundColumn number) cs → (vs : List Value) → all_fit cs vs ≡ true → all_fit cs (shown_values rules g cs vs) ≡ true
values_fit rules g number [] sound [] h = refl
values_fit rules g number [] sound (v ∷ vs) h = absurd (cc)
values_fit rules g number (c ∷ cs) sound [] h = absurd (cc)
values_fit rules g number (c ∷ cs) sound (v ∷ vs) h =
    let parts = and_parts (fits c v) _ h in and_from _ _ (value_fits rules g number c sound.0 v parts.0) (values_fit rules g number cs sound.1 vs parts.1)

pub shown_fit : (rules : Rules) → IsSound rules.tables → (nodes : List NodeData) → IsClosed nodes → list_all (λ row. all_fit (table_of rules row.table).columns row.values) (shown_in rules nodes) ≡ true
unfolding verdict_on effects judge_next judged
shown_fit rules sound nodes c =
    let g = effects_in rules nodes in
    let f : IsWellFounded rules g = founded_closed rules nodes c in
    all_shown rules g (λ row. all_fit (table_of rules row.table).columns row.values) g.inserted (each_stands rules g.inserted f.founded)
    (λ e s v. values_fit rules g e.table (table_of rules e.table).columns (sound e.table).columns e.values s.fit)
