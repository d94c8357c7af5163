-- The tables of a schema by their names, and how many columns they have.
use Rattle.std.proofs.Common.{◌≡◌, ℕ, ◌≤◌, zero, suc, Bool, true, false, List, [], ◌∷◌, ◌++◌, length, Option, Some, None, refl, sym, ap, subst, ◌∙◌, cond}
use Rattle.std.specs.Prelude.{IsUtf8, slice_get, position, bytes_eq}
use Rattle.std.specs.Str.{is_utf8}
use Rattle.std.proofs.lemmas.Str.{IsUtf8-from_is_utf8, is_utf8-from_IsUtf8}
use Rattle.schema.specs.declared.table_def.TableDef.{TableDef}
use Rattle.schema.specs.Sound.{AreTables}
use Rattle.txn_text.specs.Operations.{table_named}

pub few_columns : (before tables : List TableDef) → AreTables before tables → (number : ℕ) (table : TableDef) → slice_get tables number ≡ Some table
    → (1 ≤ length table.columns) × (length table.columns ≤ 16)
few_columns before [] h number table e = absurd (cc)
few_columns before (t ∷ ts) h zero table e =
    let same : t ≡ table = cc in
    subst (λ (x : TableDef). (1 ≤ length x.columns) × (length x.columns ≤ 16)) same (h.0.some_columns, h.0.sound.few_columns)
few_columns before (t ∷ ts) h (suc number) table e = few_columns (before ++ t ∷ []) ts h.1 number table e

-- the place of a name among the tables
abbrev pub place_of : List TableDef → List ℕ → Option ℕ
place_of tables name = position (λ table. bytes_eq table.name name) tables

pub named_by : (tables : List TableDef) (name text : List ℕ) → text ≡ name → IsUtf8 name → place_of tables text ≡ table_named tables name
named_by tables name text e u = ap (place_of tables) e ∙ ap (λ (b : Bool). cond b (place_of tables name) None) (sym (is_utf8-from_IsUtf8 name u))

pub named_none : (tables : List TableDef) (name : List ℕ) → ¬ IsUtf8 name → None ≡ table_named tables name
named_none tables name bad =
    let step : (b : Bool) → is_utf8 name ≡ b → None ≡ cond b (place_of tables name) None = elim [
      | true ↦ λ e. absurd (bad (IsUtf8-from_is_utf8 name e))
      | false ↦ λ e. refl
    ] in
    step (is_utf8 name) refl
