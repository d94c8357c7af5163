-- The table with a name.
use Rattle.std.proofs.Common.{◌≡◌, ℕ, Bool, true, false, List, Option, None, refl, sym, ap, ◌∙◌, cond}
use Rattle.std.specs.Prelude.{IsUtf8, position, bytes_eq}
use Rattle.std.specs.Str.{is_utf8}
use Rattle.std.proofs.lemmas.Str.{IsUtf8-from_is_utf8, is_utf8-from_IsUtf8}
use Rattle.schema.specs.declared.table_def.TableDef.{TableDef}
use Rattle.query.specs.Queries.{table_named}

-- the place of a name among the tables
abbrev pub place_of : List TableDef → List ℕ → Option ℕ
place_of tables name = position (λ table. bytes_eq table.name name) tables

pub named_by : (tables : List TableDef) (name text : List ℕ) → text ≡ name → IsUtf8 name → place_of tables text ≡ table_named tables name
named_by tables name text e u = ap (place_of tables) e ∙ ap (λ (b : Bool). cond b (place_of tables name) None) (sym (is_utf8-from_IsUtf8 name u))

pub named_none : (tables : List TableDef) (name : List ℕ) → ¬ IsUtf8 name → None ≡ table_named tables name
named_none tables name bad =
    let step : (b : Bool) → is_utf8 name ≡ b → None ≡ cond b (place_of tables name) None = elim [
      | true ↦ λ e. absurd (bad (IsUtf8-from_is_utf8 name e))
      | false ↦ λ e. refl
    ] in
    step (is_utf8 name) refl
