-- Tables that are found by their names.
use Rattle.std.proofs.Common.{◌≡◌, ℕ, ◌==◌, Bool, true, false, List, Option, Some, None, cond, refl, sym, ap, subst, ◌∙◌, arith}
use Rattle.std.specs.Prelude.{IsUtf8, bytes_eq, position, slice_get}
use Rattle.std.specs.Option.{option_map_or}
use Rattle.std.specs.Str.{is_utf8}
use Rattle.std.proofs.lemmas.Bool.{and_parts}
use Rattle.std.proofs.lemmas.Bool.Decides.{nat_tests}
use Rattle.std.proofs.lemmas.Str.{IsUtf8-from_is_utf8, is_utf8-from_IsUtf8}
use Rattle.text_words.specs.Names.{is_a_name}
use Rattle.schema.specs.declared.table_def.TableDef.{TableDef}
use Rattle.txn_text.specs.Operations.{table_named}
use Rattle.txn_printing.specs.Printing.{IsNamed, is_found}
use Rattle.txn_printing.proofs.Lines.{name_utf8}

-- the place of a name among the tables
abbrev place_of : List TableDef → List ℕ → Option ℕ
place_of tables name = position (λ (table : TableDef). bytes_eq table.name name) tables

pub named_by : (tables : List TableDef) (name text : List ℕ) → text ≡ name → IsUtf8 name → place_of tables text ≡ table_named tables name
named_by tables name text e u = ap (place_of tables) e ∙ ap (λ (b : Bool). cond b (place_of tables name) None) (sym (is_utf8-from_IsUtf8 name u))

pub named_none : (tables : List TableDef) (name : List ℕ) → ¬ IsUtf8 name → None ≡ table_named tables name
named_none tables name bad = by_test (is_utf8 name) refl
  where
    by_test : (b : Bool) → is_utf8 name ≡ b → None ≡ cond b (place_of tables name) None
    by_test true e = absurd (bad (IsUtf8-from_is_utf8 name e))
    by_test false e = refl

is_the : (found : Option ℕ) (number : ℕ) → option_map_or (λ first. first == number) found false ≡ true → found ≡ Some number
is_the None number e = absurd cc
is_the (Some first) number e = let same : first ≡ number = grind (arith, nat_tests, e) in ap (λ (n : ℕ). Some n) same

-- a table that is found is named
pub found_named : (tables : List TableDef) (number : ℕ) (table : TableDef) → is_found tables number table.name ≡ true → IsNamed tables number table
found_named tables number table found =
    let parts = and_parts (is_a_name table.name) (option_map_or (λ first. first == number) (table_named tables table.name) false) found in
    let utf8 = name_utf8 table.name parts.0 in
    let at : place_of tables table.name ≡ table_named tables table.name = ap (λ (b : Bool). cond b (place_of tables table.name) None) (sym utf8) in
    record { spelled = parts.0; first = at ∙ is_the (table_named tables table.name) number parts.1 }

-- and one that is named is found
pub named_found : (tables : List TableDef) (number : ℕ) (table : TableDef) → IsNamed tables number table → is_found tables number table.name ≡ true
named_found tables number table named =
    let same : (number == number) ≡ true = grind (arith, nat_tests) in
    rw (named.spelled, name_utf8 table.name named.spelled, named.first) same

-- ---- a table that was looked up

pub lost_table : (tables : List TableDef) (number : ℕ) (table : TableDef) (name : List ℕ) (found : Bool) → name ≡ table.name → found ≡ is_found tables number name → found ≡ false → IsNamed tables number table → ⊥
lost_table tables number table name found same is lost named =
    let yes : is_found tables number name ≡ true = ap (is_found tables number) same ∙ named_found tables number table named in
    let both : true ≡ false = sym yes ∙ sym is ∙ lost in
    cc

pub kept_table : (tables : List TableDef) (number : ℕ) (table : TableDef) (name : List ℕ) (found : Bool) → name ≡ table.name → found ≡ is_found tables number name → found ≡ true → IsNamed tables number table
kept_table tables number table name found same is kept = found_named tables number table (ap (is_found tables number) (sym same) ∙ sym is ∙ kept)

pub last_table : (tables : List TableDef) (k number : ℕ) (table now : TableDef) → k ≡ number → slice_get tables k ≡ Some table → slice_get tables number ≡ Some now → IsNamed tables number now → IsNamed tables k table
last_table tables k number table now same there here named =
    let one : slice_get tables number ≡ Some table = subst (λ (n : ℕ). slice_get tables n ≡ Some table) same there in
    let equal : now ≡ table = cc in
    subst (λ (n : ℕ). IsNamed tables n table) (sym same) (subst (IsNamed tables number) equal named)
