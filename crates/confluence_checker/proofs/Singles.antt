-- The ATMOST of a first table is an invariant of the schema.
use Rattle.std.proofs.Common.{◌≡◌, ◌+◌, Bool, cond, List, [], ◌∷◌, ◌++◌, refl, ap, ◌∙◌, append_assoc, Some, slice_get}
use Rattle.std.proofs.lemmas.Bool.{ne_eqb}
use Rattle.table_model.specs.declared.invariant.InvariantKind.TheVariants as kind
use Rattle.schema.specs.declared.table_def.TableDef.{TableDef}
use Rattle.table_model.specs.Invariants.{AtMost, Declared, each_from, unique_declared, reference_declared, check_declared, match_declared, table_declared}
use Rattle.schema.specs.Data.{Meaning}
use Rattle.confluence_checker.specs.Forms.{IsInvariantOf}
use Rattle.table_model.specs.Visible.{rules_with}

abbrev first_at_most : TableDef → Declared
first_at_most table = record { which = record { kind = kind.AtMost; table = 0; place = 0; line = table.at_most_line }; claim = AtMost 0 table.at_most }

regroup : (A C D E R : List Declared) (d : Declared) → A ++ (d ∷ []) ++ C ++ D ++ E ++ R ≡ A ++ d ∷ (C ++ D ++ E ++ R)
regroup A C D E R d =
    ap (λ l. l ++ D ++ E ++ R) (append_assoc A (d ∷ []) C) ∙ ap (λ l. l ++ E ++ R) (append_assoc A (d ∷ C) D)
    ∙ ap (λ l. l ++ R) (append_assoc A (d ∷ (C ++ D)) E) ∙ append_assoc A (d ∷ (C ++ D ++ E)) R

pub at_most_first : (tables : List TableDef) (table : TableDef) → slice_get tables 0 ≡ Some table → (table.at_most ≡ 0 → ⊥) → (ask : Meaning)
    → IsInvariantOf (rules_with ask tables) (record { kind = kind.AtMost; table = 0; place = 0; line = table.at_most_line })
at_most_first [] table at some ask = absurd cc
at_most_first (t ∷ tables) table at some ask =
    let same : t ≡ table = cc in
    let A = each_from (unique_declared table.kept 0) 0 table.uniques in
    let C = each_from (reference_declared 0) 0 table.columns in
    let D = each_from (check_declared 0) 0 table.checks in
    let E = each_from (match_declared 0) 0 table.matches in
    let R = each_from table_declared (0 + 1) tables in
    record {
      earlier = A;
      later = C ++ D ++ E ++ R;
      declared = first_at_most table;
      split = ap (λ (u : TableDef). table_declared 0 u ++ R) same ∙ ap (λ (b : Bool). A ++ cond b [] (first_at_most table ∷ []) ++ C ++ D ++ E ++ R) (ne_eqb table.at_most 0 some) ∙ regroup A C D E R (first_at_most table);
      same = refl;
    }
