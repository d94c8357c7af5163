-- Nothing that the test computes depends on what native checks mean.
use Rattle.std.proofs.Common.{◌≡◌, ℕ, ◌+◌, ◌-◌, ◌==◌, zero, suc, Bool, true, false, cond, not, ◌&&◌, ◌||◌, List, [], ◌∷◌, ◌++◌, length, reverse, refl, sym, ap, ◌∙◌, subst, Option, Some, None, is_none}
use Rattle.std.specs.Prelude.{IsTrue}
use Rattle.std.specs.List.{list_all, flat_map}
use Rattle.std.proofs.Math.Path.{fun_ext}
use Rattle.update_model.specs.declared.value.Value.{Value}
use Rattle.schema.specs.declared.action.Action.{Action}
use Rattle.schema.specs.declared.action.Action.TheVariants as action
use Rattle.schema.specs.declared.column.Column.{Column}
use Rattle.table_model.specs.declared.counterexample.Counterexample.{Counterexample}
use Rattle.schema.specs.declared.table_def.TableDef.{TableDef}
use Rattle.schema.specs.Columns.{target_of}
use Rattle.table_model.specs.Visible.{Rules, cascade_targets, table_of, is_cascade, bare_rules, rules_with}
use Rattle.table_model.specs.Invariants.{Claim, Unique, UniqueKept, AtMost, Refers, Check, Match, Declared, invariants_of}
use Rattle.confluence_laws.specs.Confluence.{permanent_to, is_permanent, accepts, are_accepted}
use Rattle.confluence_laws.specs.Examples.{Item, Step, has_table, item_of, needed_tables, needed_but, for_each, need, base_of, twice_after, copies, step_by, next_step, path_by, path_from, path_items, item_naming, shared_of, restrict_example, example_of}
use Rattle.confluence_test.specs.Findings.{first_refused}
use Rattle.confluence_test.proofs.Restricts.{sides_of, after_path}
use Rattle.confluence_test.specs.Tests.{IsRefused}

module _ (tables : List TableDef) (ask : ℕ → List Value → Bool) where
  abbrev asked : Rules
  asked = rules_with ask tables

  abbrev alone : Rules
  alone = bare_rules tables

  same_to : (depth : ℕ) → permanent_to asked depth ≡ permanent_to alone depth
  unfolding permanent_to
  same_to zero = refl
  same_to (suc depth) =
      fun_ext λ t. ap (λ (f : ℕ → Bool). not (table_of alone t).deletable && is_none (table_of alone t).kept && list_all (λ target. (target == t) || f target) (cascade_targets (table_of alone t).columns)) (same_to depth)

  same_permanent : (t : ℕ) → is_permanent asked t ≡ is_permanent alone t
  same_permanent t = ap (λ (f : ℕ → Bool). f t) (same_to (length tables))

  same_accepts : (claim : Claim) → accepts asked claim ≡ accepts alone claim
  same_accepts (Unique table column) = refl
  same_accepts (UniqueKept table column) = refl
  same_accepts (AtMost table count) = refl
  same_accepts (Refers table column target action.Restrict) = same_permanent target
  same_accepts (Refers table column target action.Cascade) = refl
  same_accepts (Refers table column target action.SetNull) = refl
  same_accepts (Check table tree) = refl
  same_accepts (Match table rule) = refl

  same_accepted : (xs : List Declared) → are_accepted asked xs ≡ are_accepted alone xs
  same_accepted [] = refl
  same_accepted (x ∷ xs) = ap (λ (b : Bool). b && are_accepted asked xs) (same_accepts x.claim) ∙ ap (λ (b : Bool). accepts alone x.claim && b) (same_accepted xs)

  -- ---- the examples

  same_need : (depth : ℕ) → need asked depth ≡ need alone depth
  unfolding need
  same_need zero = refl
  same_need (suc depth) =
      fun_ext λ items. fun_ext λ t.
      ap (λ (f : List Item → ℕ → List Item).
      cond (has_table items t) items (item_of alone (for_each f (needed_tables (table_of alone t).columns) items) t ∷ for_each f (needed_tables (table_of alone t).columns) items)) (same_need depth)

  same_base : (t : ℕ) → base_of asked t ≡ base_of alone t
  same_base t = ap (λ (f : List Item → ℕ → List Item). for_each f (needed_tables (table_of alone t).columns) []) (same_need t)

  same_step : (t k : ℕ) (o : Option (ℕ × Action)) (later other : Option (ℕ × ℕ)) → later ≡ other → step_by asked t k o later ≡ step_by alone t k o other
  same_step t k None later other told = told
  same_step t k (Some r) later other told =
      ap (λ (o : Option (ℕ × ℕ)). cond (is_cascade r.1) (cond ((r.0 == t) || is_permanent asked r.0) o (Some (k, r.0))) o) told
      ∙ ap (λ (b : Bool). cond (is_cascade r.1) (cond ((r.0 == t) || b) other (Some (k, r.0))) other) (same_permanent r.0)

  same_next : (t k : ℕ) (columns : List Column) → next_step asked t k columns ≡ next_step alone t k columns
  same_next t k [] = refl
  same_next t k (c ∷ cs) = same_step t k (target_of c.kind) (next_step asked t (k + 1) cs) (next_step alone t (k + 1) cs) (same_next t (k + 1) cs)

  same_path : (depth : ℕ) → path_from asked depth ≡ path_from alone depth
  same_path zero = refl
  same_path (suc depth) =
      fun_ext λ t.
      ap (λ (f : ℕ → List Step). cond (table_of alone t).deletable (record { table = t; column = None } ∷ []) (path_by t f (next_step asked t 0 (table_of alone t).columns))) (same_path depth)
      ∙ ap (λ (o : Option (ℕ × ℕ)). cond (table_of alone t).deletable (record { table = t; column = None } ∷ []) (path_by t (path_from alone depth) o)) (same_next t 0 (table_of alone t).columns)

  same_shared : (steps : List Step) (t column : ℕ) → shared_of asked steps t column ≡ shared_of alone steps t column
  same_shared steps t column =
      ap (λ (f : List Item → ℕ → List Item).
      for_each f (flat_map (λ step. needed_but step.column 0 (table_of alone step.table).columns) (reverse steps) ++ needed_but (Some column) 0 (table_of alone t).columns) []) (same_need t)

  same_items : (shared : List Item) (steps : List Step) → path_items asked shared steps ≡ path_items alone shared steps
  same_items shared [] = refl
  same_items shared (step ∷ steps) = ap (λ (l : List Item). item_naming alone shared step.table step.column (length l) ∷ l) (same_items shared steps)

  same_restrict : (t column target : ℕ) → restrict_example asked t column target ≡ restrict_example alone t column target
  same_restrict t column target =
      ap (λ (steps : List Step). after_path asked t column steps (shared_of asked steps t column)) (ap (λ (f : ℕ → List Step). f target) (same_path (suc target)))
      ∙ ap (after_path asked t column (path_from alone (suc target) target)) (same_shared (path_from alone (suc target) target) t column)
      ∙ ap (sides_of alone t column (shared_of alone (path_from alone (suc target) target) t column))
      (same_items (shared_of alone (path_from alone (suc target) target) t column) (path_from alone (suc target) target))

  same_example : (claim : Claim) → example_of asked claim ≡ example_of alone claim
  same_example (Unique table column) = ap (λ (l : List Item). twice_after l (item_of alone l table)) (same_base table)
  same_example (UniqueKept table column) = refl
  same_example (AtMost table count) = ap (λ (l : List Item). twice_after (copies (count - 1) (item_of alone l table) l) (item_of alone l table)) (same_base table)
  same_example (Refers table column target act) = same_restrict table column target
  same_example (Check table tree) = refl
  same_example (Match table rule) = refl

  -- ---- the first invariant that is refused

  find_none : (xs : List Declared) → None ≡ first_refused alone xs → IsTrue (are_accepted alone xs)
  find_none [] none = refl
  find_none (x ∷ xs) none =
      let step : (b : Bool) → None ≡ cond (not b) (Some x) (first_refused alone xs) → IsTrue (b && are_accepted alone xs) = elim [ true ↦ λ e. find_none xs e | false ↦ λ e. absurd (cc) ] in
      step (accepts alone x.claim) none

  record Split (xs : List Declared) (d : Declared) : Type 0 where
    earlier : List Declared
    later : List Declared
    split : xs ≡ earlier ++ d ∷ later
    accepted : IsTrue (are_accepted alone earlier)
    refused : accepts alone d.claim ≡ false

  find_some : (xs : List Declared) (d : Declared) → Some d ≡ first_refused alone xs → Split xs d
  find_some [] d some = absurd (cc)
  find_some (x ∷ xs) d some =
      let step : (b : Bool) → accepts alone x.claim ≡ b → Some d ≡ cond (not b) (Some x) (first_refused alone xs) → Split (x ∷ xs) d =
      elim [
        | true ↦ λ is e.
            let rest = find_some xs d e in
            record {
              earlier = x ∷ rest.earlier;
              later = rest.later;
              split = ap (λ (l : List Declared). x ∷ l) rest.split;
              accepted = subst (λ (b : Bool). IsTrue (b && are_accepted alone rest.earlier)) (sym is) rest.accepted;
              refused = rest.refused;
            }
        | false ↦ λ is e.
            let same : d ≡ x = cc in
            record {
              earlier = [];
              later = xs;
              split = ap (λ (y : Declared). y ∷ xs) (sym same);
              accepted = refl;
              refused = ap (λ (y : Declared). accepts alone y.claim) same ∙ is;
            }
      ] in
      step (accepts alone x.claim) refl some

  pub all_accepted : None ≡ first_refused alone (invariants_of alone) → IsTrue (are_accepted asked (invariants_of asked))
  all_accepted none = subst (λ (b : Bool). IsTrue b) (sym (same_accepted (invariants_of asked))) (find_none (invariants_of alone) none)

  pub one_refused : (d : Declared) (example : Counterexample) → Some d ≡ first_refused alone (invariants_of alone) → example ≡ example_of alone d.claim → IsRefused asked d.which example
  one_refused d example some built =
      let s = find_some (invariants_of alone) d some in
      record {
        earlier = s.earlier;
        declared = d;
        first = record {
          later = s.later;
          split = s.split;
          accepted = subst (λ (b : Bool). IsTrue b) (sym (same_accepted s.earlier)) s.accepted;
          refused = same_accepts d.claim ∙ s.refused;
        };
        place = refl;
        built = built ∙ sym (same_example d.claim);
      }
