-- Which tables are permanent, table by table.
use Rattle.std.proofs.Common.{◌≡◌, ℕ, ◌+◌, ◌==◌, ◌<◌, ◌≤◌, zero, suc, Bool, true, false, cond, not, ◌&&◌, ◌||◌, List, [], ◌∷◌, ◌++◌, length, refl, sym, ap, ◌∙◌, arith, Option, Some, None, is_none, IfSome, length-append, ◌⊎◌, inl, inr}
use Rattle.std.proofs.Math.Nat.{eq-or-lt_of_le}
use Rattle.std.specs.List.{list_all, AllByRecursion}
use Rattle.std.proofs.lemmas.Bool.{eqb-false}
use Rattle.schema.specs.declared.action.Action.{Action}
use Rattle.schema.specs.declared.column.Column.{Column}
use Rattle.schema.specs.declared.table_def.TableDef.{TableDef}
use Rattle.schema.specs.Columns.{target_of}
use Rattle.schema.specs.Sound.{IsSoundColumn, AreTables}
use Rattle.table_model.specs.Visible.{table_of, is_cascade, bare_rules, cascade_target, cascade_targets}
use Rattle.confluence_laws.specs.Confluence.{permanent_to, is_permanent}
use Rattle.confluence_test.specs.Plans.{permanent_at, keeps, all_keep, is_permanent_by}
use Rattle.confluence_test.proofs.Sounds.{sound_columns, low_target}

-- a test of the tables that a table refers to, where the table itself passes
abbrev others : ℕ → (ℕ → Bool) → ℕ → Bool
others number f target = (target == number) || f target

-- two tests that are one of earlier tables
one_other : (number : ℕ) (f g : ℕ → Bool) → ((t : ℕ) → t < number → f t ≡ g t) → (target : ℕ) → target ≤ number → others number f target ≡ others number g target
one_other number f g agree target low =
    let step : (b : Bool) → (target == number) ≡ b → (b || f target) ≡ (b || g target) =
    elim [ true ↦ λ e. refl | false ↦ λ e. (let differ : target ≡ number → ⊥ = eqb-false target number e in agree target (omega arith)) ] in
    step (target == number) refl

same_one : (number : ℕ) (f g : ℕ → Bool) → ((t : ℕ) → t < number → f t ≡ g t) → (o : Option (ℕ × Action)) → IfSome o (λ r. r.0 ≤ number) → (xs ys : List ℕ)
    → list_all (others number f) xs ≡ list_all (others number g) ys → list_all (others number f) (cascade_target o ++ xs) ≡ list_all (others number g) (cascade_target o ++ ys)
same_one number f g agree None low xs ys told = told
same_one number f g agree (Some r) low xs ys told =
    let step : (b : Bool) → list_all (others number f) (cond b (r.0 ∷ []) [] ++ xs) ≡ list_all (others number g) (cond b (r.0 ∷ []) [] ++ ys) =
    elim [ true ↦ ap (λ (b : Bool). b && list_all (others number f) xs) (one_other number f g agree r.0 low) ∙ ap (λ (b : Bool). others number g r.0 && b) told | false ↦ told ] in
    step (is_cascade r.1)

same_targets : (number : ℕ) (f g : ℕ → Bool) → ((t : ℕ) → t < number → f t ≡ g t) → (columns : List Column) → AllByRecursion (IsSoundColumn number) columns
    → list_all (others number f) (cascade_targets columns) ≡ list_all (others number g) (cascade_targets columns)
same_targets number f g agree [] sound = refl
same_targets number f g agree (c ∷ cs) sound =
    same_one number f g agree (target_of c.kind) (low_target number c.null c.kind sound.0) (cascade_targets cs) (cascade_targets cs) (same_targets number f g agree cs sound.1)

-- a reference keeps a table permanent as its target does
keeps_one : (permanence : List Bool) (number : ℕ) (o : Option (ℕ × Action)) (xs : List ℕ)
    → (keeps permanence number o && list_all (others number (permanent_at permanence)) xs) ≡ list_all (others number (permanent_at permanence)) (cascade_target o ++ xs)
keeps_one permanence number None xs = refl
keeps_one permanence number (Some r) xs =
    let rest = list_all (others number (permanent_at permanence)) xs in
    let step : (b : Bool) → ((not b || (r.0 == number) || permanent_at permanence r.0) && rest) ≡ list_all (others number (permanent_at permanence)) (cond b (r.0 ∷ []) [] ++ xs) = elim [ true ↦ refl | false ↦ refl ] in
    step (is_cascade r.1)

keeps_all : (permanence : List Bool) (number : ℕ) (columns : List Column) → all_keep permanence number columns ≡ list_all (others number (permanent_at permanence)) (cascade_targets columns)
keeps_all permanence number [] = refl
keeps_all permanence number (c ∷ cs) =
    ap (λ (b : Bool). keeps permanence number (target_of c.kind) && b) (keeps_all permanence number cs) ∙ keeps_one permanence number (target_of c.kind) (cascade_targets cs)

-- how deep references are followed makes no difference, once it is deeper than the table
stable : (tables : List TableDef) → AreTables [] tables → (t d e : ℕ) → t < d → t < e → permanent_to (bare_rules tables) d t ≡ permanent_to (bare_rules tables) e t
unfolding permanent_to
stable tables sound t zero e h k = absurd (omega arith)
stable tables sound t (suc d) zero h k = absurd (omega arith)
stable tables sound t (suc d) (suc e) h k =
    ap (λ (b : Bool). not (table_of (bare_rules tables) t).deletable && is_none (table_of (bare_rules tables) t).kept && b)
    (same_targets t (permanent_to (bare_rules tables) d) (permanent_to (bare_rules tables) e) (λ u low. stable tables sound u d e (omega arith) (omega arith)) (table_of (bare_rules tables) t).columns (sound_columns tables sound t))

-- what is known of earlier tables tells of this one
is_by : (tables : List TableDef) → AreTables [] tables → (permanence : List Bool) (number count : ℕ) → count ≡ length tables → number < count
    → ((t : ℕ) → t < number → permanent_at permanence t ≡ permanent_to (bare_rules tables) count t)
    → is_permanent_by permanence number (table_of (bare_rules tables) number) ≡ permanent_to (bare_rules tables) count number
unfolding permanent_to
is_by tables sound permanence number zero is known says = absurd (omega arith)
is_by tables sound permanence number (suc depth) is known says =
    ap (λ (b : Bool). not (table_of (bare_rules tables) number).deletable && is_none (table_of (bare_rules tables) number).kept && b)
    (keeps_all permanence number (table_of (bare_rules tables) number).columns
    ∙ same_targets number (permanent_at permanence) (permanent_to (bare_rules tables) depth) (λ u low. says u low ∙ stable tables sound u (suc depth) depth (omega arith) (omega arith))
    (table_of (bare_rules tables) number).columns (sound_columns tables sound number))

-- a list so far, and one table more
at_end : (permanence : List Bool) (b : Bool) (t : ℕ) → t ≡ length permanence → permanent_at (permanence ++ b ∷ []) t ≡ b
at_end [] b zero e = refl
at_end [] b (suc t) e = absurd (omega arith)
at_end (x ∷ xs) b zero e = absurd (omega arith)
at_end (x ∷ xs) b (suc t) e = at_end xs b t (omega arith)

before_end : (permanence : List Bool) (b : Bool) (t : ℕ) → t < length permanence → permanent_at (permanence ++ b ∷ []) t ≡ permanent_at permanence t
before_end [] b t h = absurd (omega arith)
before_end (x ∷ xs) b zero h = refl
before_end (x ∷ xs) b (suc t) h = before_end xs b t (omega arith)

or_before : (t number : ℕ) → t < number + 1 → (t ≡ number) ⊎ (t < number)
or_before t number h = let low : t ≤ number = omega arith in eq-or-lt_of_le low

-- what is said of the tables so far
pub record SaysUpTo (tables : List TableDef) (permanence : List Bool) (number : ℕ) : Type 0 where
  pub many : length permanence ≡ number
  pub says : (t : ℕ) → t < number → permanent_at permanence t ≡ is_permanent (bare_rules tables) t

pub says_next : (tables : List TableDef) → AreTables [] tables → (permanence : List Bool) (number : ℕ) → number < length tables → SaysUpTo tables permanence number
    → (b : Bool) → b ≡ is_permanent_by permanence number (table_of (bare_rules tables) number) → SaysUpTo tables (permanence ++ b ∷ []) (number + 1)
says_next tables sound permanence number known so b is =
    let here : b ≡ is_permanent (bare_rules tables) number = is ∙ is_by tables sound permanence number (length tables) refl known so.says in
    record {
      many = (let n = length-append permanence (b ∷ []) in let m = so.many in omega arith);
      says = λ t h.
          let many = so.many in
          elim (or_before t number h) [
            | inl e ↦ at_end permanence b t (omega arith) ∙ here ∙ ap (is_permanent (bare_rules tables)) (sym e)
            | inr low ↦ before_end permanence b t (omega arith) ∙ so.says t low
          ];
    }
