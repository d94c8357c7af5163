-- Looking for the first invariant that is refused.
use Rattle.std.proofs.Common.{◌≡◌, ℕ, ◌+◌, ◌==◌, ◌<◌, ◌≤◌, suc, Bool, true, false, cond, not, List, [], ◌∷◌, ◌++◌, length, drop, get_or, refl, sym, ap, ◌∙◌, arith, add-one, drop-cons, Option, Some, None, is_none, unwrap_or, slice_get, IfSome}
use Rattle.std.specs.Option.{option_or, option_map}
use Rattle.std.specs.List.{AllByRecursion}
use Rattle.std.proofs.lemmas.Bool.{eq-eqb}
use Rattle.std.proofs.lemmas.List.Folds.{find-append}
use Rattle.std.proofs.lemmas.Option.{slice_get-get_or}
use Rattle.schema.specs.declared.action.Action.{Action}
use Rattle.schema.specs.declared.action.Action.TheVariants as action
use Rattle.schema.specs.declared.column.Column.{Column}
use Rattle.table_model.specs.declared.invariant.InvariantKind.TheVariants as kind
use Rattle.schema.specs.declared.rules.UniqueRule.{UniqueRule}
use Rattle.schema.specs.declared.table_def.TableDef.{TableDef}
use Rattle.schema.specs.Columns.{target_of}
use Rattle.schema.specs.Least.{IsKeptAlone}
use Rattle.schema.specs.Sound.{IsSoundColumn, AreTables}
use Rattle.schema.specs.Numbers.{no_table}
use Rattle.table_model.specs.Verdicts.{keeps_least}
use Rattle.table_model.specs.Visible.{Rules, table_of, bare_rules}
use Rattle.table_model.specs.Invariants.{Unique, UniqueKept, Declared, declared_at, each_from, unique_declared, at_most_declared, refers_declared, reference_declared, check_declared, match_declared, table_declared}
use Rattle.confluence_laws.specs.Confluence.{accepts}
use Rattle.confluence_test.specs.declared.finding.Finding.{Finding}
use Rattle.confluence_test.specs.Plans.{SaysPermanent}
use Rattle.confluence_test.specs.Findings.{declared_of, is_refused, first_refused, accepts_by, refused_by, unique_refused}
use Rattle.confluence_test.proofs.Listing.{each_append}
use Rattle.confluence_test.proofs.Sounds.{sound_columns, low_target}

-- ---- references

abbrev pub references_from : ℕ → ℕ → List Column → List Declared
references_from number place columns = each_from (reference_declared number) place columns

-- ---- a table

none_refused : {X : Type 0} (permanence : List Bool) (declares : ℕ → X → List Declared) → ((k : ℕ) (x : X) (rest : List Declared) → refused_by permanence (declares k x ++ rest) ≡ refused_by permanence rest)
    → (k : ℕ) (xs : List X) → refused_by permanence (each_from declares k xs) ≡ None
none_refused permanence declares one k [] = refl
none_refused permanence declares one k (x ∷ xs) = one k x (each_from declares (k + 1) xs) ∙ none_refused permanence declares one (k + 1) xs

uniques_first : (permanence : List Bool) (number most : ℕ) (kept : Option ℕ) (uniques : List UniqueRule) → IsKeptAlone uniques most kept
    → refused_by permanence (each_from (unique_declared kept number) 0 uniques) ≡ cond (is_none kept) (slice_get (each_from (unique_declared None number) 0 uniques) 0) None
uniques_first permanence number most None [] alone = refl
uniques_first permanence number most None (rule ∷ rules) alone = refl
uniques_first permanence number most (Some column) uniques alone =
    let rule = alone.0 in
    let least = declared_at kind.UniqueKept number 0 rule.line (UniqueKept number rule.column) in
    let other = declared_at kind.Unique number 0 rule.line (Unique number rule.column) in
    ap (λ (us : List UniqueRule). refused_by permanence (each_from (unique_declared (Some column) number) 0 us)) alone.1
    ∙ ap (λ (b : Bool). refused_by permanence (cond b least other ++ [])) (eq-eqb column rule.column (sym alone.2))

at_most_first : (permanence : List Bool) (number : ℕ) (table : TableDef) → refused_by permanence (at_most_declared number table) ≡ slice_get (at_most_declared number table) 0
at_most_first permanence number table =
    let declared = λ (d : Declared). d ∷ [] in
    let step : (b : Bool) (d : Declared) → (not (accepts_by permanence d.claim) ≡ true) → refused_by permanence (cond b [] (d ∷ [])) ≡ slice_get (cond b [] (d ∷ [])) 0 =
    elim [ true ↦ λ d h. refl | false ↦ λ d h. ap (λ (b : Bool). cond b (Some d) None) h ] in
    step (table.at_most == 0) _ refl

map_or : (a b : Option Finding) → option_map declared_of (option_or a b) ≡ option_or (option_map declared_of a) (option_map declared_of b)
map_or None b = refl
map_or (Some x) b = refl

or_none : (a : Option Declared) → option_or a None ≡ a
or_none None = refl
or_none (Some x) = refl

pub table_first : (permanence : List Bool) (number : ℕ) (table : TableDef) → IsKeptAlone table.uniques table.at_most table.kept → (u a r : Option Finding)
    → option_map declared_of u ≡ unique_refused number table → option_map declared_of a ≡ slice_get (at_most_declared number table) 0
    → option_map declared_of r ≡ refused_by permanence (references_from number 0 table.columns) → option_map declared_of (option_or (option_or u a) r) ≡ refused_by permanence (table_declared number table)
table_first permanence number table alone u a r first most references =
    let test = λ (d : Declared). not (accepts_by permanence d.claim) in
    let A = each_from (unique_declared table.kept number) 0 table.uniques in
    let B = at_most_declared number table in
    let C = references_from number 0 table.columns in
    let D = each_from (check_declared number) 0 table.checks in
    let E = each_from (match_declared number) 0 table.matches in
    let d : refused_by permanence D ≡ None = none_refused permanence (check_declared number) (λ k x rest. refl) 0 table.checks in
    let e : refused_by permanence E ≡ None = none_refused permanence (match_declared number) (λ k x rest. refl) 0 table.matches in
    let ab : refused_by permanence (A ++ B) ≡ option_or (refused_by permanence A) (refused_by permanence B) = find-append test A B in
    let abc : refused_by permanence (A ++ B ++ C) ≡ option_or (option_or (refused_by permanence A) (refused_by permanence B)) (refused_by permanence C) =
    find-append test (A ++ B) C ∙ ap (λ (o : Option Declared). option_or o (refused_by permanence C)) ab in
    let abcd : refused_by permanence (A ++ B ++ C ++ D) ≡ refused_by permanence (A ++ B ++ C) = find-append test (A ++ B ++ C) D ∙ ap (option_or (refused_by permanence (A ++ B ++ C))) d ∙ or_none (refused_by permanence (A ++ B ++ C)) in
    let all : refused_by permanence (table_declared number table) ≡ option_or (option_or (refused_by permanence A) (refused_by permanence B)) (refused_by permanence C) =
    find-append test (A ++ B ++ C ++ D) E ∙ ap (option_or (refused_by permanence (A ++ B ++ C ++ D))) e ∙ or_none (refused_by permanence (A ++ B ++ C ++ D)) ∙ abcd ∙ abc in
    map_or (option_or u a) r ∙ ap (λ (o : Option Declared). option_or o (option_map declared_of r)) (map_or u a)
    ∙ ap (λ (o : Option Declared). option_or (option_or o (option_map declared_of a)) (option_map declared_of r)) (first ∙ sym (uniques_first permanence number table.at_most table.kept table.uniques alone))
    ∙ ap (λ (o : Option Declared). option_or (option_or (refused_by permanence A) o) (option_map declared_of r)) (most ∙ sym (at_most_first permanence number table))
    ∙ ap (option_or (option_or (refused_by permanence A) (refused_by permanence B))) references ∙ sym all

-- ---- all tables

pub none_of : (o : Option Finding) → ((f : Finding) → o ≡ Some f → ⊥) → None ≡ option_map declared_of o
none_of None h = refl
none_of (Some f) h = absurd (h f refl)

-- the rule, and what a list says of tables, are one of these invariants
abbrev Agrees : Rules → List Bool → Declared → Type 0
Agrees rules permanence d = accepts_by permanence d.claim ≡ accepts rules d.claim

same_first : (rules : Rules) (permanence : List Bool) (xs : List Declared) → AllByRecursion (Agrees rules permanence) xs → first_refused rules xs ≡ refused_by permanence xs
same_first rules permanence [] all = refl
same_first rules permanence (x ∷ xs) all =
    ap (λ (b : Bool). cond (not b) (Some x) (first_refused rules xs)) (sym all.0) ∙ ap (λ (o : Option Declared). cond (not (accepts_by permanence x.claim)) (Some x) o) (same_first rules permanence xs all.1)

each_all : {X : Type 0} (P : Declared → Type 0) (declares : ℕ → X → List Declared) → ((k : ℕ) (x : X) → AllByRecursion P (declares k x)) → (k : ℕ) (xs : List X) → AllByRecursion P (each_from declares k xs)
each_all P declares one k [] = tt
each_all P declares one k (x ∷ xs) = each_append P (declares k x) (each_from declares (k + 1) xs) (one k x) (each_all P declares one (k + 1) xs)

one_agrees : (rules : Rules) (permanence : List Bool) → SaysPermanent rules permanence → (number place line : ℕ) → number < length rules.tables → (o : Option (ℕ × Action)) → IfSome o (λ r. r.0 ≤ number)
    → AllByRecursion (Agrees rules permanence) (refers_declared number place line o)
one_agrees rules permanence says number place line known None low = tt
one_agrees rules permanence says number place line known (Some (t, action.Restrict)) low = (says t (let l : t ≤ number = low in omega arith), tt)
one_agrees rules permanence says number place line known (Some (t, action.Cascade)) low = (refl, tt)
one_agrees rules permanence says number place line known (Some (t, action.SetNull)) low = (refl, tt)

references_agree : (rules : Rules) (permanence : List Bool) → SaysPermanent rules permanence → (number : ℕ) → number < length rules.tables → (place : ℕ) (columns : List Column) → AllByRecursion (IsSoundColumn number) columns
    → AllByRecursion (Agrees rules permanence) (references_from number place columns)
references_agree rules permanence says number known place [] sound = tt
references_agree rules permanence says number known place (c ∷ cs) sound =
    each_append (Agrees rules permanence) (refers_declared number place c.line (target_of c.kind)) (references_from number (place + 1) cs)
    (one_agrees rules permanence says number place c.line known (target_of c.kind) (low_target number c.null c.kind sound.0)) (references_agree rules permanence says number known (place + 1) cs sound.1)

pub same_refused : (rules : Rules) (permanence : List Bool) → SaysPermanent rules permanence → (number : ℕ) → number < length rules.tables → (table : TableDef) → AllByRecursion (IsSoundColumn number) table.columns
    → first_refused rules (table_declared number table) ≡ refused_by permanence (table_declared number table)
same_refused rules permanence says number known table sound =
    let P = Agrees rules permanence in
    let A = each_from (unique_declared table.kept number) 0 table.uniques in
    let B = at_most_declared number table in
    let C = references_from number 0 table.columns in
    let D = each_from (check_declared number) 0 table.checks in
    let E = each_from (match_declared number) 0 table.matches in
    let either : (b : Bool) (d e : Declared) → P d → P e → AllByRecursion P (cond b (d ∷ []) (e ∷ [])) = elim [ true ↦ λ d e p q. (p, tt) | false ↦ λ d e p q. (q, tt) ] in
    let most : (b : Bool) (d : Declared) → P d → AllByRecursion P (cond b [] (d ∷ [])) = elim [ true ↦ λ d p. tt | false ↦ λ d p. (p, tt) ] in
    same_first rules permanence (table_declared number table)
    (each_append P (A ++ B ++ C ++ D) E
    (each_append P (A ++ B ++ C) D
    (each_append P (A ++ B) C (each_append P A B (each_all P (unique_declared table.kept number) (λ k x. either (keeps_least table.kept x.column) _ _ refl refl) 0 table.uniques) (most (table.at_most == 0) _ refl))
    (references_agree rules permanence says number known 0 table.columns sound))
    (each_all P (check_declared number) (λ k x. (refl, tt)) 0 table.checks))
    (each_all P (match_declared number) (λ k x. (refl, tt)) 0 table.matches))

tables_at : (tables : List TableDef) (number : ℕ) → number < length tables → drop number tables ≡ table_of (bare_rules tables) number ∷ drop (number + 1) tables
tables_at tables number known =
    let read : slice_get tables number ≡ Some (get_or tables number no_table) = slice_get-get_or tables number no_table known in
    let is : table_of (bare_rules tables) number ≡ get_or tables number no_table = ap (λ (o : Option TableDef). unwrap_or o no_table) read in
    rw (add-one, drop-cons tables number no_table) (ap (λ (t : TableDef). t ∷ drop (suc number) tables) (sym is))

scan_at : (tables : List TableDef) → AreTables [] tables → (permanence : List Bool) → SaysPermanent (bare_rules tables) permanence → (number : ℕ) → number < length tables
    → first_refused (bare_rules tables) (each_from table_declared number (drop number tables))
    ≡ option_or (refused_by permanence (table_declared number (table_of (bare_rules tables) number))) (first_refused (bare_rules tables) (each_from table_declared (number + 1) (drop (number + 1) tables)))
scan_at tables sound permanence says number known =
    let rules = bare_rules tables in
    let here = table_declared number (table_of rules number) in
    let rest = each_from table_declared (number + 1) (drop (number + 1) tables) in
    ap (λ (l : List TableDef). first_refused rules (each_from table_declared number l)) (tables_at tables number known) ∙ find-append (is_refused rules) here rest
    ∙ ap (λ (o : Option Declared). option_or o (first_refused rules rest)) (same_refused rules permanence says number known (table_of rules number) (sound_columns tables sound number))

-- one of this table is refused
pub scan_found : (tables : List TableDef) → AreTables [] tables → (permanence : List Bool) → SaysPermanent (bare_rules tables) permanence → (number : ℕ) → number < length tables
    → (d : Declared) (all : Option Declared) → Some d ≡ refused_by permanence (table_declared number (table_of (bare_rules tables) number))
    → first_refused (bare_rules tables) (each_from table_declared number (drop number tables)) ≡ all → Some d ≡ all
scan_found tables sound permanence says number known d all found told =
    let later = first_refused (bare_rules tables) (each_from table_declared (number + 1) (drop (number + 1) tables)) in
    sym (scan_at tables sound permanence says number known ∙ ap (λ (o : Option Declared). option_or o later) (sym found)) ∙ told

-- none of it is
pub scan_past : (tables : List TableDef) → AreTables [] tables → (permanence : List Bool) → SaysPermanent (bare_rules tables) permanence → (number : ℕ) → number < length tables
    → (all : Option Declared) → None ≡ refused_by permanence (table_declared number (table_of (bare_rules tables) number))
    → first_refused (bare_rules tables) (each_from table_declared number (drop number tables)) ≡ all → first_refused (bare_rules tables) (each_from table_declared (number + 1) (drop (number + 1) tables)) ≡ all
scan_past tables sound permanence says number known all none told =
    let later = first_refused (bare_rules tables) (each_from table_declared (number + 1) (drop (number + 1) tables)) in
    sym (scan_at tables sound permanence says number known ∙ ap (λ (o : Option Declared). option_or o later) (sym none)) ∙ told
