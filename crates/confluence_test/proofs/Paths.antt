-- The path along which a row can vanish.
use Rattle.std.proofs.Common.{◌≡◌, ℕ, ◌+◌, ◌-◌, ◌==◌, ◌<◌, ◌≤◌, zero, suc, Bool, true, false, cond, ◌||◌, List, [], ◌∷◌, ◌++◌, length, take, drop, get_or, reverse, refl, sym, ap, ◌∙◌, subst, arith, append_assoc, length-append, Option, Some, None, IfSome}
use Rattle.std.specs.List.{flat_map, AllByRecursion}
use Rattle.std.proofs.lemmas.List.{reverse-append, reverse-reverse, length-reverse, append-nil}
use Rattle.schema.specs.declared.action.Action.{Action}
use Rattle.schema.specs.declared.column.Column.{Column}
use Rattle.schema.specs.declared.table_def.TableDef.{TableDef}
use Rattle.schema.specs.Columns.{target_of}
use Rattle.schema.specs.Sound.{IsSoundColumn, AreTables}
use Rattle.table_model.specs.Visible.{Rules, table_of, is_cascade, bare_rules}
use Rattle.confluence_laws.specs.Confluence.{is_permanent}
use Rattle.confluence_laws.specs.Examples.{Item, Step, needed_but, for_each, need, step_by, next_step, path_by, path_from, path_items, item_naming, shared_of}
use Rattle.confluence_test.specs.Plans.{permanent_at, SaysPermanent, AreBelow, step_to, or_later, next_step_by}
use Rattle.confluence_test.proofs.Listing.{drop_next, drop_all, reverse_next}
use Rattle.confluence_test.proofs.Needing.{each_of_both}
use Rattle.confluence_test.proofs.Sounds.{sound_columns, low_target}

-- ---- the next step, column by column

-- ---- the same by the rule

step_is : (rules : Rules) (permanence : List Bool) → SaysPermanent rules permanence → (t : ℕ) → t < length rules.tables → (k : ℕ) (o : Option (ℕ × Action)) → IfSome o (λ r. r.0 ≤ t)
    → (later other : Option (ℕ × ℕ)) → later ≡ other → or_later k (step_to permanence t o) later ≡ step_by rules t k o other
step_is rules permanence says t known k None low later other told = told
step_is rules permanence says t known k (Some r) low later other told =
    let below : r.0 ≤ t = low in
    let agree : permanent_at permanence r.0 ≡ is_permanent rules r.0 = says r.0 (omega arith) in
    let at : (d : Bool) → or_later k (cond d None (Some r.0)) later ≡ cond d other (Some (k, r.0)) = elim [ true ↦ told | false ↦ refl ] in
    let step : (b : Bool) → or_later k (cond b (cond ((r.0 == t) || permanent_at permanence r.0) None (Some r.0)) None) later ≡ cond b (cond ((r.0 == t) || is_permanent rules r.0) other (Some (k, r.0))) other =
    elim [
      | true ↦ ap (λ (b : Bool). or_later k (cond ((r.0 == t) || b) None (Some r.0)) later) agree ∙ at ((r.0 == t) || is_permanent rules r.0)
      | false ↦ told
    ] in
    step (is_cascade r.1)

pub next_is : (rules : Rules) (permanence : List Bool) → SaysPermanent rules permanence → (t : ℕ) → t < length rules.tables → (k : ℕ) (columns : List Column) → AllByRecursion (IsSoundColumn t) columns
    → next_step_by permanence t k columns ≡ next_step rules t k columns
next_is rules permanence says t known k [] sound = refl
next_is rules permanence says t known k (c ∷ cs) sound =
    step_is rules permanence says t known k (target_of c.kind) (low_target t c.null c.kind sound.0) (next_step_by permanence t (k + 1) cs) (next_step rules t (k + 1) cs)
    (next_is rules permanence says t known (k + 1) cs sound.1)

step_low : (rules : Rules) (t k : ℕ) (o : Option (ℕ × Action)) → IfSome o (λ r. r.0 ≤ t) → (later : Option (ℕ × ℕ)) → IfSome later (λ r. r.1 ≤ t) → IfSome (step_by rules t k o later) (λ r. r.1 ≤ t)
step_low rules t k None low later below = below
step_low rules t k (Some r) low later below =
    let step : (b d : Bool) → IfSome (cond b (cond d later (Some (k, r.0))) later) (λ (x : ℕ × ℕ). x.1 ≤ t) = elim [ true ↦ elim [ true ↦ below | false ↦ low ] | false ↦ λ d. below ] in
    step (is_cascade r.1) ((r.0 == t) || is_permanent rules r.0)

low_next : (rules : Rules) (t k : ℕ) (columns : List Column) → AllByRecursion (IsSoundColumn t) columns → IfSome (next_step rules t k columns) (λ r. r.1 ≤ t)
low_next rules t k [] sound = tt
low_next rules t k (c ∷ cs) sound = step_low rules t k (target_of c.kind) (low_target t c.null c.kind sound.0) (next_step rules t (k + 1) cs) (low_next rules t (k + 1) cs sound.1)

-- the next table is no later one
pub next_low : (rules : Rules) (t : ℕ) (columns : List Column) → AllByRecursion (IsSoundColumn t) columns → (column target : ℕ) → next_step rules t 0 columns ≡ Some (column, target) → target ≤ t
next_low rules t columns sound column target is = subst (λ (o : Option (ℕ × ℕ)). IfSome o (λ r. r.1 ≤ t)) is (low_next rules t 0 columns sound)

-- ---- the path, step by step

path_step : (rules : Rules) (depth t : ℕ) → 0 < depth → (table_of rules t).deletable ≡ false → path_from rules depth t ≡ path_by t (path_from rules (depth - 1)) (next_step rules t 0 (table_of rules t).columns)
path_step rules zero t h stays = absurd (omega arith)
path_step rules (suc depth) t h stays =
    let lower : suc depth - 1 ≡ depth = omega arith in
    ap (λ (b : Bool). cond b (record { table = t; column = None } ∷ []) (path_by t (path_from rules depth) (next_step rules t 0 (table_of rules t).columns))) stays
    ∙ ap (λ (d : ℕ). path_by t (path_from rules d) (next_step rules t 0 (table_of rules t).columns)) (sym lower)

pub path_stop : (rules : Rules) (depth t : ℕ) (steps : List Step) → 0 < depth → (table_of rules t).deletable ≡ false → next_step rules t 0 (table_of rules t).columns ≡ None → steps ≡ steps ++ path_from rules depth t
path_stop rules depth t steps h stays none =
    sym (ap (λ (l : List Step). steps ++ l) (path_step rules depth t h stays ∙ ap (path_by t (path_from rules (depth - 1))) none) ∙ append-nil steps)

pub path_on : (rules : Rules) (depth t column target : ℕ) → 0 < depth → (table_of rules t).deletable ≡ false → next_step rules t 0 (table_of rules t).columns ≡ Some (column, target)
    → record { table = t; column = Some column } ∷ path_from rules (depth - 1) target ≡ path_from rules depth t
path_on rules depth t column target h stays some = sym (path_step rules depth t h stays ∙ ap (path_by t (path_from rules (depth - 1))) some)

pub path_few : (rules : Rules) (depth t : ℕ) → length (path_from rules depth t) ≤ depth
path_few rules zero t = omega arith
path_few rules (suc depth) t =
    let on : (o : Option (ℕ × ℕ)) → length (path_by t (path_from rules depth) o) ≤ suc depth = elim [ None ↦ omega arith | Some r ↦ (let few = path_few rules depth r.1 in omega arith) ] in
    let step : (b : Bool) → length (cond b (record { table = t; column = None } ∷ []) (path_by t (path_from rules depth) (next_step rules t 0 (table_of rules t).columns))) ≤ suc depth =
    elim [ true ↦ omega arith | false ↦ on (next_step rules t 0 (table_of rules t).columns) ] in
    step (table_of rules t).deletable

pub path_below : (tables : List TableDef) → AreTables [] tables → (depth t : ℕ) → t < length tables → AreBelow (length tables) (path_from (bare_rules tables) depth t)
path_below tables sound zero t known = tt
path_below tables sound (suc depth) t known =
    let rules = bare_rules tables in
    let columns = (table_of rules t).columns in
    let on : (o : Option (ℕ × ℕ)) → IfSome o (λ r. r.1 ≤ t) → AreBelow (length tables) (path_by t (path_from rules depth) o) =
    elim [ None ↦ λ low. tt | Some r ↦ λ low. (known, path_below tables sound depth r.1 (let l : r.1 ≤ t = low in omega arith)) ] in
    let step : (b : Bool) → AreBelow (length tables) (cond b (record { table = t; column = None } ∷ []) (path_by t (path_from rules depth) (next_step rules t 0 columns))) =
    elim [ true ↦ (known, tt) | false ↦ on (next_step rules t 0 columns) (low_next rules t 0 columns (sound_columns tables sound t)) ] in
    step (table_of rules t).deletable

-- the next step of a table, as it was found
pub next_of : (tables : List TableDef) → AreTables [] tables → (permanence : List Bool) → SaysPermanent (bare_rules tables) permanence → (t : ℕ) → t < length tables
    → (columns : List Column) → columns ≡ (table_of (bare_rules tables) t).columns → (o : Option (ℕ × ℕ)) → o ≡ next_step_by permanence t 0 columns
    → next_step (bare_rules tables) t 0 (table_of (bare_rules tables) t).columns ≡ o
next_of tables sound permanence says t known columns same o found =
    sym (next_is (bare_rules tables) permanence says t known 0 (table_of (bare_rules tables) t).columns (sound_columns tables sound t)) ∙ sym (ap (next_step_by permanence t 0) same) ∙ sym found

pub path_more : (before after path rest final : List Step) (step : Step) → final ≡ after ++ rest → after ≡ before ++ step ∷ [] → step ∷ rest ≡ path → final ≡ before ++ path
path_more before after path rest final step f a p = f ∙ ap (λ (l : List Step). l ++ rest) a ∙ append_assoc before (step ∷ []) rest ∙ ap (λ (l : List Step). before ++ l) p

-- ---- the rows that the path shares, and its own

-- what a row of the path needs
abbrev pub needed_of : Rules → Step → List ℕ
needed_of rules step = needed_but step.column 0 (table_of rules step.table).columns

pub shared_next : (rules : Rules) (grow : List Item → ℕ → List Item) (back : List Step) (i : ℕ) (step : Step) (items grown final : List Item) → i < length back → step ≡ get_or back i step
    → grown ≡ for_each grow (needed_of rules step) items → for_each grow (flat_map (needed_of rules) (drop i back)) items ≡ final → for_each grow (flat_map (needed_of rules) (drop (i + 1) back)) grown ≡ final
shared_next rules grow back i step items grown final h e is told =
    let rest = flat_map (needed_of rules) (drop (i + 1) back) in
    ap (for_each grow rest) is ∙ sym (each_of_both grow (needed_of rules step) rest items)
    ∙ sym (ap (λ (l : List Step). for_each grow (flat_map (needed_of rules) l) items) (drop_next back i step h e)) ∙ told

pub shared_end : (rules : Rules) (back : List Step) (i table column : ℕ) (items grown : List Item) → length back ≤ i
    → grown ≡ for_each (need rules table) (needed_but (Some column) 0 (table_of rules table).columns) items
    → for_each (need rules table) (flat_map (needed_of rules) (drop i back)) items ≡ for_each (need rules table) (flat_map (needed_of rules) back) []
    → grown ≡ shared_of rules (reverse back) table column
shared_end rules back i table column items grown h is told =
    let grow = need rules table in
    let own = needed_but (Some column) 0 (table_of rules table).columns in
    let here : items ≡ for_each grow (flat_map (needed_of rules) back) [] = sym (ap (λ (l : List Step). for_each grow (flat_map (needed_of rules) l) items) (drop_all back i h)) ∙ told in
    is ∙ ap (for_each grow own) here ∙ sym (each_of_both grow (flat_map (needed_of rules) back) own [])
    ∙ ap (λ (l : List Step). for_each grow (flat_map (needed_of rules) l ++ own) []) (sym (reverse-reverse back))

pub rows_next : (rules : Rules) (shared : List Item) (back : List Step) (i : ℕ) (step : Step) (row : Item) (rows : List Item) (older : ℕ) → i < length back → step ≡ get_or back i step
    → length rows ≡ i → older ≡ length shared + length rows → row ≡ item_naming rules shared step.table step.column older
    → reverse rows ++ shared ≡ path_items rules shared (reverse (take i back)) → reverse (rows ++ row ∷ []) ++ shared ≡ path_items rules shared (reverse (take (i + 1) back))
rows_next rules shared back i step row rows older h e many is made told =
    let before = path_items rules shared (reverse (take i back)) in
    let n : length before ≡ older = (let a = length-append (reverse rows) shared in let b = length-reverse rows in let c = ap length told in omega arith) in
    ap (λ (l : List Item). l ++ shared) (reverse-append rows (row ∷ [])) ∙ ap (λ (x : Item). x ∷ (reverse rows ++ shared)) (made ∙ ap (item_naming rules shared step.table step.column) (sym n))
    ∙ ap (λ (l : List Item). item_naming rules shared step.table step.column (length before) ∷ l) told ∙ sym (ap (path_items rules shared) (reverse_next back i step h e))
