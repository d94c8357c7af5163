-- From a table that is not permanent a path leads to one whose rows can be deleted.
use Rattle.std.proofs.Common.{◌≡◌, ℕ, ◌+◌, ◌==◌, ◌<◌, ◌≤◌, zero, suc, Bool, true, false, cond, not, ◌&&◌, ◌||◌, List, [], ◌∷◌, ◌++◌, length, refl, sym, is_none, ap, ap₂, ◌∙◌, subst, Option, Some, None, arith, nat_le}
use Rattle.std.specs.List.{list_all, AllByRecursion}
use Rattle.std.proofs.lemmas.Bool.{and_from, and_parts, ne_eqb, both_ways, eq-eqb, leb-false, lt-leb, or_parts, not_from_false}
use Rattle.schema.specs.declared.action.Action.{Action}
use Rattle.schema.specs.declared.action.Action.TheVariants as action
use Rattle.schema.specs.declared.column.Column.{Column}
use Rattle.schema.specs.declared.column.ColumnKind.{ColumnKind}
use Rattle.schema.specs.Columns.{target_of, reference_at}
use Rattle.schema.specs.Sound.{IsSoundKind, IsSoundColumn}
use Rattle.table_model.proofs.KeptTables.{steady_to}
use Rattle.table_model.specs.Visible.{Rules, cascade_target, cascade_targets, kept_of, table_of, is_cascade}
use Rattle.confluence_laws.specs.Confluence.{permanent_to, is_permanent}
use Rattle.confluence_laws.specs.Examples.{Step, step_by, next_step, path_by, path_from}
use Rattle.schema.proofs.Soundness.{IsSound, kind_of_target, target_below}
use Rattle.table_model.proofs.Founded.{all-append}
use Rattle.table_model.proofs.Each.{each-append}

-- Each step of the path names the next one's table, a lower one, by CASCADE, and rows of the last one can be deleted.
abbrev pub LeadsBy : Rules → ℕ → (ℕ → Type 0) → List Step → Option ℕ → Type 0
LeadsBy rules t on steps None = (steps ≡ []) × ((table_of rules t).deletable ≡ true)
LeadsBy rules t on steps (Some c) = (u : ℕ) × (u < t) × (reference_at (table_of rules t).columns c ≡ Some (u, action.Cascade)) × on u

abbrev pub Leads : Rules → ℕ → List Step → Type 0
Leads rules t [] = ⊥
Leads rules t (s ∷ steps) = (s.table ≡ t) × LeadsBy rules s.table (λ u. Leads rules u steps) steps s.column

all_agree : (p q : ℕ → Bool) (xs : List ℕ) → AllByRecursion (λ v. p v ≡ q v) xs → list_all p xs ≡ list_all q xs
all_agree p q [] h = refl
all_agree p q (x ∷ xs) h = ap₂ (λ a b. a && b) h.0 (all_agree p q xs h.1)

each_weaker : {X : Type 0} (P Q : X → Type 0) → ((x : X) → P x → Q x) → (xs : List X) → AllByRecursion P xs → AllByRecursion Q xs
each_weaker P Q f [] h = tt
each_weaker P Q f (x ∷ xs) h = (f x h.0, each_weaker P Q f xs h.1)

target_low : (number : ℕ) (c : Column) → IsSoundColumn number c → (r : ℕ × Action) → target_of c.kind ≡ Some r → r.0 ≤ number
target_low number c sound r t = (subst (λ (k : ColumnKind). IsSoundKind number c.null k) (kind_of_target c.kind r.0 r.1 t) sound).0

targets_low : (number : ℕ) (cs : List Column) → AllByRecursion (IsSoundColumn number) cs → AllByRecursion (λ v. v ≤ number) (cascade_targets cs)
targets_low number [] h = tt
targets_low number (c ∷ cs) h =
    let step : (o : Option (ℕ × Action)) → target_of c.kind ≡ o → AllByRecursion (λ v. v ≤ number) (cascade_target o) =
    elim [
      | None ↦ λ t. tt
      | Some r ↦ λ t.
          elim (is_cascade r.1) as (λ b. AllByRecursion (λ v. v ≤ number) (cond b (r.0 ∷ []) [])) [ true ↦ (target_low number c h.0 r t, tt) | false ↦ tt ]
    ] in
    each-append (λ v. v ≤ number) (cascade_target (target_of c.kind)) (cascade_targets cs) (step (target_of c.kind) refl) (targets_low number cs h.1)

-- the step that is found
pub record IsStep (rules : Rules) (t : ℕ) (cs : List Column) (number : ℕ) (s : ℕ × ℕ) : Type 0 where
  pub place : ℕ
  pub is : s.0 ≡ number + place
  pub at : reference_at cs place ≡ Some (s.1, action.Cascade)
  pub other : (s.1 == t) ≡ false
  pub vanishes : is_permanent rules s.1 ≡ false

cascade_only : (a : Action) → is_cascade a ≡ true → a ≡ action.Cascade
cascade_only action.Restrict h = absurd (cc)
cascade_only action.Cascade h = refl
cascade_only action.SetNull h = absurd (cc)

module _ (rules : Rules) (t : ℕ) where
  next_found : (cs : List Column) (number : ℕ) (s : ℕ × ℕ) → next_step rules t number cs ≡ Some s → IsStep rules t cs number s
  next_found [] number s e = absurd (cc)
  next_found (c ∷ cs) number s e =
      let later : next_step rules t (number + 1) cs ≡ Some s → IsStep rules t (c ∷ cs) number s =
      λ g. let r = next_found cs (number + 1) s g in
      record { place = suc r.place; is = r.is ∙ (let m : (number + 1) + r.place ≡ number + suc r.place = omega arith in m); at = r.at; other = r.other; vanishes = r.vanishes } in
      let here : (r : ℕ × Action) → target_of c.kind ≡ Some r → (b : Bool) → is_cascade r.1 ≡ b → (d : Bool) → ((r.0 == t) || is_permanent rules r.0) ≡ d
      → cond b (cond d (next_step rules t (number + 1) cs) (Some (number, r.0))) (next_step rules t (number + 1) cs) ≡ Some s → IsStep rules t (c ∷ cs) number s =
      λ r k. elim [
        | true ↦ λ f. elim [
          | true ↦ λ h g. later g
          | false ↦ λ h g.
              let pair : ℕ × ℕ = (number, r.0) in
              let same : pair ≡ s = cc in
              let parts = or_parts (r.0 == t) (is_permanent rules r.0) h in
              let m : number ≡ number + 0 = omega arith in
              let whole : ℕ × Action = (r.0, action.Cascade) in
              let is_r : r ≡ whole = (λ i. (r.0, cascade_only r.1 f i)) in
              subst (λ (x : ℕ × ℕ). IsStep rules t (c ∷ cs) number x) same
              (record { place = 0; is = m; at = k ∙ ap (λ (x : ℕ × Action). Some x) is_r; other = parts.0; vanishes = parts.1 })
        ]
        | false ↦ λ f d h g. later g
      ] in
      let step : (o : Option (ℕ × Action)) → target_of c.kind ≡ o → step_by rules t number o (next_step rules t (number + 1) cs) ≡ Some s → IsStep rules t (c ∷ cs) number s =
      elim [ None ↦ λ k g. later g | Some r ↦ λ k g. here r k (is_cascade r.1) refl ((r.0 == t) || is_permanent rules r.0) refl g ] in
      step (target_of c.kind) refl e

  next_none : (cs : List Column) (number : ℕ) → next_step rules t number cs ≡ None → list_all (λ u. (u == t) || is_permanent rules u) (cascade_targets cs) ≡ true
  next_none [] number e = refl
  next_none (c ∷ cs) number e =
      let test : ℕ → Bool = λ u. (u == t) || is_permanent rules u in
      let here : (r : ℕ × Action) → (b : Bool) → (d : Bool) → ((r.0 == t) || is_permanent rules r.0) ≡ d
      → cond b (cond d (next_step rules t (number + 1) cs) (Some (number, r.0))) (next_step rules t (number + 1) cs) ≡ None
      → (list_all test (cond b (r.0 ∷ []) []) ≡ true) × (next_step rules t (number + 1) cs ≡ None) =
      λ r. elim [
        | true ↦ elim [ true ↦ λ h g. (and_from _ _ h refl, g) | false ↦ λ h g. absurd (cc) ]
        | false ↦ λ d h g. (refl, g)
      ] in
      let step : (o : Option (ℕ × Action)) → step_by rules t number o (next_step rules t (number + 1) cs) ≡ None → (list_all test (cascade_target o) ≡ true) × (next_step rules t (number + 1) cs ≡ None) =
      elim [ None ↦ λ g. (refl, g) | Some r ↦ λ g. here r (is_cascade r.1) ((r.0 == t) || is_permanent rules r.0) refl g ] in
      let r = step (target_of c.kind) e in
      all-append test (cascade_target (target_of c.kind)) (cascade_targets cs) r.0 (next_none cs (number + 1) r.1)

-- ---- tables whose rows are hidden for no lesser one

all_behind : {X : Type 0} (q : X → Bool) (xs ys : List X) → list_all q (xs ++ ys) ≡ true → list_all q ys ≡ true
all_behind q [] ys h = h
all_behind q (x ∷ xs) ys h = all_behind q xs ys (and_parts (q x) _ h).1

led_at : (q : ℕ → Bool) (cs : List Column) (place u : ℕ) → reference_at cs place ≡ Some (u, action.Cascade) → list_all q (cascade_targets cs) ≡ true → q u ≡ true
led_at q [] place u e h = absurd cc
led_at q (c ∷ cs) zero u e h =
    let one : ℕ × Action = (u, action.Cascade) in
    let to : target_of c.kind ≡ Some one = e in
    (and_parts (q u) _ (subst (λ (o : Option (ℕ × Action)). list_all q (cascade_target o ++ cascade_targets cs) ≡ true) to h)).0
led_at q (c ∷ cs) (suc place) u e h = led_at q cs place u e (all_behind q (cascade_target (target_of c.kind)) (cascade_targets cs) h)

pub steady_plain : (rules : Rules) (sd t : ℕ) → steady_to rules sd t ≡ true → is_none (kept_of rules t) ≡ true
unfolding steady_to
steady_plain rules zero t st = absurd cc
steady_plain rules (suc sd) t st = (and_parts (is_none (kept_of rules t)) _ st).0

steady_next : (rules : Rules) (sd t : ℕ) → steady_to rules sd t ≡ true → (place u : ℕ) → reference_at (table_of rules t).columns place ≡ Some (u, action.Cascade) → (u == t) ≡ false → (d : ℕ) × (steady_to rules d u ≡ true)
unfolding steady_to
steady_next rules zero t st place u e apart = absurd cc
steady_next rules (suc sd) t st place u e apart =
    let parts = and_parts (is_none (kept_of rules t)) _ st in
    let either = led_at (λ v. (v == t) || steady_to rules sd v) (table_of rules t).columns place u e parts.1 in
    (sd, ap (λ (b : Bool). b || steady_to rules sd u) (sym apart) ∙ either)

-- the tables of a path from one are such tables
pub plain_steps : (rules : Rules) (sd t : ℕ) → steady_to rules sd t ≡ true → (steps : List Step) → Leads rules t steps → AllByRecursion (λ s. is_none (kept_of rules s.table) ≡ true) steps
plain_steps rules sd t st [] leads = absurd leads
plain_steps rules sd t st (s ∷ steps) leads =
    let here : steady_to rules sd s.table ≡ true = subst (λ (n : ℕ). steady_to rules sd n ≡ true) (sym leads.0) st in
    let step : (o : Option ℕ) → LeadsBy rules s.table (λ u. Leads rules u steps) steps o → AllByRecursion (λ s. is_none (kept_of rules s.table) ≡ true) steps = elim [
      | None ↦ λ on. subst (AllByRecursion (λ (x : Step). is_none (kept_of rules x.table) ≡ true)) (sym on.0) tt
      | Some c ↦ λ on.
          let less : on.0 < s.table = on.1 in
          let next = steady_next rules sd s.table here c on.0 on.2 (ne_eqb on.0 s.table (λ same. omega arith)) in
          plain_steps rules next.0 on.0 next.1 steps on.3
    ] in
    (steady_plain rules sd s.table here, step s.column leads.1)

module _ (rules : Rules) (sound : IsSound rules.tables) where
  strictly : (a b : ℕ) → a ≤ b → (a == b) ≡ false → a < b
  strictly a b l e = let apart : a ≡ b → ⊥ = λ same. both_ways _ e (eq-eqb a b same) in below a b l apart
    where
      below : (a b : ℕ) → a ≤ b → (a ≡ b → ⊥) → a < b
      below a b l apart = omega arith

  -- a depth above the table's number is enough
  permanent_same : (depth u : ℕ) → u < depth → permanent_to rules depth u ≡ permanent_to rules (suc depth) u
  unfolding permanent_to
  permanent_same zero u l = absurd (omega arith)
  permanent_same (suc depth) u l =
      let targets = cascade_targets (table_of rules u).columns in
      ap (λ b. (not (table_of rules u).deletable && is_none (kept_of rules u)) && b)
      (all_agree (λ v. (v == u) || permanent_to rules depth v) (λ v. (v == u) || permanent_to rules (suc depth) v) targets
      (each_weaker (λ v. v ≤ u) (λ v. ((v == u) || permanent_to rules depth v) ≡ ((v == u) || permanent_to rules (suc depth) v))
      (λ v low.
      let step : (b : Bool) → (v == u) ≡ b → (b || permanent_to rules depth v) ≡ (b || permanent_to rules (suc depth) v) =
      elim [ true ↦ λ e. refl | false ↦ λ e. let less = strictly v u low e in permanent_same depth v (omega arith) ] in
      step (v == u) refl)
      targets (targets_low u (table_of rules u).columns (sound u).columns)))

  -- a table whose CASCADE targets are permanent is permanent where its rows cannot be deleted
  permanent_from : (t : ℕ) (deep : ℕ) → deep ≡ length rules.tables → t < deep → (table_of rules t).deletable ≡ false → is_none (kept_of rules t) ≡ true
      → list_all (λ u. (u == t) || is_permanent rules u) (cascade_targets (table_of rules t).columns) ≡ true → permanent_to rules deep t ≡ true
  unfolding permanent_to
  permanent_from t zero e l d plain h = absurd (omega arith)
  permanent_from t (suc depth) e l d plain h =
      let targets = cascade_targets (table_of rules t).columns in
      let agree = all_agree (λ u. (u == t) || permanent_to rules depth u) (λ u. (u == t) || is_permanent rules u) targets
      (each_weaker (λ v. v ≤ t) (λ v. ((v == t) || permanent_to rules depth v) ≡ ((v == t) || is_permanent rules v))
      (λ v low.
      let step : (b : Bool) → (v == t) ≡ b → (b || permanent_to rules depth v) ≡ (b || is_permanent rules v) =
      elim [
        | true ↦ λ f. refl
        | false ↦ λ f. let less = strictly v t low f in permanent_same depth v (omega arith) ∙ ap (λ (n : ℕ). permanent_to rules n v) e
      ] in
      step (v == t) refl)
      targets (targets_low t (table_of rules t).columns (sound t).columns)) in
      and_from _ _ (and_from _ _ (not_from_false _ d) plain) (agree ∙ h)

  pub path_leads : (depth t : ℕ) → t < depth → nat_le (length rules.tables) t ≡ false → is_permanent rules t ≡ false → (sd : ℕ) → steady_to rules sd t ≡ true → Leads rules t (path_from rules depth t)
  path_leads zero t l known v sd st = absurd (omega arith)
  path_leads (suc depth) t l known v sd st =
      let cs = (table_of rules t).columns in
      let bound = leb-false (length rules.tables) t known in
      let choice : (b : Bool) → (table_of rules t).deletable ≡ b
      → Leads rules t (cond b (record { table = t; column = None } ∷ []) (path_by t (path_from rules depth) (next_step rules t 0 cs))) =
      elim [
        | true ↦ λ e. (refl, (refl, e))
        | false ↦ λ e.
            let step : (o : Option (ℕ × ℕ)) → next_step rules t 0 cs ≡ o → Leads rules t (path_by t (path_from rules depth) o) =
            elim [
              | None ↦ λ g. absurd (both_ways _ v (permanent_from t (length rules.tables) refl bound e (steady_plain rules sd t st) (next_none rules t cs 0 g)))
              | Some s ↦ λ g.
                  let r = next_found rules t cs 0 s g in
                  let z : 0 + r.place ≡ r.place = omega arith in
                  let low : s.1 ≤ t = target_below t cs (sound t).columns r.place s.1 action.Cascade r.at in
                  let next = steady_next rules sd t st r.place s.1 r.at r.other in
                  let less : s.1 < t = strictly s.1 t low r.other in
                  let known_next : nat_le (length rules.tables) s.1 ≡ false = lt-leb (length rules.tables) s.1 (omega arith) in
                  (refl, (s.1, less, ap (reference_at cs) (r.is ∙ z) ∙ r.at, path_leads depth s.1 (omega arith) known_next r.vanishes next.0 next.1))
            ] in
            step (next_step rules t 0 cs) refl
      ] in
      choice (table_of rules t).deletable refl
