-- The first invariant that is refused has a counterexample that confirms.
use Rattle.std.proofs.Common.{◌≡◌, ℕ, ◌+◌, ◌-◌, ◌==◌, ◌<◌, ◌≤◌, zero, suc, Bool, true, false, cond, not, ◌&&◌, ◌||◌, List, [], ◌∷◌, ◌++◌, length, refl, sym, ap, ◌∙◌, subst, arith, append_assoc, append-nil, Option, Some, None, is_none, is_some, nat_le, slice_get, unwrap_or, option_and_then}
use Rattle.std.specs.Prelude.{IsTrue, MatchOption}
use Rattle.std.specs.List.{AllByRecursion, list_all}
use Rattle.std.specs.Ordering.{is_eq}
use Rattle.std.specs.Cmp.{bool_cmp_total}
use Rattle.std.proofs.lemmas.Bool.{and_parts, and_from, both_ways, eqb-true, eq-eqb, lt-leb, not-true}
use Rattle.std.proofs.lemmas.Cmp.{tied_itself, int_cmp_total, nat_list_cmp_total}
use Rattle.std.proofs.lemmas.List.{reverse-reverse}
use Rattle.std.proofs.lemmas.Option.{slice_get_within}
use Rattle.update_model.specs.declared.row_name.RowName.{RowName}
use Rattle.update_model.specs.declared.value.Value.{Value}
use Rattle.update_model.specs.declared.value.Value.TheVariants as value
use Rattle.update_model.specs.Node.{NodeData}
use Rattle.row_check.specs.declared.cmp.Cmp.TheVariants as cmp
use Rattle.row_check.specs.Comparisons.{compares}
use Rattle.row_check.specs.Meaning.{value_at}
use Rattle.schema.specs.declared.action.Action.{Action}
use Rattle.schema.specs.declared.column.Column.{Column}
use Rattle.schema.specs.declared.column.ColumnKind.{ColumnKind}
use Rattle.schema.specs.declared.column.ColumnKind.TheVariants as kind
use Rattle.table_model.specs.declared.invariant.InvariantKind.TheVariants as invariant
use Rattle.schema.specs.declared.rules.UniqueRule.{UniqueRule}
use Rattle.schema.specs.declared.table_def.TableDef.{TableDef}
use Rattle.schema.specs.Columns.{is_reference, target_of, reference_at, fits_kind, fits}
use Rattle.schema.specs.Sound.{IsSoundUnique}
use Rattle.schema.specs.Numbers.{no_table}
use Rattle.table_model.proofs.KeptTables.{keeps_soundly}
use Rattle.table_model.specs.Verdicts.{is_unlimited, keeps_least}
use Rattle.table_model.specs.Visible.{Rules, kept_of, table_of}
use Rattle.table_model.specs.Invariants.{Claim, Unique, UniqueKept, AtMost, Refers, Check, Match, Declared, each_from, declared_at, unique_declared, at_most_declared, refers_declared, reference_declared, check_declared, match_declared, table_declared, invariants_of, claims_of}
use Rattle.confluence_laws.specs.Confluence.{accepts, are_accepted, breaks, confirms}
use Rattle.confluence_laws.specs.Examples.{after, chain, copies, item_of, base_of, twice_after, unique_example, at_most_example, need}
use Rattle.table_model.proofs.Founded.{all-append}
use Rattle.confluence_laws.proofs.Plain.{is_plain, plain_target}
use Rattle.schema.proofs.Soundness.{IsSound, each_at}
use Rattle.confluence_laws.proofs.Accepted.{IsDeclared}
use Rattle.confluence_laws.proofs.DeclaredClaims.{found, Says, declared_each}
use Rattle.table_model.proofs.Each.{each-left}
use Rattle.confluence_laws.proofs.Needed.{sample_fits, AreSampled, all_parts}
use Rattle.confluence_laws.proofs.UniqueRefused.{unique_refused}
use Rattle.confluence_laws.proofs.AtMostRefused.{at_most_refused}

-- ---- a sample equals itself in a column that is UNIQUE

row_unfit : (k : ColumnKind) (name : RowName) → not (is_reference k) ≡ true → fits_kind k (value.Row name) ≡ true → ⊥
row_unfit (kind.Int lo hi) name p h = cc
row_unfit (kind.Text lo hi) name p h = cc
row_unfit kind.Flag name p h = cc
row_unfit (kind.Reference target act) name p h = cc

own_unfit : (k : ColumnKind) (index : ℕ) → not (is_reference k) ≡ true → fits_kind k (value.Own index) ≡ true → ⊥
own_unfit (kind.Int lo hi) index p h = cc
own_unfit (kind.Text lo hi) index p h = cc
own_unfit kind.Flag index p h = cc
own_unfit (kind.Reference target act) index p h = cc

equals_itself : (c : Column) (v : Value) → not (is_reference c.kind) ≡ true → c.null ≡ false → fits c v ≡ true → compares cmp.Eq v v ≡ true
equals_itself c value.Null p n h = absurd (both_ways _ n h)
equals_itself c (value.Int a) p n h = ap is_eq (tied_itself int_cmp_total a)
equals_itself c (value.Text a) p n h = ap is_eq (tied_itself nat_list_cmp_total a)
equals_itself c (value.Flag a) p n h = ap is_eq (tied_itself bool_cmp_total a)
equals_itself c (value.Row name) p n h = absurd (row_unfit c.kind name p h)
equals_itself c (value.Own index) p n h = absurd (own_unfit c.kind index p h)

sample_fits_at : (cs : List Column) (vs : List Value) → sample_fits cs vs ≡ true → (number : ℕ) (c : Column) → slice_get cs number ≡ Some c → not (is_reference c.kind) ≡ true → fits c (value_at vs number) ≡ true
sample_fits_at [] vs h number c e p = absurd (cc)
sample_fits_at (k ∷ cs) [] h number c e p = absurd (cc)
sample_fits_at (k ∷ cs) (v ∷ vs) h zero c e p =
    let same : k ≡ c = cc in
    let plain = plain_target k.kind (subst (λ (x : Column). not (is_reference x.kind) ≡ true) (sym same) p) in
    subst (λ (x : Column). fits x v ≡ true) same (ap (λ b. b || fits k v) (sym plain) ∙ (and_parts (is_some (target_of k.kind) || fits k v) _ h).0)
sample_fits_at (k ∷ cs) (v ∷ vs) h (suc number) c e p = sample_fits_at cs vs (and_parts _ _ h).1 number c e p

plain_at : (cs : List Column) (number : ℕ) (c : Column) → slice_get cs number ≡ Some c → not (is_reference c.kind) ≡ true → is_plain cs number ≡ true
plain_at [] number c e p = absurd (cc)
plain_at (k ∷ cs) zero c e p = let same : k ≡ c = cc in subst (λ (x : Column). not (is_reference x.kind) ≡ true) (sym same) p
plain_at (k ∷ cs) (suc number) c e p = plain_at cs number c e p

-- ---- what is known of an invariant where all before it are accepted

abbrev pub IsBare : Rules → ℕ → Type 0
IsBare rules table = is_unlimited (table_of rules table) ≡ true

abbrev pub IsReady : Rules → Claim → Type 0
IsReady rules (Unique table column) = (nat_le (length rules.tables) table ≡ false) × (is_none (kept_of rules table) ≡ true)
    × MatchOption (slice_get (table_of rules table).columns column) ⊥ (λ c. IsTrue (not (is_reference c.kind) && not c.null))
IsReady rules (UniqueKept table column) = Unit {0}
IsReady rules (AtMost table count) = (nat_le (length rules.tables) table ≡ false) × (is_none (kept_of rules table) ≡ true) × ((table_of rules table).uniques ≡ []) × ((table_of rules table).at_most ≡ count) × (count ≡ 0 → ⊥)
IsReady rules (Refers table column target act) = (nat_le (length rules.tables) table ≡ false) × (reference_at (table_of rules table).columns column ≡ Some (target, act)) × ((u : ℕ) → u ≤ table → IsBare rules u)
IsReady rules (Check table tree) = Unit {0}
IsReady rules (Match table rule) = Unit {0}

abbrev Ready : Rules → Declared → Type 0
Ready rules d = IsReady rules d.claim

abbrev EachReady : Rules → List Declared → List Declared → Type 0
EachReady rules seen [] = Unit {0}
EachReady rules seen (d ∷ ds) = (are_accepted rules seen ≡ true → Ready rules d) × EachReady rules (seen ++ d ∷ []) ds

ready_block : (rules : Rules) (seen ds : List Declared) → (are_accepted rules seen ≡ true → AllByRecursion (Ready rules) ds) → EachReady rules seen ds
ready_block rules seen [] h = tt
ready_block rules seen (d ∷ ds) h =
    ((λ a. (h a).0), ready_block rules (seen ++ d ∷ []) ds (λ a. (h (all_parts (λ (x : Declared). accepts rules x.claim) seen (d ∷ []) a).0).1))

ready_append : (rules : Rules) (seen xs ys : List Declared) → EachReady rules seen xs → EachReady rules (seen ++ xs) ys → EachReady rules seen (xs ++ ys)
ready_append rules seen [] ys a b = subst (λ (l : List Declared). EachReady rules l ys) (append-nil seen) b
ready_append rules seen (x ∷ xs) ys a b =
    (a.0, ready_append rules (seen ++ x ∷ []) xs ys a.1 (subst (λ (l : List Declared). EachReady rules l ys) (sym (append_assoc seen (x ∷ []) xs)) b))

ready_at : (rules : Rules) (earlier seen : List Declared) (d : Declared) (later : List Declared) → EachReady rules seen (earlier ++ d ∷ later) → are_accepted rules (seen ++ earlier) ≡ true → Ready rules d
ready_at rules [] seen d later h a = h.0 (subst (λ (l : List Declared). are_accepted rules l ≡ true) (append-nil seen) a)
ready_at rules (e ∷ earlier) seen d later h a =
    ready_at rules earlier (seen ++ e ∷ []) d later h.1 (subst (λ (l : List Declared). are_accepted rules l ≡ true) (sym (append_assoc seen (e ∷ []) earlier)) a)

least_uniques : (rules : Rules) (o : Option ℕ) (table number : ℕ) (us : List UniqueRule) → are_accepted rules (each_from (unique_declared o table) number us) ≡ true → list_all (λ rule. keeps_least o rule.column) us ≡ true
least_uniques rules o table number [] h = refl
least_uniques rules o table number (u ∷ us) h =
    let rest = each_from (unique_declared o table) (number + 1) us in
    let step : (b : Bool) → keeps_least o u.column ≡ b
    → are_accepted rules (cond b (declared_at invariant.UniqueKept table number u.line (UniqueKept table u.column)) (declared_at invariant.Unique table number u.line (Unique table u.column)) ++ rest) ≡ true
    → (b && list_all (λ rule. keeps_least o rule.column) us) ≡ true = elim [
      | true ↦ λ e k. least_uniques rules o table (number + 1) us k
      | false ↦ λ e k. absurd cc
    ] in
    step (keeps_least o u.column) refl h

none_least : (us : List UniqueRule) → list_all (λ rule. keeps_least None rule.column) us ≡ true → us ≡ []
none_least [] h = refl
none_least (u ∷ us) h = absurd cc

one_at : (r rule : UniqueRule) (place : ℕ) → slice_get (r ∷ []) place ≡ Some rule → r ≡ rule
one_at r rule zero e = cc
one_at r rule (suc place) e = absurd cc

no_limit : (rules : Rules) (number : ℕ) (table : TableDef) → are_accepted rules (at_most_declared number table) ≡ true → table.at_most ≡ 0
no_limit rules number table h =
    let step : (b : Bool) → (table.at_most == 0) ≡ b → are_accepted rules (cond b [] (declared_at invariant.AtMost number 0 table.at_most_line (AtMost number table.at_most))) ≡ true → table.at_most ≡ 0 =
    elim [ true ↦ λ e g. eqb-true table.at_most 0 e | false ↦ λ e g. absurd (cc) ] in
    step (table.at_most == 0) refl h

module _ (rules : Rules) (sound : IsSound rules.tables) where
  unique_ready : (number place : ℕ) (rule : UniqueRule) → nat_le (length rules.tables) number ≡ false → slice_get (table_of rules number).uniques place ≡ Some rule → (o : Option ℕ) → kept_of rules number ≡ o
      → AllByRecursion (Ready rules) (unique_declared o number place rule)
  unique_ready number place rule known at None is =
      ((known, ap is_none is, each_at (IsSoundUnique (table_of rules number).columns) (table_of rules number).uniques place rule (sound number).uniques at), tt)
  unique_ready number place rule known at (Some kept) is =
      let it = (keeps_soundly rules sound number kept is).unique in
      let same : it.0 ≡ rule = one_at it.0 rule place (ap (λ (us : List UniqueRule). slice_get us place) (sym it.1) ∙ at) in
      let equal : (kept == rule.column) ≡ true = eq-eqb kept rule.column (sym it.2 ∙ ap (λ (r : UniqueRule). r.column) same) in
      let step : (b : Bool) → b ≡ true → AllByRecursion (Ready rules)
      (cond b (declared_at invariant.UniqueKept number place rule.line (UniqueKept number rule.column)) (declared_at invariant.Unique number place rule.line (Unique number rule.column))) = elim [
        | true ↦ λ e. (tt, tt)
        | false ↦ λ e. absurd cc
      ] in
      step (kept == rule.column) equal

  ready_reference : (number place line : ℕ) (o : Option (ℕ × Action)) → reference_at (table_of rules number).columns place ≡ o → nat_le (length rules.tables) number ≡ false → ((u : ℕ) → u ≤ number → IsBare rules u)
      → AllByRecursion (Ready rules) (refers_declared number place line o)
  ready_reference number place line None e known bare = tt
  ready_reference number place line (Some r) e known bare = ((known, e, bare), tt)

  ready_most : (number : ℕ) → nat_le (length rules.tables) number ≡ false → list_all (λ rule. keeps_least (kept_of rules number) rule.column) (table_of rules number).uniques ≡ true
      → AllByRecursion (Ready rules) (at_most_declared number (table_of rules number))
  ready_most number known least =
      let table = table_of rules number in
      let free : (o : Option ℕ) → kept_of rules number ≡ o → (table.at_most == 0) ≡ false → kept_of rules number ≡ None = elim [
        | None ↦ λ is e. is
        | Some column ↦ λ is e. absurd (both_ways _ e (eq-eqb table.at_most 0 (keeps_soundly rules sound number column is).no_limit))
      ] in
      let step : (b : Bool) → (table.at_most == 0) ≡ b → AllByRecursion (Ready rules) (cond b [] (declared_at invariant.AtMost number 0 table.at_most_line (AtMost number table.at_most))) =
      elim [
        | true ↦ λ e. tt
        | false ↦ λ e.
            let none = free (kept_of rules number) refl e in
            let bare = none_least table.uniques (subst (λ (o : Option ℕ). list_all (λ rule. keeps_least o rule.column) table.uniques ≡ true) none least) in
            ((known, ap is_none none, bare, refl, λ zero_limit. both_ways _ e (eq-eqb table.at_most 0 zero_limit)), tt)
      ] in
      step (table.at_most == 0) refl

  -- a table's invariants, where those of lower tables were accepted
  module _ (number : ℕ) (known : nat_le (length rules.tables) number ≡ false) (seen : List Declared) (lower : are_accepted rules seen ≡ true → (u : ℕ) → u < number → IsBare rules u) where
    bare_here : are_accepted rules (seen ++ (each_from (unique_declared (kept_of rules number) number) 0 (table_of rules number).uniques ++ at_most_declared number (table_of rules number))) ≡ true → (u : ℕ) → u ≤ number → IsBare rules u
    bare_here a u l =
        let uniques = each_from (unique_declared (kept_of rules number) number) 0 (table_of rules number).uniques in
        let most = at_most_declared number (table_of rules number) in
        let test : Declared → Bool = λ d. accepts rules d.claim in
        let parts = all_parts test seen (uniques ++ most) a in
        let own = all_parts test uniques most parts.1 in
        let here : IsBare rules number =
        and_from _ _ (least_uniques rules (kept_of rules number) number 0 (table_of rules number).uniques own.0) (eq-eqb (table_of rules number).at_most 0 (no_limit rules number (table_of rules number) own.1)) in
        let step : (b : Bool) → (u == number) ≡ b → IsBare rules u =
        elim [
          | true ↦ λ e. subst (λ (n : ℕ). IsBare rules n) (sym (eqb-true u number e)) here
          | false ↦ λ e. lower parts.0 u (let apart : u ≡ number → ⊥ = λ same. both_ways _ e (eq-eqb u number same) in strictly u number l apart)
        ] in
        step (u == number) refl
      where
        strictly : (a b : ℕ) → a ≤ b → (a ≡ b → ⊥) → a < b
        strictly a b l apart = omega arith

    ready_table : EachReady rules seen (table_declared number (table_of rules number))
    ready_table =
        let t = table_of rules number in
        let uniques = each_from (unique_declared (kept_of rules number) number) 0 t.uniques in
        let most = at_most_declared number t in
        let references = each_from (reference_declared number) 0 t.columns in
        let checks = each_from (check_declared number) 0 t.checks in
        let matches = each_from (match_declared number) 0 t.matches in
        let test : Declared → Bool = λ d. accepts rules d.claim in
        let limits = ready_append rules seen uniques most
        (ready_block rules seen uniques (λ a. found (unique_declared (kept_of rules number) number) (Ready rules) t.uniques (λ place rule at. unique_ready number place rule known at (kept_of rules number) refl)))
        (ready_block rules (seen ++ uniques) most (λ a. ready_most number known (least_uniques rules (kept_of rules number) number 0 t.uniques (all_parts test seen uniques a).1))) in
        let referred = ready_append rules seen (uniques ++ most) references limits
        (ready_block rules (seen ++ (uniques ++ most)) references (λ a. found (reference_declared number) (Ready rules) t.columns (λ place column at.
        ready_reference number place column.line (target_of column.kind) (ap (λ (o : Option Column). option_and_then (λ c. target_of c.kind) o) at) known (bare_here a)))) in
        let checked = ready_append rules seen ((uniques ++ most) ++ references) checks referred
        (ready_block rules (seen ++ ((uniques ++ most) ++ references)) checks (λ a. found (check_declared number) (Ready rules) t.checks (λ place rule at. (tt, tt)))) in
        ready_append rules seen (((uniques ++ most) ++ references) ++ checks) matches checked
        (ready_block rules (seen ++ (((uniques ++ most) ++ references) ++ checks)) matches (λ a. found (match_declared number) (Ready rules) t.matches (λ place rule at. (tt, tt))))

    bare_after : are_accepted rules (seen ++ table_declared number (table_of rules number)) ≡ true → (u : ℕ) → u < number + 1 → IsBare rules u
    bare_after a u l =
        let t = table_of rules number in
        let uniques = each_from (unique_declared (kept_of rules number) number) 0 t.uniques in
        let most = at_most_declared number t in
        let references = each_from (reference_declared number) 0 t.columns in
        let checks = each_from (check_declared number) 0 t.checks in
        let matches = each_from (match_declared number) 0 t.matches in
        let test : Declared → Bool = λ d. accepts rules d.claim in
        let parts = all_parts test seen (table_declared number t) a in
        let no_matches = all_parts test (((uniques ++ most) ++ references) ++ checks) matches parts.1 in
        let no_checks = all_parts test ((uniques ++ most) ++ references) checks no_matches.0 in
        let limits = all_parts test (uniques ++ most) references no_checks.0 in
        bare_here (all-append test seen (uniques ++ most) parts.0 limits.0) u (omega arith)

  ready_tables : (tables : List TableDef) (number : ℕ) (seen : List Declared)
      → ((place : ℕ) (t : TableDef) → slice_get tables place ≡ Some t → (table_of rules (number + place) ≡ t) × (nat_le (length rules.tables) (number + place) ≡ false))
      → (are_accepted rules seen ≡ true → (u : ℕ) → u < number → IsBare rules u) → EachReady rules seen (each_from (table_declared) number tables)
  ready_tables [] number seen at lower = tt
  ready_tables (t ∷ tables) number seen at lower =
      let here = at 0 t refl in
      let n : number + 0 ≡ number = omega arith in
      let is : table_of rules number ≡ t = ap (table_of rules) (sym n) ∙ here.0 in
      let known : nat_le (length rules.tables) number ≡ false = ap (nat_le (length rules.tables)) (sym n) ∙ here.1 in
      ready_append rules seen (table_declared number t) (each_from (table_declared) (number + 1) tables)
      (subst (λ (x : TableDef). EachReady rules seen (table_declared number x)) is (ready_table number known seen lower))
      (ready_tables tables (number + 1) (seen ++ table_declared number t)
      (λ place x e. subst (λ (k : ℕ). (table_of rules k ≡ x) × (nat_le (length rules.tables) k ≡ false)) (let m : number + suc place ≡ (number + 1) + place = omega arith in m) (at (suc place) x e))
      (subst (λ (x : TableDef). are_accepted rules (seen ++ table_declared number x) ≡ true → (u : ℕ) → u < number + 1 → IsBare rules u) is (bare_after number known seen lower)))

  pub first_ready : (earlier later : List Declared) (d : Declared) → invariants_of rules ≡ earlier ++ d ∷ later → are_accepted rules earlier ≡ true → IsReady rules d.claim
  first_ready earlier later d e a =
      ready_at rules earlier [] d later
      (subst (λ (l : List Declared). EachReady rules [] l) e
      (ready_tables rules.tables 0 []
      (λ place t at.
      let n : place ≡ 0 + place = omega arith in
      subst (λ (k : ℕ). (table_of rules k ≡ t) × (nat_le (length rules.tables) k ≡ false)) n
      (ap (λ (o : Option TableDef). unwrap_or o no_table) at, (let within = slice_get_within rules.tables place t at in lt-leb (length rules.tables) place within)))
      (λ a u l. absurd (omega arith))))
      a

  -- the earlier ones are declared and accepted
  claims_accepted : (ds : List Declared) → AllByRecursion (Says rules) ds → are_accepted rules ds ≡ true → AllByRecursion (λ i. IsDeclared rules i × (accepts rules i ≡ true)) (claims_of ds)
  claims_accepted [] s a = tt
  claims_accepted (d ∷ ds) s a = let parts = and_parts (accepts rules d.claim) _ a in ((s.0, parts.0), claims_accepted ds s.1 parts.1)

  pub earlier_accepted : (earlier later : List Declared) (d : Declared) → invariants_of rules ≡ earlier ++ d ∷ later → are_accepted rules earlier ≡ true
      → AllByRecursion (λ i. IsDeclared rules i × (accepts rules i ≡ true)) (claims_of earlier)
  earlier_accepted earlier later d e a =
      claims_accepted earlier (each-left (Says rules) earlier (d ∷ later) (subst (AllByRecursion (Says rules)) e (declared_each rules))) a

  module _ (samples : AreSampled rules) (earlier later : List Declared) (d : Declared) (e : invariants_of rules ≡ earlier ++ d ∷ later) (a : are_accepted rules earlier ≡ true) where
    pub unique_confirms : (t c : ℕ) → d.claim ≡ Unique t c → confirms rules (claims_of earlier) (Unique t c) (unique_example rules t) ≡ true
    unfolding need
    unique_confirms t c is =
        let ready : IsReady rules (Unique t c) = subst (IsReady rules) is (first_ready earlier later d e a) in
        let columns = (table_of rules t).columns in
        let sample = (table_of rules t).sample in
        let step : (o : Option Column) → slice_get columns c ≡ o → MatchOption o ⊥ (λ x. IsTrue (not (is_reference x.kind) && not x.null)) → (is_plain columns c ≡ true) × (compares cmp.Eq (value_at sample c) (value_at sample c) ≡ true) =
        elim [
          | None ↦ λ f h. absurd h
          | Some x ↦ λ f h.
              let parts = and_parts (not (is_reference x.kind)) (not x.null) h in
              (plain_at columns c x f parts.0, equals_itself x (value_at sample c) parts.0 (not-true _ parts.1) (sample_fits_at columns sample (samples t ready.0).fit c x f parts.0))
        ] in
        let facts = step (slice_get columns c) refl ready.2 in
        let items = base_of rules t in
        let x = item_of rules items t in
        ap (λ (l : List NodeData). breaks rules (claims_of earlier) (Unique t c) l (after (length items) (suc (length items)) x ∷ []) (after (length items) (suc (suc (length items))) x ∷ [])) (reverse-reverse (chain items))
        ∙ unique_refused rules samples sound t c ready.1 ready.0 facts.0 facts.1 (claims_of earlier) (earlier_accepted earlier later d e a)

    pub at_most_confirms : (t k : ℕ) → d.claim ≡ AtMost t k → confirms rules (claims_of earlier) (AtMost t k) (at_most_example rules t k) ≡ true
    unfolding need
    at_most_confirms t zero is =
        let ready : IsReady rules (AtMost t zero) = subst (IsReady rules) is (first_ready earlier later d e a) in absurd (ready.4 refl)
    at_most_confirms t (suc k) is =
        let ready : IsReady rules (AtMost t (suc k)) = subst (IsReady rules) is (first_ready earlier later d e a) in
        let x = item_of rules (base_of rules t) t in
        let less : suc k - 1 ≡ k = omega arith in
        let claims = claims_of earlier in
        let items = copies k x (base_of rules t) in
        ap (λ (n : ℕ). confirms rules claims (AtMost t (suc k)) (twice_after (copies n x (base_of rules t)) x)) less
        ∙ ap (λ (l : List NodeData). breaks rules claims (AtMost t (suc k)) l (after (length items) (suc (length items)) x ∷ []) (after (length items) (suc (suc (length items))) x ∷ [])) (reverse-reverse (chain items))
        ∙ at_most_refused rules samples sound t k ready.1 ready.0 ready.2 ready.3 claims (earlier_accepted earlier later d e a)
