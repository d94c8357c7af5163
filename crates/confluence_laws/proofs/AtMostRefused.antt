-- The counterexample that is given for an ATMOST confirms.
use Rattle.std.proofs.Common.{◌||◌, is_none, ◌≡◌, ℕ, ◌+◌, ◌==◌, ◌<◌, ◌≤◌, zero, suc, Bool, true, false, not, List, [], ◌∷◌, length, map, refl, sym, ap, ap₂, ◌∙◌, nat_le, count_by, arith, subst, slice_get, unwrap_or, Option, Some, None}
use Rattle.std.specs.List.{list_all, AllByRecursion}
use Rattle.std.proofs.lemmas.Bool.{and_from, or_right, or_from, eq-eqb, le-leb, lt-leb, not-false, not_from_false, ne_eqb, eqb-true}
use Rattle.row_check.specs.Meaning.{value_at}
use Rattle.schema.specs.declared.rules.UniqueRule.{UniqueRule}
use Rattle.schema.specs.declared.table_def.TableDef.{TableDef}
use Rattle.schema.specs.Numbers.{no_table}
use Rattle.table_model.specs.Visible.{Rules, kept_of, TableRow, Effects, table_of, shown, shown_rows, refs}
use Rattle.table_model.specs.Verdicts.{in_table, insert_reason, first_reason, stands_among, matches_among, limits_hold, keeps_least, at_most_holds, unique_holds}
use Rattle.table_model.specs.Invariants.{Claim, AtMost, claim_holds, shown_in}
use Rattle.confluence_laws.specs.Confluence.{accepts, breaks}
use Rattle.confluence_laws.specs.Examples.{Item, after, chain, copies, has_table, item_of, base_of, need}
use Rattle.table_model.proofs.Alike.{weight, one_if, count-weight, weight-map}
use Rattle.table_model.proofs.Founded.{Sub, IsWellFounded, founded_closed, match_more, all_weaker, none_of_five}
use Rattle.schema.proofs.Soundness.{IsSound}
use Rattle.confluence_laws.proofs.Accepted.{IsDeclared}
use Rattle.confluence_laws.proofs.Plans.{row_of, rows_of, Passes, AllPass, all_visible}
use Rattle.confluence_laws.proofs.Sides.{one_more, one_closed, pair, pair_closed, pair_effects, pair_new, one_new, none_new, all_accepted, test_from_closed, none_counted}
use Rattle.confluence_laws.proofs.Needed.{AreSampled, AtMostOnce, once_at_most, uniques_hold, or_uniques, made_once, made_passes, item_passes, base_made, table_counted}

-- more rows beside it do not spoil an insert
pub none_more : (rules : Rules) (b c : List TableRow) (row : TableRow) → Sub b c → insert_reason rules b row ≡ None → insert_reason rules c row ≡ None
none_more rules b c row s h =
    let none = none_of_five _ _ _ _ _ h in
    let referred = all_weaker (stands_among b) (stands_among c) (λ r t. s.more _ t) (refs rules row) (not-false _ none.fourth) in
    let matched = all_weaker (λ m. matches_among b row.values m (value_at row.values m.reference)) (λ m. matches_among c row.values m (value_at row.values m.reference))
    (λ m t. match_more s row.values m (value_at row.values m.reference) t) (table_of rules row.table).matches (not-false _ none.fifth) in
    λ i. first_reason ((1, none.first i) ∷ (2, none.second i) ∷ (3, none.third i) ∷ (4, not (referred i)) ∷ (5, not (matched i)) ∷ [])

rows_counted : (t n : ℕ) (x : Item) (items : List Item) → x.table ≡ t → weight (λ e. one_if (in_table t e)) (rows_of items) ≡ 0 → weight (λ e. one_if (in_table t e)) (rows_of (copies n x items)) ≡ n
rows_counted t zero x items in_t none = none
rows_counted t (suc n) x items in_t none =
    let rest = rows_counted t n x items in_t none in
    (λ i. one_if (eq-eqb x.table t in_t i) + rest i) ∙ (let e : 1 + n ≡ suc n = omega arith in e)

copies_more : (n : ℕ) (x : Item) (items : List Item) → Sub (rows_of items) (rows_of (copies n x items))
copies_more zero x items = record { more = λ p h. h }
copies_more (suc n) x items = record { more = λ p h. or_right _ _ ((copies_more n x items).more p h) }

shown_counted : (rules : Rules) (g : Effects) (t : ℕ) (rows : List TableRow) → count_by (in_table t) (map (shown rules g) rows) ≡ weight (λ e. one_if (in_table t e)) rows
shown_counted rules g t rows = sym (count-weight (in_table t) (map (shown rules g) rows)) ∙ weight-map (λ e. one_if (in_table t e)) (shown rules g) rows

module _ (rules : Rules) (sound : IsSound rules.tables) (items : List Item) (all : AllPass rules items) (x : Item) (free : is_none (kept_of rules x.table) ≡ true) (k : ℕ) (none : weight (λ e. one_if (in_table x.table e)) (rows_of items) ≡ 0)
    (passes : (id : ℕ) → insert_reason rules (rows_of items) (row_of id x) ≡ None)
    (limits : (n id : ℕ) → n ≤ k → limits_hold (row_of id x ∷ rows_of (copies n x items)) 0 rules.tables ≡ true) where
  copy_passes : (n id : ℕ) → n ≤ k → Passes rules id x (rows_of (copies n x items))
  copy_passes n id l = record { inserted = none_more rules (rows_of items) (rows_of (copies n x items)) (row_of id x) (copies_more n x items) (passes id); limits = limits n id l; fresh = none_new (kept_of rules x.table) (rows_of (copies n x items)) (row_of id x) free }

  all_copies : (n : ℕ) → n ≤ suc k → AllPass rules (copies n x items)
  all_copies zero l = all
  all_copies (suc n) l = (copy_passes n (suc (length (copies n x items))) (omega arith), all_copies n (omega arith))

  -- k more of them stand in base, and one is added on each side
  pub at_most_confirmed : (earlier : List Claim) → AllByRecursion (λ i. IsDeclared rules i × (accepts rules i ≡ true)) earlier
      → breaks rules earlier (AtMost x.table (suc k)) (chain (copies k x items)) (after (length (copies k x items)) (suc (length (copies k x items))) x ∷ [])
      (after (length (copies k x items)) (suc (suc (length (copies k x items)))) x ∷ []) ≡ true
  unfolding pair
  at_most_confirmed earlier ok =
      let base = copies k x items in
      let passed = all_copies k (omega arith) in
      let p = copy_passes k (suc (length base)) (omega arith) in
      let q = copy_passes k (suc (suc (length base))) (omega arith) in
      let here : (e : Bool) → e ≡ true → one_if e ≡ 1 = λ e h. ap one_if h in
      let own : one_if (x.table == x.table) ≡ 1 = here _ (eq-eqb x.table x.table refl) in
      let counted = rows_counted x.table k x items refl none in
      let a = one_closed rules sound base passed x (suc (length base)) (omega arith) in
      let b = one_closed rules sound base passed x (suc (suc (length base))) (omega arith) in
      let side : (id : ℕ) → length base < id → Passes rules id x (rows_of base) → claim_holds rules (shown_in rules (after (length base) id x ∷ chain base)) (AtMost x.table (suc k)) ≡ true =
      λ id new pass.
      let g : Effects = record { inserted = row_of id x ∷ rows_of base; deleted = [] } in
      let did = one_more rules sound base passed x id new pass in
      let founded : IsWellFounded rules g = subst (IsWellFounded rules) did (founded_closed rules (after (length base) id x ∷ chain base) (one_closed rules sound base passed x id new)) in
      ap (λ (e : Effects). at_most_holds (shown_rows rules e) x.table (suc k)) did
      ∙ ap (λ (l : List TableRow). at_most_holds (map (shown rules g) l) x.table (suc k)) (all_visible rules sound g founded refl (one_new rules sound base passed x id pass))
      ∙ or_right (suc k == 0) _ (ap (λ n. nat_le n (suc k)) (shown_counted rules g x.table (row_of id x ∷ rows_of base) ∙ ap₂ (λ m n. m + n) own counted) ∙ le-leb (1 + k) (suc k) (omega arith)) in
      let fails : claim_holds rules (shown_in rules (pair rules sound base passed x)) (AtMost x.table (suc k)) ≡ false =
      let g : Effects = record { inserted = row_of (suc (suc (length base))) x ∷ row_of (suc (length base)) x ∷ rows_of base; deleted = [] } in
      let did = pair_effects rules sound base passed x p q in
      let founded : IsWellFounded rules g = subst (IsWellFounded rules) did (founded_closed rules (pair rules sound base passed x) (pair_closed rules sound base passed x)) in
      ap (λ (e : Effects). at_most_holds (shown_rows rules e) x.table (suc k)) did
      ∙ ap (λ (l : List TableRow). at_most_holds (map (shown rules g) l) x.table (suc k)) (all_visible rules sound g founded refl (pair_new rules sound base passed x free p))
      ∙ or_from (suc k == 0) _ (ne_eqb (suc k) 0 (λ e. omega arith))
      (ap (λ n. nat_le n (suc k)) (shown_counted rules g x.table (row_of (suc (suc (length base))) x ∷ row_of (suc (length base)) x ∷ rows_of base) ∙ ap₂ (λ m n. m + n) own (ap₂ (λ m n. m + n) own counted))
      ∙ lt-leb (1 + (1 + k)) (suc k) (omega arith)) in
      and_from _ _ (and_from _ _ (and_from _ _ (and_from _ _ (and_from _ _
      (test_from_closed (after (length base) (suc (length base)) x ∷ chain base) a) (test_from_closed (after (length base) (suc (suc (length base))) x ∷ chain base) b))
      (test_from_closed (pair rules sound base passed x) (pair_closed rules sound base passed x)))
      (all_accepted rules sound (after (length base) (suc (length base)) x ∷ chain base) a earlier (AtMost x.table (suc k)) ok (side (suc (length base)) (omega arith) p)))
      (all_accepted rules sound (after (length base) (suc (suc (length base))) x ∷ chain base) b earlier (AtMost x.table (suc k)) ok (side (suc (suc (length base))) (omega arith) q)))
      (not_from_false _ fails)

-- limits hold where they hold in each table
pub limits_each : (rows : List TableRow) (t : ℕ) (tables : List TableDef)
    → ((u : ℕ) (table : TableDef) → slice_get tables u ≡ Some table
    → (list_all (λ rule. keeps_least table.kept rule.column || unique_holds rows (t + u) rule.column) table.uniques ≡ true) × (at_most_holds rows (t + u) table.at_most ≡ true))
    → limits_hold rows t tables ≡ true
limits_each rows t [] h = refl
limits_each rows t (table ∷ tables) h =
    let Holds : ℕ → TableDef → Type 0 = λ n def.
    (list_all (λ rule. keeps_least def.kept rule.column || unique_holds rows n rule.column) def.uniques ≡ true) × (at_most_holds rows n def.at_most ≡ true) in
    let first : Holds t table = subst (λ (n : ℕ). Holds n table) (let e : t + 0 ≡ t = omega arith in e) (h 0 table refl) in
    and_from _ _ (and_from _ _ first.0 first.1)
    (limits_each rows (t + 1) tables (λ u other at. subst (λ (n : ℕ). Holds n other) (let e : t + suc u ≡ (t + 1) + u = omega arith in e) (h (suc u) other at)))

others_counted : (u n : ℕ) (x : Item) (items : List Item) → (x.table == u) ≡ false → weight (λ e. one_if (in_table u e)) (rows_of (copies n x items)) ≡ weight (λ e. one_if (in_table u e)) (rows_of items)
others_counted u zero x items apart = refl
others_counted u (suc n) x items apart = (λ i. one_if (apart i) + others_counted u n x items apart i) ∙ (let e : 0 + weight (λ e. one_if (in_table u e)) (rows_of items) ≡ weight (λ e. one_if (in_table u e)) (rows_of items) = omega arith in e)

copies_limits : (rules : Rules) (items : List Item) (x : Item) (k n id : ℕ) → n ≤ k → AtMostOnce (rows_of items) → weight (λ e. one_if (in_table x.table e)) (rows_of items) ≡ 0
    → (table_of rules x.table).uniques ≡ [] → (table_of rules x.table).at_most ≡ suc k → limits_hold (row_of id x ∷ rows_of (copies n x items)) 0 rules.tables ≡ true
copies_limits rules items x k n id l once none bare most =
    let rows = row_of id x ∷ rows_of (copies n x items) in
    limits_each rows 0 rules.tables (λ u table at.
    let it : table_of rules u ≡ table = ap (λ (o : Option TableDef). unwrap_or o no_table) at in
    let base : 0 + u ≡ u = omega arith in
    let step : (b : Bool) → (x.table == u) ≡ b → (list_all (λ rule. keeps_least table.kept rule.column || unique_holds rows u rule.column) table.uniques ≡ true) × (at_most_holds rows u table.at_most ≡ true) =
    elim [
      | true ↦ λ e.
          let same : x.table ≡ u = eqb-true x.table u e in
          let own : table_of rules x.table ≡ table = ap (table_of rules) same ∙ it in
          let counted : weight (λ r. one_if (in_table u r)) rows ≡ 1 + n =
          (λ i. one_if (e i) + rows_counted u n x items same (ap (λ (v : ℕ). weight (λ r. one_if (in_table v r)) (rows_of items)) (sym same) ∙ none) i) in (
            ap (λ (cs : List UniqueRule). list_all (λ rule. keeps_least table.kept rule.column || unique_holds rows u rule.column) cs) (ap (λ (v : TableDef). v.uniques) (sym own) ∙ bare),
            ap (at_most_holds rows u) (ap (λ (v : TableDef). v.at_most) (sym own) ∙ most)
                ∙ or_right (suc k == 0) _ (ap (λ c. nat_le c (suc k)) (sym (count-weight (in_table u) rows) ∙ counted) ∙ le-leb (1 + n) (suc k) (omega arith)),
          )
      | false ↦ λ e.
          let few : weight (λ r. one_if (in_table u r)) rows ≤ 1 =
          let counted : weight (λ r. one_if (in_table u r)) rows ≡ 0 + weight (λ r. one_if (in_table u r)) (rows_of items) = λ i. one_if (e i) + others_counted u n x items e i in
          let bound = once u in omega arith in
          (or_uniques table.kept rows u table.uniques (uniques_hold rows u few table.uniques), once_at_most rows u few table.at_most)
    ] in
    subst (λ (m : ℕ). (list_all (λ rule. keeps_least table.kept rule.column || unique_holds rows m rule.column) table.uniques ≡ true) × (at_most_holds rows m table.at_most ≡ true)) (sym base) (step (x.table == u) refl))

pub at_most_refused : (rules : Rules) → AreSampled rules → IsSound rules.tables → (t k : ℕ) → is_none (kept_of rules t) ≡ true → nat_le (length rules.tables) t ≡ false → (table_of rules t).uniques ≡ [] → (table_of rules t).at_most ≡ suc k
    → (earlier : List Claim) → AllByRecursion (λ i. IsDeclared rules i × (accepts rules i ≡ true)) earlier
    → breaks rules earlier (AtMost t (suc k)) (chain (copies k (item_of rules (base_of rules t) t) (base_of rules t)))
    (after (length (copies k (item_of rules (base_of rules t) t) (base_of rules t))) (suc (length (copies k (item_of rules (base_of rules t) t) (base_of rules t)))) (item_of rules (base_of rules t) t) ∷ [])
    (after (length (copies k (item_of rules (base_of rules t) t) (base_of rules t))) (suc (suc (length (copies k (item_of rules (base_of rules t) t) (base_of rules t))))) (item_of rules (base_of rules t) t) ∷ []) ≡ true
unfolding need
at_most_refused rules samples sound t k free known bare most earlier ok =
    let items = base_of rules t in
    let x = item_of rules items t in
    let base = base_made rules samples t known in
    let made = base.0.made in
    let fresh : has_table items t ≡ false = base.0.above t (omega arith) in
    let once = made_once rules samples (x ∷ items) (record { is = refl; new = fresh; known = known; needs = base.1 }, made) in
    let none = none_counted (in_table t) (rows_of items) (sym (table_counted rules samples items t) ∙ fresh) in
    at_most_confirmed rules sound items (made_passes rules samples items made) x free k none
    (λ id. (item_passes rules samples items t id made known base.1 once).inserted)
    (λ n id l. copies_limits rules items x k n id l (made_once rules samples items made) none bare most)
    earlier ok
