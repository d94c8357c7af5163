-- What the valid members of a closed list inserted and deleted passed its tests.
use Rattle.std.proofs.Common.{◌≡◌, ℕ, ◌+◌, ◌==◌, ◌≤◌, Bool, true, false, cond, ◌&&◌, ◌||◌, List, [], ◌∷◌, ◌++◌, length, filter, refl, sym, ◌∙◌, arith, Option, Some, None, nat_le, inl, inr}
use Rattle.std.specs.List.{list_any, list_all}
use Rattle.std.proofs.lemmas.Bool.{and_parts, or_cases, or_right, or_left, or_parts, or_from, and_from, false_from_ne_true, both_ways, and_right, ne_eqb, not-false}
use Rattle.std.proofs.lemmas.List.Folds.{list_any-append}
use Rattle.update_model.specs.declared.op.Op.{Op}
use Rattle.update_model.specs.declared.op.Op.TheVariants.{Insert, Delete}
use Rattle.update_model.specs.declared.row_name.RowName.{RowName}
use Rattle.update_model.specs.declared.update_id.UpdateId.{UpdateId}
use Rattle.update_model.specs.declared.value.Value.{Value}
use Rattle.update_model.specs.declared.value.Value.TheVariants as value
use Rattle.update_model.specs.Entry.{same_id}
use Rattle.update_model.specs.Node.{NodeData}
use Rattle.update_model.proofs.Ids.{same_id-symm}
use Rattle.row_check.specs.Meaning.{value_at}
use Rattle.schema.specs.declared.rules.MatchRule.{MatchRule}
use Rattle.table_model.specs.declared.verdict.Verdict.TheVariants as verdict
use Rattle.table_model.specs.Nodes.{holds, IsNext, IsClosed}
use Rattle.table_model.specs.Visible.{Rules, TableRow, Effects, same_row, table_of, refs, visible_rows, is_visible}
use Rattle.table_model.specs.Verdicts.{is_valid, verdict_after, effects, effects_of, effects_after, row_inserted, joined, nothing, Judged, ancestor_of, judge_next, judged, stands_among, matches_among, matches_hold, first_reason, insert_reason, delete_reason, verdict_on}
use Rattle.schema.specs.Checks.{checks_hold}
use Rattle.schema.specs.Columns.{all_fit}
use Rattle.table_model.proofs.Order.{any_weaker}

-- whatever is among the first is among the second
pub record Sub {X : Type 0} (xs ys : List X) : Type 0 where
  pub more : (p : X → Bool) → list_any p xs ≡ true → list_any p ys ≡ true

pub all_weaker : {X : Type 0} (p q : X → Bool) → ((x : X) → p x ≡ true → q x ≡ true) → (xs : List X) → list_all p xs ≡ true → list_all q xs ≡ true
all_weaker p q h [] e = e
all_weaker p q h (x ∷ xs) e = let parts = and_parts (p x) (list_all p xs) e in and_from _ _ (h x parts.0) (all_weaker p q h xs parts.1)

pub Sub-trans : {X : Type 0} {xs ys zs : List X} → Sub xs ys → Sub ys zs → Sub xs zs
Sub-trans a b = record { more = λ p h. b.more p (a.more p h) }

pub Sub-filter : {X : Type 0} (p : X → Bool) (xs : List X) → Sub (filter p xs) xs
Sub-filter {X} p xs = record { more = go xs } where
  go : (xs : List X) (q : X → Bool) → list_any q (filter p xs) ≡ true → list_any q xs ≡ true
  go [] q h = h
  go (x ∷ xs) q h =
      let step : (b : Bool) → list_any q (cond b (x ∷ filter p xs) (filter p xs)) ≡ true → (q x || list_any q xs) ≡ true =
      elim [
        | true ↦ λ e. elim (or_cases (q x) _ e) [ inl here ↦ or_left _ _ here | inr there ↦ or_right (q x) _ (go xs q there) ]
        | false ↦ λ e. or_right (q x) _ (go xs q e)
      ] in
      step (p x) h

pub Sub-append : {X : Type 0} (ks : List X) {xs ys : List X} → Sub xs ys → Sub (ks ++ xs) (ks ++ ys)
Sub-append ks {xs} {ys} s = record {
  more = λ p h. list_any-append p ks ys ∙ elim (or_cases (list_any p ks) (list_any p xs) (sym (list_any-append p ks xs) ∙ h)) [
    | inl a ↦ or_left _ _ a
    | inr b ↦ or_right (list_any p ks) _ (s.more p b)
  ];
}

pub Sub-right : {X : Type 0} (ks xs : List X) → Sub xs (ks ++ xs)
Sub-right ks xs = record { more = λ p h. list_any-append p ks xs ∙ or_right (list_any p ks) _ h }

-- a row passed the tests of an insert beside these older rows
pub record IsFounded (rules : Rules) (older : List TableRow) (row : TableRow) : Type 0 where
  pub known : nat_le (length rules.tables) row.table ≡ false
  pub fits : all_fit (table_of rules row.table).columns row.values ≡ true
  pub checked : checks_hold rules.ask row.values (table_of rules row.table).checks ≡ true
  pub referred : list_all (stands_among older) (refs rules row) ≡ true
  pub matched : matches_hold older row.values (table_of rules row.table).matches ≡ true
  pub new : list_any (λ e. same_row e.name row.name) older ≡ false

abbrev pub Founded : Rules → List TableRow → Type 0
Founded rules [] = Unit {0}
Founded rules (row ∷ older) = IsFounded rules older row × Founded rules older

-- a deleted name is that of a row in a deletable table
abbrev pub erasable : Rules → List TableRow → RowName → Bool
erasable rules rows name = list_any (λ row. same_row row.name name && (table_of rules row.table).deletable) rows

-- the first of the reasons is none, and so is each later one
first_none : (n : ℕ) (b : Bool) (rs : List (ℕ × Bool)) → first_reason ((n, b) ∷ rs) ≡ None → (b ≡ false) × (first_reason rs ≡ None)
first_none n b rs h =
    let step : (c : Bool) → cond c (Some n) (first_reason rs) ≡ None → (c ≡ false) × (first_reason rs ≡ None) =
    elim [ true ↦ λ e. absurd (cc) | false ↦ λ e. (refl, e) ] in
    step b h

pub record NoneOfFive (a b c d e : Bool) : Type 0 where
  pub first : a ≡ false
  pub second : b ≡ false
  pub third : c ≡ false
  pub fourth : d ≡ false
  pub fifth : e ≡ false

pub none_of_five : (a b c d e : Bool) → first_reason ((1, a) ∷ (2, b) ∷ (3, c) ∷ (4, d) ∷ (5, e) ∷ []) ≡ None → NoneOfFive a b c d e
none_of_five a b c d e h =
    let v = first_none 1 a ((2, b) ∷ (3, c) ∷ (4, d) ∷ (5, e) ∷ []) h in
    let w = first_none 2 b ((3, c) ∷ (4, d) ∷ (5, e) ∷ []) v.1 in
    let x = first_none 3 c ((4, d) ∷ (5, e) ∷ []) w.1 in
    let y = first_none 4 d ((5, e) ∷ []) x.1 in
    record { first = v.0; second = w.0; third = x.0; fourth = y.0; fifth = (first_none 5 e [] y.1).0 }

-- the first of three reasons does not apply
not_first : (a b c : Bool) → first_reason ((6, a) ∷ (7, b) ∷ (8, c) ∷ []) ≡ None → a ≡ false
not_first a b c h = (first_none 6 a ((7, b) ∷ (8, c) ∷ []) h).0

pub match_more : {b c : List TableRow} → Sub b c → (values : List Value) (m : MatchRule) (v : Value) → matches_among b values m v ≡ true → matches_among c values m v ≡ true
match_more s values m (value.Row name) h = s.more _ h
match_more s values m value.Null h = h
match_more s values m (value.Int n) h = h
match_more s values m (value.Text bytes) h = h
match_more s values m (value.Flag flag) h = h
match_more s values m (value.Own index) h = h

pub founded_insert : (rules : Rules) (beside older : List TableRow) (row : TableRow) → Sub beside older → list_any (λ e. same_row e.name row.name) older ≡ false
    → insert_reason rules beside row ≡ None → IsFounded rules older row
founded_insert rules beside older row s new h =
    let none = none_of_five _ _ _ _ _ h in
    record {
      known = none.first;
      fits = not-false _ none.second;
      checked = not-false _ none.third;
      referred = all_weaker (stands_among beside) (stands_among older) (λ r t. s.more _ t) (refs rules row) (not-false _ none.fourth);
      matched = all_weaker (λ m. matches_among beside row.values m (value_at row.values m.reference)) (λ m. matches_among older row.values m (value_at row.values m.reference)) (λ m t. match_more s row.values m (value_at row.values m.reference) t) (table_of rules row.table).matches (not-false _ none.fifth);
      new = new;
    }

-- no row has this update's name from this index on
abbrev Unused : UpdateId → ℕ → List TableRow → Type 0
Unused id k rows = (j : ℕ) → k ≤ j → list_any (λ e. same_row e.name (record { update = id; index = j })) rows ≡ false

-- what a walk over the operations of a valid update leaves
record Leaves (rules : Rules) (base : List TableRow) (did : Effects) : Type 0 where
  founded : Founded rules (did.inserted ++ base)
  erased : list_all (erasable rules base) did.deleted ≡ true

void_not_valid : (reason k : ℕ) → is_valid (verdict.Void reason k) ≡ true → ⊥
void_not_valid reason k h = cc

module _ (rules : Rules) (past : Effects) (rows base : List TableRow) (inside : Sub rows base) (node : NodeData) where
  walk : (k : ℕ) (did : Effects) (ops : List Op) → Leaves rules base did → Unused node.id k (did.inserted ++ base)
      → is_valid (verdict_after rules past rows node k did ops) ≡ true → Leaves rules base (effects_after node k did ops)
  walk k did [] so unused h = so
  walk k did (Insert t values ∷ ops) so unused h =
      let row = row_inserted node k t values in
      let step : (o : Option ℕ) → insert_reason rules (did.inserted ++ rows) row ≡ o
      → is_valid (elim o [ Some reason ↦ verdict.Void reason k | None ↦ verdict_after rules past rows node (k + 1) (record did { inserted = row ∷ did.inserted }) ops ]) ≡ true
      → Leaves rules base (effects_after node (k + 1) (record did { inserted = row ∷ did.inserted }) ops) =
      elim [
        | Some reason ↦ λ e v. absurd (void_not_valid reason k v)
        | None ↦ λ e v. walk (k + 1) (record did { inserted = row ∷ did.inserted }) ops
            (record {
              founded = (founded_insert rules (did.inserted ++ rows) (did.inserted ++ base) row (Sub-append did.inserted inside) (unused k (omega arith)) e, so.founded);
              erased = so.erased;
            })
            (λ j above. or_from _ _ (and_right (same_id node.id node.id) (k == j) (ne_eqb k j (λ same. omega arith))) (unused j (omega arith)))
            v
      ] in
      step (insert_reason rules (did.inserted ++ rows) row) refl h
  walk k did (Delete name ∷ ops) so unused h =
      let step : (o : Option ℕ) → delete_reason rules rows did.deleted node.author name ≡ o
      → is_valid (elim o [ Some reason ↦ verdict.Void reason k | None ↦ verdict_after rules past rows node (k + 1) (record did { deleted = name ∷ did.deleted }) ops ]) ≡ true
      → Leaves rules base (effects_after node (k + 1) (record did { deleted = name ∷ did.deleted }) ops) =
      elim [
        | Some reason ↦ λ e v. absurd (void_not_valid reason k v)
        | None ↦ λ e v. walk (k + 1) (record did { deleted = name ∷ did.deleted }) ops
            (record {
              founded = so.founded;
              erased = and_from _ _ (inside.more _ (not-false _ (or_parts _ _ (not_first _ _ _ e)).0)) so.erased;
            })
            (λ j above. unused j (omega arith))
            v
      ] in
      step (delete_reason rules rows did.deleted node.author name) refl h

-- the rows of an update have its id
own_rows : (node : NodeData) (id : UpdateId) → (same_id id node.id) ≡ false → (k : ℕ) (did : Effects) (ops : List Op) → list_any (λ e. same_id id e.name.update) did.inserted ≡ false
    → list_any (λ e. same_id id e.name.update) (effects_after node k did ops).inserted ≡ false
own_rows node id apart k did [] h = h
own_rows node id apart k did (Insert t values ∷ ops) h = own_rows node id apart (k + 1) (record did { inserted = row_inserted node k t values ∷ did.inserted }) ops (or_from _ _ apart h)
own_rows node id apart k did (Delete name ∷ ops) h = own_rows node id apart (k + 1) (record did { deleted = name ∷ did.deleted }) ops h

rows_held : (rules : Rules) (nodes : List NodeData) (id : UpdateId) → holds nodes id ≡ false → list_any (λ e. same_id id e.name.update) (effects (judged rules nodes)).inserted ≡ false
unfolding verdict_on effects judge_next judged
rows_held rules [] id h = refl
rows_held rules (n ∷ nodes) id h =
    let parts = or_parts (same_id id n.id) (holds nodes id) h in
    let rest = rows_held rules nodes id parts.1 in
    let js = judged rules nodes in
    let step : (b : Bool) → list_any (λ e. same_id id e.name.update) (cond b (joined (effects_of n) (effects js)) (effects js)).inserted ≡ false =
    elim [
      | true ↦ list_any-append (λ e. same_id id e.name.update) (effects_of n).inserted (effects js).inserted ∙ or_from _ _ (own_rows n id parts.0 0 nothing n.ops refl) rest
      | false ↦ rest
    ] in
    step (is_valid (judge_next rules js n).verdict)

-- fewer members did less
pub Sub-inserted : (p : Judged → Bool) (js : List Judged) → Sub (effects (filter p js)).inserted (effects js).inserted
unfolding verdict_on effects judge_next judged
Sub-inserted p js = record { more = go js } where
  go : (js : List Judged) (q : TableRow → Bool) → list_any q (effects (filter p js)).inserted ≡ true → list_any q (effects js).inserted ≡ true
  go [] q h = h
  go (j ∷ js) q h =
      let old : list_any q (effects (filter p js)).inserted ≡ true → list_any q (effects (j ∷ js)).inserted ≡ true =
      λ e. let step : (b : Bool) → list_any q (cond b (joined (effects_of j.node) (effects js)) (effects js)).inserted ≡ true =
      elim [ true ↦ list_any-append q (effects_of j.node).inserted (effects js).inserted ∙ or_right _ _ (go js q e) | false ↦ go js q e ] in
      step (is_valid j.verdict) in
      let step : (b : Bool) → list_any q (effects (cond b (j ∷ filter p js) (filter p js))).inserted ≡ true → list_any q (effects (j ∷ js)).inserted ≡ true =
      elim [
        | true ↦ λ e.
            let inner : (v : Bool) → list_any q (cond v (joined (effects_of j.node) (effects (filter p js))) (effects (filter p js))).inserted ≡ true → list_any q (cond v (joined (effects_of j.node) (effects js)) (effects js)).inserted ≡ true =
            elim [
              | true ↦ λ f. list_any-append q (effects_of j.node).inserted (effects js).inserted
                  ∙ elim (or_cases (list_any q (effects_of j.node).inserted) _ (sym (list_any-append q (effects_of j.node).inserted (effects (filter p js)).inserted) ∙ f)) [
                    | inl a ↦ or_left _ _ a
                    | inr b ↦ or_right _ _ (go js q b)
                  ]
              | false ↦ λ f. go js q f
            ] in
            inner (is_valid j.verdict) e
        | false ↦ λ e. old e
      ] in
      step (p j) h

-- what a closed list did
pub record IsWellFounded (rules : Rules) (g : Effects) : Type 0 where
  pub founded : Founded rules g.inserted
  pub erased : list_all (erasable rules g.inserted) g.deleted ≡ true

pub all-append : {X : Type 0} (p : X → Bool) (xs ys : List X) → list_all p xs ≡ true → list_all p ys ≡ true → list_all p (xs ++ ys) ≡ true
all-append p [] ys a b = b
all-append p (x ∷ xs) ys a b = let parts = and_parts (p x) _ a in and_from _ _ parts.0 (all-append p xs ys parts.1 b)

pub founded_closed : (rules : Rules) (nodes : List NodeData) → IsClosed nodes → IsWellFounded rules (effects (judged rules nodes))
unfolding verdict_on effects judge_next judged
founded_closed rules [] c = record { founded = tt; erased = refl }
founded_closed rules (n ∷ nodes) c =
    let next : IsNext nodes n = c.0 in
    let js = judged rules nodes in
    let old = founded_closed rules nodes c.1 in
    let past = effects (filter (λ j. ancestor_of js n j.node.id) js) in
    let base = (effects js).inserted in
    let inside : Sub (visible_rows rules past) base =
    Sub-trans (Sub-filter (λ row. is_visible rules past row.name) past.inserted) (Sub-inserted (λ j. ancestor_of js n j.node.id) js) in
    let unused : Unused n.id 0 base =
    λ j above. false_from_ne_true _ (λ e. both_ways _ (rows_held rules nodes n.id next.new) (any_weaker _ (λ e. same_id n.id e.name.update) (λ e h. same_id-symm n.id e.name.update ∙ (and_parts _ _ h).0) base e)) in
    let step : (b : Bool) → is_valid (judge_next rules js n).verdict ≡ b → IsWellFounded rules (cond b (joined (effects_of n) (effects js)) (effects js)) =
    elim [
      | true ↦ λ e.
          let left = walk rules past (visible_rows rules past) base inside n 0 nothing n.ops (record { founded = old.founded; erased = refl }) unused e in
          record {
            founded = left.founded;
            erased = all-append _ (effects_of n).deleted (effects js).deleted
                (all_weaker _ _ (λ name h. (Sub-right (effects_of n).inserted base).more _ h) (effects_of n).deleted left.erased)
                (all_weaker _ _ (λ name h. (Sub-right (effects_of n).inserted base).more _ h) (effects js).deleted old.erased);
          }
      | false ↦ λ e. old
    ] in
    step (is_valid (judge_next rules js n).verdict) refl
