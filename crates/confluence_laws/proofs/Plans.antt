-- In a chain of inserts that pass their tests all is valid, and all rows are visible.
use Rattle.std.proofs.Common.{◌≡◌, ℕ, ◌+◌, ◌==◌, ◌<◌, suc, Bool, true, false, cond, not, ◌&&◌, List, [], ◌∷◌, ◌++◌, length, filter, replicate, refl, sym, ap, ◌∙◌, subst, Option, Some, None, arith, append-nil, if◌then◌else◌}
use Rattle.std.specs.List.{list_any, list_all, AllByRecursion}
use Rattle.std.proofs.lemmas.Bool.{and_parts, and_from, and_left, and_right, both_ways, eq-eqb, eqb-true, not-true, not_from_false, or_from, or_left, or_right, false_from_ne_true}
use Rattle.update_model.specs.declared.row_name.RowName.{RowName}
use Rattle.update_model.specs.declared.update_id.UpdateId.{UpdateId}
use Rattle.update_model.specs.Entry.{same_id}
use Rattle.update_model.specs.Graph.{has}
use Rattle.update_model.proofs.Ids.{id_from_same, same_id-refl}
use Rattle.table_model.specs.declared.verdict.Verdict.TheVariants as verdict
use Rattle.table_model.specs.Nodes.{holds, IsClosed}
use Rattle.table_model.specs.Visible.{Rules, TableRow, Effects, same_row, refs, is_cascade, cascade_refs, name_cmp, kept_of, is_candidate, goes_before, is_least_in, is_least, is_visible, visible_rows, is_deleted}
use Rattle.table_model.specs.Verdicts.{is_valid, verdict_on, effects, effects_of, ancestor_of, judge_next, judged, stands_among, row_inserted, joined, in_table, is_new_in, are_new, left_of, limits_hold, insert_reason}
use Rattle.confluence_laws.specs.Examples.{Item, numbered, row_numbered, last_of, after, chain}
use Rattle.table_model.proofs.Founded.{IsFounded, Founded, IsWellFounded, founded_closed, founded_insert}
use Rattle.std.specs.Ordering.{is_lt}
use Rattle.std.proofs.lemmas.Cmp.{eq_by_cmp_equiv, int_cmp_total, nat_list_cmp_total, tied_itself}
use Rattle.update_model.specs.declared.value.Value.{Value}
use Rattle.update_model.specs.declared.value.Value.TheVariants as value
use Rattle.row_check.specs.declared.cmp.Cmp.TheVariants as cmp
use Rattle.row_check.specs.Comparisons.{compares}
use Rattle.row_check.specs.Meaning.{value_at}
use Rattle.schema.proofs.Soundness.{IsSound}
use Rattle.table_model.proofs.Order.{any_weaker}
use Rattle.table_model.proofs.Rising.{name_cmp_total}
use Rattle.table_model.proofs.Resting.{ones_from, resting}
use Rattle.table_model.proofs.Settled.{IsOne, are_resting, each_both, visible_from}
use Rattle.table_model.proofs.Standing.{Stands, each-map, each_stands, any_each, all_both, all_filtered, row_from_same}

-- the row that an update with this number inserts
abbrev pub row_of : ℕ → Item → TableRow
row_of id item = row_inserted (after 0 id item) 0 item.table item.values

abbrev pub rows_of : List Item → List TableRow
rows_of [] = []
rows_of (item ∷ items) = row_of (suc (length items)) item ∷ rows_of items

-- a row passes its tests beside the ones before it
pub record Passes (rules : Rules) (id : ℕ) (item : Item) (rows : List TableRow) : Type 0 where
  pub inserted : insert_reason rules rows (row_of id item) ≡ None
  pub limits : limits_hold (row_of id item ∷ rows) 0 rules.tables ≡ true
  pub fresh : is_new_in (kept_of rules item.table) rows (row_of id item) ≡ true

abbrev pub AllPass : Rules → List Item → Type 0
AllPass rules [] = Unit {0}
AllPass rules (item ∷ items) = Passes rules (suc (length items)) item (rows_of items) × AllPass rules items

last_same : (zs : List ℕ) (m n : ℕ) → zs ++ m ∷ [] ≡ zs ++ n ∷ [] → m ≡ n
last_same [] m n e = cc
last_same (z ∷ zs) m n e = let rest : zs ++ m ∷ [] ≡ zs ++ n ∷ [] = cc in last_same zs m n rest

-- ids of different numbers are two
pub apart : (m n : ℕ) → (m ≡ n → ⊥) → same_id (numbered m) (numbered n) ≡ false
apart m n differ = false_from_ne_true _ (λ e. differ (last_same (replicate 31 0) m n (ap (λ (id : UpdateId). id.0) (id_from_same (numbered m) (numbered n) e))))

-- the ids of a chain are 1 to its length
pub ids_below : (items : List Item) (id : ℕ) → length items < id → holds (chain items) (numbered id) ≡ false
ids_below [] id h = refl
ids_below (item ∷ items) id h = or_from _ _ (apart id (suc (length items)) (λ e. omega arith)) (ids_below items id (omega arith))

pub last_held : (items : List Item) → list_all (holds (chain items)) (last_of (length items)) ≡ true
last_held [] = refl
last_held (item ∷ items) = and_from _ _ (or_left _ _ (same_id-refl (numbered (suc (length items))))) refl

pub chain_closed : (items : List Item) → IsClosed (chain items)
chain_closed [] = tt
chain_closed (item ∷ items) = (record { new = ids_below items (suc (length items)) (omega arith); preds = last_held items }, chain_closed items)

-- an update after a chain has all of it for ancestors
pub all_before : (rules : Rules) (items : List Item) (id : ℕ) (item : Item) → AllByRecursion (λ j. ancestor_of (judged rules (chain items)) (after (length items) id item) j.node.id ≡ true) (judged rules (chain items))
unfolding verdict_on effects judge_next judged
all_before rules [] id item = tt
all_before rules (x ∷ items) id item =
    let top = suc (length items) in
    let named : has (numbered top ∷ []) (numbered top) ≡ true = or_left _ _ (same_id-refl (numbered top)) in (
      or_left _ _ named,
      each-map _ _ (λ j h. or_right (has (numbered top ∷ []) j.node.id) _ (or_left _ _ (and_from _ _ named h))) (judged rules (chain items)) (all_before rules items top x),
    )

pub filter_all : {X : Type 0} (p : X → Bool) (xs : List X) → AllByRecursion (λ x. p x ≡ true) xs → filter p xs ≡ xs
filter_all p [] h = refl
filter_all p (x ∷ xs) h = (λ i. cond (h.0 i) (x ∷ filter p xs) (filter p xs)) ∙ ap (λ l. x ∷ l) (filter_all p xs h.1)

-- nothing of its table, with an equal value in the column of which the table keeps the least row, has a lesser name
abbrev pub IsFree : Rules → List TableRow → TableRow → Type 0
IsFree rules rows e = (column : ℕ) → kept_of rules e.table ≡ Some column → list_any (goes_before column e) rows ≡ false

each_here : {X : Type 0} (xs : List X) → AllByRecursion (λ x. (p : X → Bool) → p x ≡ true → list_any p xs ≡ true) xs
each_here [] = tt
each_here {X} (x ∷ xs) = ((λ p h. or_left _ _ h), each-map (λ y. (p : X → Bool) → p y ≡ true → list_any p xs ≡ true) (λ y. (p : X → Bool) → p y ≡ true → list_any p (x ∷ xs) ≡ true) (λ y h p e. or_right (p x) _ (h p e)) xs (each_here xs))

same_both : (a b : Value) → compares cmp.Eq a b ≡ true → compares cmp.Eq b a ≡ true
same_both (value.Int a) (value.Int b) p = sym ((eq_by_cmp_equiv int_cmp_total).symm a b) ∙ p
same_both (value.Text a) (value.Text b) p = sym ((eq_by_cmp_equiv nat_list_cmp_total).symm a b) ∙ p
same_both (value.Flag true) (value.Flag true) p = refl
same_both (value.Flag false) (value.Flag false) p = refl
same_both a b p = absurd cc

-- rows whose values are new are free
pub free_each : (rules : Rules) (rows : List TableRow) → are_new rules [] rows ≡ true → AllByRecursion (IsFree rules rows) rows
free_each rules [] h = tt
free_each rules (x ∷ older) h =
    let parts = and_parts (is_new_in (kept_of rules x.table) (older ++ []) x) _ h in
    let new : is_new_in (kept_of rules x.table) older x ≡ true = subst (λ (l : List TableRow). is_new_in (kept_of rules x.table) l x ≡ true) (append-nil older) parts.0 in
    let alone : (column : ℕ) → kept_of rules x.table ≡ Some column → list_any (λ other. in_table x.table other && compares cmp.Eq (value_at x.values column) (value_at other.values column)) older ≡ false =
    λ column is. not-true _ (subst (λ (o : Option ℕ). is_new_in o older x ≡ true) is new) in (
      (λ column is. or_from _ _
          (and_right ((x.table == x.table) && compares cmp.Eq (value_at x.values column) (value_at x.values column)) (is_lt (name_cmp x.name x.name)) (ap is_lt (tied_itself name_cmp_total x.name)))
          (false_from_ne_true _ (λ e. both_ways _ (alone column is)
          (any_weaker (goes_before column x) (λ other. in_table x.table other && compares cmp.Eq (value_at x.values column) (value_at other.values column))
          (λ other k. (and_parts ((other.table == x.table) && compares cmp.Eq (value_at x.values column) (value_at other.values column)) _ k).0) older e)))),
      each_both (IsFree rules older) (λ e. (p : TableRow → Bool) → p e ≡ true → list_any p older ≡ true) (IsFree rules (x ∷ older))
          (λ e free here column is. or_from _ _
          (false_from_ne_true _ (λ k.
          let two = and_parts ((x.table == e.table) && compares cmp.Eq (value_at e.values column) (value_at x.values column)) _ k in
          let three = and_parts (x.table == e.table) _ two.0 in
          let same : x.table ≡ e.table = eqb-true x.table e.table three.0 in
          both_ways _ (alone column (ap (kept_of rules) same ∙ is))
          (here (λ other. in_table x.table other && compares cmp.Eq (value_at x.values column) (value_at other.values column))
          (and_from _ _ (eq-eqb e.table x.table (sym same)) (same_both (value_at e.values column) (value_at x.values column) three.1)))))
          (free column is))
          older (free_each rules older parts.1) (each_here older),
    )

pub free_least : (rules : Rules) (g : Effects) (seen : RowName → Bool) (e : TableRow) → IsFree rules g.inserted e → is_least rules g seen e ≡ true
free_least rules g seen e free =
    let step : (o : Option ℕ) → kept_of rules e.table ≡ o → is_least_in rules g seen e o ≡ true = elim [
      | None ↦ λ is. refl
      | Some column ↦ λ is. not_from_false _ (false_from_ne_true _ (λ h. both_ways _ (free column is)
          (any_weaker (λ other. goes_before column e other && is_candidate rules g seen other) (goes_before column e) (λ other k. (and_parts (goes_before column e other) _ k).0) g.inserted h)))
    ] in
    step (kept_of rules e.table) refl

-- where none of these older rows is deleted and each is free, each of them is visible
module _ (rules : Rules) (g : Effects) (ones : AllByRecursion (IsOne g.inserted) g.inserted) (rest : are_resting rules g.inserted ≡ true) where
  pub stay_each : (rows : List TableRow) → Founded rules rows → AllByRecursion (Stands rules g.inserted) rows → AllByRecursion (λ e. is_deleted g e.name ≡ false) rows
      → AllByRecursion (IsFree rules g.inserted) rows → AllByRecursion (λ e. is_visible rules g e.name ≡ true) rows
  stay_each [] fs s n w = tt
  stay_each (e ∷ older) fs s n w =
      let it : IsFounded rules older e = fs.0 in
      let st : Stands rules g.inserted e = s.0 in
      let before = stay_each older fs.1 s.1 n.1 w.1 in
      let named = all_filtered (λ r. is_cascade r.action) (stands_among older) (refs rules e) it.referred in
      let led : list_all (λ r. is_visible rules g r.name) (cascade_refs rules e) ≡ true =
      all_both (stands_among older) (stands_among older) (λ r. is_visible rules g r.name)
      (λ r there again. any_each (λ x. is_visible rules g x.name ≡ true) (λ x. same_row x.name r.name && (x.table == r.target)) _
      (λ x px hx. subst (λ (m : RowName). is_visible rules g m ≡ true) (row_from_same x.name r.name (and_parts (same_row x.name r.name) _ hx).0) px)
      older before there)
      (cascade_refs rules e) named named in (
        visible_from rules g ones rest e (record { here = st.here; only = st.only }) (and_from _ _ led (ap not n.0)) (free_least rules g (is_visible rules g) e w.0),
        before,
      )

kept_each : (g : Effects) → g.deleted ≡ [] → (rows : List TableRow) → AllByRecursion (λ e. is_deleted g e.name ≡ false) rows
kept_each g none [] = tt
kept_each g none (e ∷ rows) = (ap (λ l. list_any (same_row e.name) l) none, kept_each g none rows)

-- where nothing is deleted and all values are new, each row is visible
module _ (rules : Rules) (sound : IsSound rules.tables) (g : Effects) (f : IsWellFounded rules g) (none : g.deleted ≡ []) (new : are_new rules [] g.inserted ≡ true) where
  pub each_visible : AllByRecursion (λ row. is_visible rules g row.name ≡ true) g.inserted
  each_visible =
      stay_each rules g (ones_from rules g.inserted f.founded) (resting rules sound g.inserted f.founded) g.inserted f.founded (each_stands rules g.inserted f.founded) (kept_each g none g.inserted) (free_each rules g.inserted new)

  pub all_visible : visible_rows rules g ≡ g.inserted
  all_visible = filter_all (λ row. is_visible rules g row.name) g.inserted each_visible

-- the values of a chain are new
pub items_new : (rules : Rules) (items : List Item) → AllPass rules items → are_new rules [] (rows_of items) ≡ true
items_new rules [] p = refl
items_new rules (item ∷ items) p =
    and_from _ _ (subst (λ (l : List TableRow). is_new_in (kept_of rules item.table) l (row_of (suc (length items)) item) ≡ true) (sym (append-nil (rows_of items))) p.0.fresh) (items_new rules items p.1)

-- where nothing is deleted, all rows are left
pub all_left : (rows : List TableRow) → left_of rows [] ≡ rows
all_left [] = refl
all_left (row ∷ rows) = ap (λ (l : List TableRow). row ∷ l) (all_left rows)

-- the rows of a chain have the names of its updates
pub rows_below : (items : List Item) (id : ℕ) → length items < id → list_any (λ e. same_row e.name (row_numbered id)) (rows_of items) ≡ false
rows_below [] id h = refl
rows_below (item ∷ items) id h =
    or_from _ _ (and_left (same_id (numbered (suc (length items))) (numbered id)) (0 == 0) (apart (suc (length items)) id (λ e. omega arith))) (rows_below items id (omega arith))

-- an update that passes its tests after a chain is valid
pub passes_valid : (rules : Rules) → IsSound rules.tables → (items : List Item) (id : ℕ) (item : Item) → length items < id → effects (judged rules (chain items)) ≡ record { inserted = rows_of items; deleted = [] }
    → are_new rules [] (rows_of items) ≡ true → Passes rules id item (rows_of items) → (judge_next rules (judged rules (chain items)) (after (length items) id item)).verdict ≡ verdict.Valid
unfolding verdict_on effects judge_next judged
passes_valid rules sound items id item new did news p =
    let js = judged rules (chain items) in
    let node = after (length items) id item in
    let row = row_of id item in
    let old : Effects = record { inserted = rows_of items; deleted = [] } in
    let with_row : Effects = record { inserted = row ∷ rows_of items; deleted = [] } in
    let old_founded : IsWellFounded rules old = subst (IsWellFounded rules) did (founded_closed rules (chain items) (chain_closed items)) in
    let founded : IsWellFounded rules with_row =
    record { founded = (founded_insert rules (rows_of items) (rows_of items) row (record { more = λ q h. h }) (rows_below items id new) p.inserted, old_founded.founded); erased = refl } in
    let past : effects (filter (λ j. ancestor_of js node j.node.id) js) ≡ old =
    ap effects (filter_all (λ j. ancestor_of js node j.node.id) js (all_before rules items id item)) ∙ did in
    let before : visible_rows rules old ≡ rows_of items = all_visible rules sound old old_founded refl news in
    let both_new : are_new rules [] (row ∷ rows_of items) ≡ true =
    and_from _ _ (subst (λ (l : List TableRow). is_new_in (kept_of rules item.table) l row ≡ true) (sym (append-nil (rows_of items))) p.fresh) news in
    let beside : visible_rows rules with_row ≡ row ∷ rows_of items = all_visible rules sound with_row founded refl both_new in
    let fresh : are_new rules (left_of (rows_of items) []) (row ∷ []) ≡ true =
    and_from _ _ (subst (λ (l : List TableRow). is_new_in (kept_of rules item.table) l row ≡ true) (sym (all_left (rows_of items))) p.fresh) refl in
    ap (λ (g : Effects). verdict_on rules g node) past
    ∙ (λ i. elim (insert_reason rules (before i) row) [
      | Some reason ↦ verdict.Void reason 0
      | None ↦ if limits_hold (beside i) 0 rules.tables && are_new rules (left_of (before i) []) (row ∷ []) then verdict.Valid else verdict.Void 9 (0 + 1)
    ])
    ∙ (λ i. elim (p.inserted i) [
      | Some reason ↦ verdict.Void reason 0
      | None ↦ if limits_hold (row ∷ rows_of items) 0 rules.tables && are_new rules (left_of (rows_of items) []) (row ∷ []) then verdict.Valid else verdict.Void 9 (0 + 1)
    ])
    ∙ (λ i. if p.limits i && fresh i then verdict.Valid else verdict.Void 9 (0 + 1))

-- what a chain of passing inserts did
pub chain_effects : (rules : Rules) → IsSound rules.tables → (items : List Item) → AllPass rules items → effects (judged rules (chain items)) ≡ record { inserted = rows_of items; deleted = [] }
unfolding verdict_on effects judge_next judged
chain_effects rules sound [] p = refl
chain_effects rules sound (item ∷ items) p =
    let did = chain_effects rules sound items p.1 in
    let valid = passes_valid rules sound items (suc (length items)) item (omega arith) did (items_new rules items p.1) p.0 in
    let node = after (length items) (suc (length items)) item in
    λ i. cond (is_valid (valid i)) (joined (effects_of node) (did i)) (did i)
