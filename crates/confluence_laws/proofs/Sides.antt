-- Two inserts of one row side by side break a UNIQUE.
use Rattle.std.proofs.Common.{◌≡◌, ℕ, ◌+◌, ◌<◌, ◌≤◌, zero, suc, Bool, true, false, cond, not, ◌&&◌, ◌||◌, List, [], ◌∷◌, ◌++◌, length, map, refl, sym, ap, ap₂, ◌∙◌, subst, arith, append-nil, is_none, Option, Some, None, nat_le, count_by}
use Rattle.std.specs.List.{list_any, list_all, AllByRecursion}
use Rattle.std.proofs.lemmas.Bool.{and_parts, and_from, and_left, or_from, or_right, or_parts, eq-eqb, both_ways, false_from_ne_true, not_from_false, not_from_true, le-leb, lt-leb}
use Rattle.update_model.specs.declared.value.Value.{Value}
use Rattle.update_model.specs.Graph.{has}
use Rattle.update_model.specs.Node.{NodeData}
use Rattle.row_check.specs.declared.cmp.Cmp.TheVariants as cmp
use Rattle.row_check.specs.Comparisons.{compares}
use Rattle.row_check.specs.Meaning.{value_at}
use Rattle.table_model.specs.declared.verdict.Verdict.TheVariants as verdict
use Rattle.table_model.specs.Nodes.{holds, IsNext, IsClosed}
use Rattle.table_model.specs.Visible.{Rules, TableRow, Effects, kept_of, table_of, shown, shown_rows}
use Rattle.table_model.specs.Verdicts.{is_valid, effects, effects_of, Judged, judge_next, judged, joined, in_table, is_new_in, are_new, unique_holds, verdict_on}
use Rattle.table_model.specs.Invariants.{Claim, Unique, claim_holds, shown_in, satisfies}
use Rattle.confluence_laws.specs.Confluence.{accepts, is_closed, breaks}
use Rattle.confluence_laws.specs.Examples.{Item, numbered, last_of, after, chain}
use Rattle.table_model.proofs.Alike.{weight, one_if, count-weight}
use Rattle.table_model.proofs.Order.{any_weaker, ancestors_held, unaffected}
use Rattle.table_model.proofs.Founded.{all_weaker, IsWellFounded, founded_closed}
use Rattle.confluence_laws.proofs.Plain.{is_plain, plain_shown}
use Rattle.schema.proofs.Soundness.{IsSound}
use Rattle.confluence_laws.proofs.Accepted.{IsDeclared, accepted_stands}
use Rattle.confluence_laws.proofs.Plans.{row_of, rows_of, Passes, AllPass, apart, ids_below, last_held, chain_closed, all_visible, items_new, passes_valid, chain_effects}

pub test_from_closed : (nodes : List NodeData) → IsClosed nodes → is_closed nodes ≡ true
test_from_closed [] c = refl
test_from_closed (n ∷ nodes) c = let next : IsNext nodes n = c.0 in and_from _ _ (and_from _ _ (not_from_false _ next.new) next.preds) (test_from_closed nodes c.1)

-- what is accepted holds on both sides
pub all_accepted : (rules : Rules) → IsSound rules.tables → (nodes : List NodeData) → IsClosed nodes → (earlier : List Claim) (i : Claim)
    → AllByRecursion (λ i. IsDeclared rules i × (accepts rules i ≡ true)) earlier → claim_holds rules (shown_in rules nodes) i ≡ true → satisfies rules nodes (earlier ++ i ∷ []) ≡ true
unfolding verdict_on effects judge_next judged
all_accepted rules sound nodes c [] i a h = and_from _ _ h refl
all_accepted rules sound nodes c (e ∷ earlier) i a h = and_from _ _ (accepted_stands rules sound nodes c e a.0.0 a.0.1) (all_accepted rules sound nodes c earlier i a.1 h)

pub none_counted : (p : TableRow → Bool) (rows : List TableRow) → list_any p rows ≡ false → weight (λ x. one_if (p x)) rows ≡ 0
none_counted p [] h = refl
none_counted p (r ∷ rows) h =
    let parts = or_parts (p r) (list_any p rows) h in
    (λ i. one_if (parts.0 i) + weight (λ x. one_if (p x)) rows) ∙ ap (λ n. 0 + n) (none_counted p rows parts.1)

any_shown_table : (rules : Rules) (g : Effects) (t : ℕ) (rows : List TableRow) → list_any (in_table t) (map (shown rules g) rows) ≡ list_any (in_table t) rows
any_shown_table rules g t [] = refl
any_shown_table rules g t (r ∷ rows) = ap (λ b. in_table t r || b) (any_shown_table rules g t rows)

small : (b : Bool) → one_if b ≤ 1
small true = omega arith
small false = omega arith

-- a row that is alone in its table is equal to no other
alone : (t c : ℕ) (a : TableRow) (rest : List TableRow) → list_any (in_table t) rest ≡ false → unique_holds (a ∷ rest) t c ≡ true
alone t c a rest h = go (a ∷ rest) where
  few : (v : Value) → nat_le (count_by (λ b. in_table t b && compares cmp.Eq v (value_at b.values c)) (a ∷ rest)) 1 ≡ true
  few v =
      let p : TableRow → Bool = λ b. in_table t b && compares cmp.Eq v (value_at b.values c) in
      let none : list_any p rest ≡ false = false_from_ne_true _ (λ e. both_ways _ h (any_weaker p (in_table t) (λ x k. (and_parts (in_table t x) _ k).0) rest e)) in
      let bound = small (p a) in
      let zero_rest = none_counted p rest none in
      ap (λ n. nat_le n 1) (sym (count-weight p (a ∷ rest)) ∙ ap (λ n. one_if (p a) + n) zero_rest)
      ∙ le-leb (one_if (p a) + 0) 1 (omega arith)

  go : (rows : List TableRow) → list_all (λ x. not (in_table t x) || nat_le (count_by (λ b. in_table t b && compares cmp.Eq (value_at x.values c) (value_at b.values c)) (a ∷ rest)) 1) rows ≡ true
  go [] = refl
  go (r ∷ rows) = and_from _ _ (or_right (not (in_table t r)) _ (few (value_at r.values c))) (go rows)

-- two rows of a table that are equal break it
pair_breaks : (t c : ℕ) (a b : TableRow) (rest : List TableRow) → a.table ≡ t → b.table ≡ t → compares cmp.Eq (value_at a.values c) (value_at a.values c) ≡ true → compares cmp.Eq (value_at a.values c) (value_at b.values c) ≡ true
    → unique_holds (a ∷ b ∷ rest) t c ≡ false
pair_breaks t c a b rest ta tb own other =
    let p : TableRow → Bool = λ x. in_table t x && compares cmp.Eq (value_at a.values c) (value_at x.values c) in
    let pa : p a ≡ true = and_from _ _ (eq-eqb a.table t ta) own in
    let pb : p b ≡ true = and_from _ _ (eq-eqb b.table t tb) other in
    let count : count_by p (a ∷ b ∷ rest) ≡ 1 + (1 + weight (λ x. one_if (p x)) rest) =
    sym (count-weight p (a ∷ b ∷ rest)) ∙ (λ i. one_if (pa i) + (one_if (pb i) + weight (λ x. one_if (p x)) rest)) in
    let much : nat_le (count_by p (a ∷ b ∷ rest)) 1 ≡ false = ap (λ n. nat_le n 1) count ∙ lt-leb (1 + (1 + weight (λ x. one_if (p x)) rest)) 1 (omega arith) in
    and_left _ _ (or_from _ _ (not_from_true _ (eq-eqb a.table t ta)) much)

-- where a table keeps no least row, each value is new
pub none_new : (o : Option ℕ) (rows : List TableRow) (row : TableRow) → is_none o ≡ true → is_new_in o rows row ≡ true
none_new None rows row h = refl
none_new (Some column) rows row h = absurd cc

-- an update after a chain does what it says
module _ (rules : Rules) (sound : IsSound rules.tables) (items : List Item) (all : AllPass rules items) (x : Item) where
  pub one_more : (id : ℕ) → length items < id → Passes rules id x (rows_of items)
      → effects (judged rules (after (length items) id x ∷ chain items)) ≡ record { inserted = row_of id x ∷ rows_of items; deleted = [] }
  unfolding verdict_on effects judge_next judged
  one_more id new p =
      let did = chain_effects rules sound items all in
      let valid = passes_valid rules sound items id x new did (items_new rules items all) p in
      λ i. cond (is_valid (valid i)) (joined (effects_of (after (length items) id x)) (did i)) (did i)

  pub one_closed : (id : ℕ) → length items < id → IsClosed (after (length items) id x ∷ chain items)
  one_closed id new = (record { new = ids_below items id new; preds = last_held items }, chain_closed items)

  -- all values are new
  pub one_new : (id : ℕ) → Passes rules id x (rows_of items) → are_new rules [] (row_of id x ∷ rows_of items) ≡ true
  one_new id p =
      and_from _ _ (subst (λ (l : List TableRow). is_new_in (kept_of rules x.table) l (row_of id x) ≡ true) (sym (append-nil (rows_of items))) p.fresh) (items_new rules items all)

  pub pair_new : is_none (kept_of rules x.table) ≡ true → Passes rules (suc (length items)) x (rows_of items)
      → are_new rules [] (row_of (suc (suc (length items))) x ∷ row_of (suc (length items)) x ∷ rows_of items) ≡ true
  pair_new free p = and_from _ _ (none_new (kept_of rules x.table) ((row_of (suc (length items)) x ∷ rows_of items) ++ []) (row_of (suc (suc (length items))) x) free) (one_new (suc (length items)) p)

  not_named : (n : ℕ) → has (last_of n) (numbered (suc n)) ≡ false
  not_named zero = refl
  not_named (suc n) = or_from _ _ (apart (suc (suc n)) (suc n) (λ e. omega arith)) refl

  -- two of them side by side
  unfoldable pub pair : List NodeData
  pair = after (length items) (suc (suc (length items))) x ∷ after (length items) (suc (length items)) x ∷ chain items

  pub pair_closed : IsClosed pair
  unfolding pair
  pair_closed = (
    record {
      new = or_from _ _ (apart (suc (suc (length items))) (suc (length items)) (λ e. omega arith)) (ids_below items (suc (suc (length items))) (omega arith));
      preds = all_weaker (holds (chain items)) (holds (after (length items) (suc (length items)) x ∷ chain items)) (λ p h. or_right _ _ h) (last_of (length items)) (last_held items);
    },
    one_closed (suc (length items)) (omega arith),
  )

  pub pair_effects : Passes rules (suc (length items)) x (rows_of items) → Passes rules (suc (suc (length items))) x (rows_of items)
      → effects (judged rules pair) ≡ record { inserted = row_of (suc (suc (length items))) x ∷ row_of (suc (length items)) x ∷ rows_of items; deleted = [] }
  unfolding pair verdict_on effects judge_next judged
  pair_effects p q =
      let js = judged rules (chain items) in
      let left = after (length items) (suc (length items)) x in
      let right = after (length items) (suc (suc (length items))) x in
      let absent : list_any (λ j. j.is_ancestor (numbered (suc (length items)))) js ≡ false =
      false_from_ne_true _ (λ e. both_ways _ (ids_below items (suc (length items)) (omega arith)) (ancestors_held rules (chain items) (chain_closed items) (numbered (suc (length items))) e)) in
      let apart : judge_next rules (judge_next rules js left ∷ js) right ≡ judge_next rules js right =
      unaffected rules (judge_next rules js left) js right (not_named (length items)) absent in
      let valid : (judge_next rules (judge_next rules js left ∷ js) right).verdict ≡ verdict.Valid =
      ap (λ (j : Judged). j.verdict) apart ∙ passes_valid rules sound items (suc (suc (length items))) x (omega arith) (chain_effects rules sound items all) (items_new rules items all) q in
      let before = one_more (suc (length items)) (omega arith) p in
      λ i. cond (is_valid (valid i)) (joined (effects_of right) (before i)) (before i)

  module _ (open_table : is_none (kept_of rules x.table) ≡ true) (t c : ℕ) (v : Value) (in_t : x.table ≡ t) (plain : is_plain (table_of rules x.table).columns c ≡ true)
      (value : (id : ℕ) → value_at (row_of id x).values c ≡ v) (self_equal : compares cmp.Eq v v ≡ true) (others : list_any (in_table t) (rows_of items) ≡ false) where
    side_holds : (id : ℕ) → length items < id → Passes rules id x (rows_of items) → claim_holds rules (shown_in rules (after (length items) id x ∷ chain items)) (Unique t c) ≡ true
    side_holds id new p =
        let g : Effects = record { inserted = row_of id x ∷ rows_of items; deleted = [] } in
        let did = one_more id new p in
        let founded : IsWellFounded rules g = subst (IsWellFounded rules) did (founded_closed rules (after (length items) id x ∷ chain items) (one_closed id new)) in
        ap (λ (e : Effects). unique_holds (shown_rows rules e) t c) did
        ∙ ap (λ (l : List TableRow). unique_holds (map (shown rules g) l) t c) (all_visible rules sound g founded refl (one_new id p))
        ∙ alone t c (shown rules g (row_of id x)) (map (shown rules g) (rows_of items)) (any_shown_table rules g t (rows_of items) ∙ others)

    pair_fails : Passes rules (suc (length items)) x (rows_of items) → Passes rules (suc (suc (length items))) x (rows_of items) → claim_holds rules (shown_in rules pair) (Unique t c) ≡ false
    pair_fails p q =
        let a = row_of (suc (suc (length items))) x in
        let b = row_of (suc (length items)) x in
        let g : Effects = record { inserted = a ∷ b ∷ rows_of items; deleted = [] } in
        let did = pair_effects p q in
        let founded : IsWellFounded rules g = subst (IsWellFounded rules) did (founded_closed rules pair pair_closed) in
        let shows : (id : ℕ) → value_at (shown rules g (row_of id x)).values c ≡ v = λ id. plain_shown rules g (table_of rules x.table).columns (row_of id x).values c plain ∙ value id in
        ap (λ (e : Effects). unique_holds (shown_rows rules e) t c) did
        ∙ ap (λ (l : List TableRow). unique_holds (map (shown rules g) l) t c) (all_visible rules sound g founded refl (pair_new open_table p))
        ∙ pair_breaks t c (shown rules g a) (shown rules g b) (map (shown rules g) (rows_of items)) in_t in_t
        (ap₂ (compares cmp.Eq) (shows (suc (suc (length items)))) (shows (suc (suc (length items)))) ∙ self_equal)
        (ap₂ (compares cmp.Eq) (shows (suc (suc (length items)))) (shows (suc (length items))) ∙ self_equal)

    -- the example of a UNIQUE confirms
    pub unique_confirmed : (earlier : List Claim) → AllByRecursion (λ i. IsDeclared rules i × (accepts rules i ≡ true)) earlier
        → Passes rules (suc (length items)) x (rows_of items) → Passes rules (suc (suc (length items))) x (rows_of items)
        → breaks rules earlier (Unique t c) (chain items) (after (length items) (suc (length items)) x ∷ []) (after (length items) (suc (suc (length items))) x ∷ []) ≡ true
    unfolding pair
    unique_confirmed earlier ok p q =
        let a = one_closed (suc (length items)) (omega arith) in
        let b = one_closed (suc (suc (length items))) (omega arith) in
        and_from _ _ (and_from _ _ (and_from _ _ (and_from _ _ (and_from _ _
        (test_from_closed (after (length items) (suc (length items)) x ∷ chain items) a) (test_from_closed (after (length items) (suc (suc (length items))) x ∷ chain items) b)) (test_from_closed pair pair_closed))
        (all_accepted rules sound (after (length items) (suc (length items)) x ∷ chain items) a earlier (Unique t c) ok (side_holds (suc (length items)) (omega arith) p)))
        (all_accepted rules sound (after (length items) (suc (suc (length items))) x ∷ chain items) b earlier (Unique t c) ok (side_holds (suc (suc (length items))) (omega arith) q)))
        (not_from_false _ (pair_fails p q))
