-- What the first updates left.
use Rattle.std.proofs.Common.{◌≡◌, ℕ, zero, suc, ◌+◌, ◌*◌, ◌<◌, ◌≤◌, ◌==◌, ◌⊎◌, Bool, true, false, cond, not, List, [], ◌∷◌, ◌++◌, length, map, reverse, take, refl, sym, ap, ◌∙◌, append_assoc, length-append, nat_lt, inl, inr, arith}
use Rattle.std.specs.Prelude.{count_by}
use Rattle.std.specs.List.{list_all}
use Rattle.std.proofs.lemmas.Bool.{and_parts, and_from, eqb-true, eq-eqb}
use Rattle.std.proofs.lemmas.Bool.Decides.{nat_tests}
use Rattle.std.proofs.lemmas.List.{append-nil}
use Rattle.std.proofs.lemmas.List.Sums.{sum_by-cons}
use Rattle.update_model.specs.declared.row_name.RowName.{RowName}
use Rattle.update_model.specs.Node.{NodeData}
use Rattle.table_model.specs.declared.verdict.Verdict.{Verdict}
use Rattle.table_model.specs.declared.verdict.Verdict.TheVariants as verdict
use Rattle.table_model.specs.Nodes.{IsClosed}
use Rattle.table_model.specs.Verdicts.{effects_of, judge_next, judged}
use Rattle.table_model.specs.Visible.{Rules, TableRow}
use Rattle.table_model.proofs.Founded.{all-append, all_weaker}
use Rattle.tuple_state.specs.declared.dropped.Dropped.{Dropped}
use Rattle.tuple_state.specs.declared.inserted.Inserted.{Inserted}
use Rattle.tuple_state.specs.declared.voided.Voided.{Voided}
use Rattle.tuple_state.specs.State.{State, after, dropped_at, empty_state, inserted_at, state_of}
use Rattle.tuple_state.proofs.Effects.{count_is}

-- ---- counts of what comes first

abbrev weight : Bool → ℕ
weight b = cond b 1 0

unweighed : (b : Bool) → not b ≡ true → weight b ≡ 0
unweighed true e = absurd (cc)
unweighed false e = refl

at_most_one : (b : Bool) → weight b ≤ 1
at_most_one true = omega arith
at_most_one false = omega arith

module _ {X : Type 0} (t : X → Bool) where
  pub count_append : (xs ys : List X) → count_by t (xs ++ ys) ≡ count_by t xs + count_by t ys
  count_append [] ys = omega arith
  count_append (x ∷ xs) ys =
      let a = sum_by-cons (λ y. cond (t y) 1 0) x (xs ++ ys) in
      let b = sum_by-cons (λ y. cond (t y) 1 0) x xs in
      let rest = count_append xs ys in
      omega (arith, a, b, rest)

  all_counted : (xs : List X) → list_all t xs ≡ true → count_by t xs ≡ length xs
  all_counted [] h = refl
  all_counted (x ∷ xs) h =
      let parts = and_parts (t x) _ h in
      let rest = all_counted xs parts.1 in
      let one = ap weight parts.0 in
      let a = sum_by-cons (λ y. cond (t y) 1 0) x xs in
      omega (arith, a, rest, one)

  none_counted : (xs : List X) → list_all (λ x. not (t x)) xs ≡ true → count_by t xs ≡ 0
  none_counted [] h = refl
  none_counted (x ∷ xs) h =
      let parts = and_parts (not (t x)) _ h in
      let rest = none_counted xs parts.1 in
      let one = unweighed (t x) parts.0 in
      let a = sum_by-cons (λ y. cond (t y) 1 0) x xs in
      omega (arith, a, rest, one)

  count_most : (xs : List X) → count_by t xs ≤ length xs
  count_most [] = omega arith
  count_most (x ∷ xs) =
      let rest = count_most xs in
      let o = at_most_one (t x) in
      let a = sum_by-cons (λ y. cond (t y) 1 0) x xs in
      omega (arith, a, rest, o)

-- what an update inserts has its position
rows_at : (position : ℕ) (rows : List TableRow) → list_all (λ (it : Inserted). it.position == position) (map (inserted_at position) rows) ≡ true
rows_at position [] = refl
rows_at position (row ∷ rows) = and_from _ _ (eq-eqb position position refl) (rows_at position rows)

names_at : (position : ℕ) (names : List RowName) → list_all (λ (it : Dropped). it.position == position) (map (dropped_at position) names) ≡ true
names_at position [] = refl
names_at position (name ∷ names) = and_from _ _ (eq-eqb position position refl) (names_at position names)

module _ {X : Type 0} (position : X → ℕ) where
  pub sooner : (count len : ℕ) → count ≤ len → (xs : List X) → list_all (λ x. nat_lt (position x) count) xs ≡ true → list_all (λ x. nat_lt (position x) len) xs ≡ true
  sooner count len le xs h = all_weaker (λ x. nat_lt (position x) count) (λ x. nat_lt (position x) len) (λ x e. grind (arith, nat_tests)) xs h

  just_before : (count len : ℕ) → count < len → (xs : List X) → list_all (λ x. position x == count) xs ≡ true → list_all (λ x. nat_lt (position x) len) xs ≡ true
  just_before count len lt xs h = all_weaker (λ x. position x == count) (λ x. nat_lt (position x) len) (λ x e. let same = eqb-true (position x) count e in grind (arith, nat_tests)) xs h

  too_late : (count len : ℕ) → len ≤ count → (xs : List X) → list_all (λ x. position x == count) xs ≡ true → list_all (λ x. not (nat_lt (position x) len)) xs ≡ true
  too_late count len le xs h = all_weaker (λ x. position x == count) (λ x. not (nat_lt (position x) len)) (λ x e. let same = eqb-true (position x) count e in grind (arith, nat_tests)) xs h

pub dated_next : (rows : List Inserted) (news : List TableRow) (count : ℕ) → list_all (λ it. nat_lt it.position count) rows ≡ true → list_all (λ it. nat_lt it.position (count + 1)) (rows ++ map (inserted_at count) news) ≡ true
dated_next rows news count dated =
    all-append (λ (it : Inserted). nat_lt it.position (count + 1)) rows (map (inserted_at count) news) (sooner (λ (it : Inserted). it.position) count (count + 1) (omega arith) rows dated)
    (just_before (λ (it : Inserted). it.position) count (count + 1) (omega arith) (map (inserted_at count) news) (rows_at count news))

nat_cases : (a b : ℕ) → (a ≤ b) ⊎ (b < a)
nat_cases zero b = inl (omega arith)
nat_cases (suc a) zero = inr (omega arith)
nat_cases (suc a) (suc b) = elim (nat_cases a b) [ inl h ↦ inl (omega (arith, h)) | inr h ↦ inr (omega (arith, h)) ]

pub bounded_next : (rows : List Inserted) (news : List TableRow) (count len : ℕ) → list_all (λ it. nat_lt it.position count) rows ≡ true → ((n : ℕ) → count_by (λ it. nat_lt it.position n) rows ≤ 256 * n)
    → length (map (inserted_at count) news) ≤ 256 → count_by (λ it. nat_lt it.position len) (rows ++ map (inserted_at count) news) ≤ 256 * len
bounded_next rows news count len dated bounded few =
    let t : Inserted → Bool = λ it. nat_lt it.position len in
    let split = count_append t rows (map (inserted_at count) news) in
    elim (nat_cases len count) [
      | inl le ↦
          let none = none_counted t (map (inserted_at count) news) (too_late (λ (it : Inserted). it.position) count len le (map (inserted_at count) news) (rows_at count news)) in
          let old = bounded len in omega (arith, split, none, old)
      | inr lt ↦
          let all = all_counted (λ (it : Inserted). nat_lt it.position count) rows dated in
          let old = bounded count in
          let a = count_most t rows in
          let b = count_most t (map (inserted_at count) news) in
          omega (arith, split, all, old, a, b, few, lt)
    ]

pub few_rows : (rows : List Inserted) (count : ℕ) → list_all (λ it. nat_lt it.position count) rows ≡ true → ((n : ℕ) → count_by (λ it. nat_lt it.position n) rows ≤ 256 * n) → length rows ≤ 256 * count
few_rows rows count dated bounded =
    let all = all_counted (λ (it : Inserted). nat_lt it.position count) rows dated in let most = bounded count in omega (arith, all, most)

-- ---- what the first updates left, and the later ones added

pub record Parted {X : Type 0} (position : X → ℕ) (len : ℕ) (whole front : List X) : Type 0 where
  pub later : List X
  pub is : whole ≡ front ++ later
  pub before : list_all (λ x. nat_lt (position x) len) front ≡ true
  pub beyond : list_all (λ x. not (nat_lt (position x) len)) later ≡ true

pub record More {X : Type 0} (position : X → ℕ) (count : ℕ) (old new : List X) : Type 0 where
  pub more : List X
  pub is : new ≡ old ++ more
  pub here : list_all (λ x. position x == count) more ≡ true

nothing_more : {X : Type 0} (position : X → ℕ) (count : ℕ) (xs : List X) → More position count xs xs
nothing_more position count xs = record { more = []; is = sym (append-nil xs); here = refl }

module _ {X : Type 0} (position : X → ℕ) (list : State → List X) (rules : Rules) (first : list (empty_state rules.tables) ≡ [])
    (grows : (state : State) (node : NodeData) (v : Verdict) → More position state.count (list state) (list (after state node v))) where
  below : (nodes : List NodeData) → list_all (λ x. nat_lt (position x) (length nodes)) (list (state_of rules nodes)) ≡ true
  unfolding state_of
  below [] = ap (list_all (λ x. nat_lt (position x) 0)) first
  below (node ∷ older) =
      let state = state_of rules older in
      let g = grows state node (judge_next rules (judged rules older) node).verdict in
      let count = count_is rules older in
      let t : X → Bool = λ x. nat_lt (position x) (length (node ∷ older)) in
      ap (list_all t) g.is
      ∙ all-append t (list state) g.more (sooner position (length older) (length (node ∷ older)) (omega arith) (list state) (below older))
      (just_before position state.count (length (node ∷ older)) (omega (arith, count)) g.more g.here)

  pub parted : (newer older : List NodeData) → Parted position (length older) (list (state_of rules (newer ++ older))) (list (state_of rules older))
  unfolding state_of
  parted [] older = record { later = []; is = sym (append-nil (list (state_of rules older))); before = below older; beyond = refl }
  parted (node ∷ newer) older =
      let rest = parted newer older in
      let state = state_of rules (newer ++ older) in
      let g = grows state node (judge_next rules (judged rules (newer ++ older)) node).verdict in
      let count = count_is rules (newer ++ older) in
      let len = length-append newer older in
      record {
        later = rest.later ++ g.more;
        is = g.is ∙ ap (λ l. l ++ g.more) rest.is ∙ append_assoc (list (state_of rules older)) rest.later g.more;
        before = rest.before;
        beyond = all-append (λ x. not (nat_lt (position x) (length older))) rest.later g.more rest.beyond (too_late position state.count (length older) (omega (arith, count, len)) g.more g.here);
      }

rows_grow : (state : State) (node : NodeData) (v : Verdict) → More (λ (it : Inserted). it.position) state.count state.inserted (after state node v).inserted
rows_grow state node verdict.Valid = record { more = map (inserted_at state.count) (reverse (effects_of node).inserted); is = refl; here = rows_at state.count (reverse (effects_of node).inserted) }
rows_grow state node (verdict.Void reason operation) = nothing_more (λ (it : Inserted). it.position) state.count state.inserted

names_grow : (state : State) (node : NodeData) (v : Verdict) → More (λ (it : Dropped). it.position) state.count state.dropped (after state node v).dropped
names_grow state node verdict.Valid = record { more = map (dropped_at state.count) (reverse (effects_of node).deleted); is = refl; here = names_at state.count (reverse (effects_of node).deleted) }
names_grow state node (verdict.Void reason operation) = nothing_more (λ (it : Dropped). it.position) state.count state.dropped

voids_grow : (state : State) (node : NodeData) (v : Verdict) → More (λ (it : Voided). it.position) state.count state.voids (after state node v).voids
voids_grow state node verdict.Valid = nothing_more (λ (it : Voided). it.position) state.count state.voids
voids_grow state node (verdict.Void reason operation) = record { more = record { position = state.count; line = record { id = node.id; reason = reason; operation = operation } } ∷ []; is = refl; here = and_from _ _ (eq-eqb state.count state.count refl) refl }

pub rows_parted : (rules : Rules) (newer older : List NodeData) → Parted (λ (it : Inserted). it.position) (length older) (state_of rules (newer ++ older)).inserted (state_of rules older).inserted
rows_parted rules newer older = parted (λ (it : Inserted). it.position) (λ (s : State). s.inserted) rules refl rows_grow newer older

pub names_parted : (rules : Rules) (newer older : List NodeData) → Parted (λ (it : Dropped). it.position) (length older) (state_of rules (newer ++ older)).dropped (state_of rules older).dropped
names_parted rules newer older = parted (λ (it : Dropped). it.position) (λ (s : State). s.dropped) rules refl names_grow newer older

pub voids_parted : (rules : Rules) (newer older : List NodeData) → Parted (λ (it : Voided). it.position) (length older) (state_of rules (newer ++ older)).voids (state_of rules older).voids
voids_parted rules newer older = parted (λ (it : Voided). it.position) (λ (s : State). s.voids) rules refl voids_grow newer older

-- ---- taking the front

pub take_front : {X : Type 0} (xs ys : List X) → take (length xs) (xs ++ ys) ≡ xs
take_front [] ys = refl
take_front (x ∷ xs) ys = ap (λ l. x ∷ l) (take_front xs ys)

pub counted : {X : Type 0} (position : X → ℕ) (len : ℕ) (whole front : List X) → Parted position len whole front → count_by (λ x. nat_lt (position x) len) whole ≡ length front
counted position len whole front p =
    let split = ap (count_by (λ x. nat_lt (position x) len)) p.is ∙ count_append (λ x. nat_lt (position x) len) front p.later in
    let a = all_counted (λ x. nat_lt (position x) len) front p.before in
    let b = none_counted (λ x. nat_lt (position x) len) p.later p.beyond in
    omega (arith, split, a, b)

pub closed_back : (newer older : List NodeData) → IsClosed (newer ++ older) → IsClosed older
closed_back [] older c = c
closed_back (node ∷ newer) older c = closed_back newer older c.1
