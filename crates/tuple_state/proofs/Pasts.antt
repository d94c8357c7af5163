-- What the ancestors of an update did: they are a closed list of their own.
use Rattle.std.proofs.Common.{◌≡◌, ℕ, Bool, true, false, cond, ◌&&◌, ◌||◌, List, [], ◌∷◌, ◌++◌, length, map, reverse, refl, sym, ap, ◌∙◌, subst, inl, inr, append_assoc}
use Rattle.std.specs.Prelude.{filter}
use Rattle.std.specs.List.{list_any, list_all, AllByRecursion}
use Rattle.std.proofs.lemmas.Bool.{and_parts, or_cases, or_right, or_left, or_parts, and_from, both_ways, false_from_ne_true}
use Rattle.std.proofs.lemmas.List.{append-nil}
use Rattle.std.proofs.lemmas.List.Elements.{filter-append}
use Rattle.update_model.specs.declared.row_name.RowName.{RowName}
use Rattle.update_model.specs.declared.update_id.UpdateId.{UpdateId}
use Rattle.update_model.specs.Entry.{same_id}
use Rattle.update_model.specs.Graph.{has}
use Rattle.update_model.specs.Node.{NodeData}
use Rattle.update_model.proofs.Ids.{id_from_same, same_id-refl}
use Rattle.table_model.specs.declared.verdict.Verdict.{Verdict}
use Rattle.table_model.specs.declared.verdict.Verdict.TheVariants as verdict
use Rattle.table_model.specs.Nodes.{holds, IsClosed}
use Rattle.table_model.specs.Verdicts.{Judged, ancestor_of, effects, effects_of, is_valid, joined, judge_next, judged, verdict_on}
use Rattle.table_model.specs.Visible.{Effects, Rules, TableRow}
use Rattle.table_model.proofs.Order.{any_weaker, ancestors_held, at_id}
use Rattle.schema.specs.Sound.{AreTables}
use Rattle.schema.proofs.Soundness.{sound_tables}
use Rattle.table_model.proofs.Founded.{Founded, founded_closed}
use Rattle.table_model.proofs.Resting.{resting}
use Rattle.table_model.proofs.Settled.{are_resting}
use Rattle.table_model.proofs.Standing.{any_each, each-map}
use Rattle.tuple_state.specs.declared.inserted.Inserted.{Inserted}
use Rattle.tuple_state.specs.declared.dropped.Dropped.{Dropped}
use Rattle.tuple_state.specs.Kept.{are_layered}
use Rattle.tuple_state.specs.Past.{IsPastOf, done_then}
use Rattle.tuple_state.specs.State.{after, dropped_at, inserted_at, row_of, state_of}
use Rattle.tuple_state.proofs.Effects.{newest_rows, newest_names, count_is}
use Rattle.tuple_state.proofs.Layers.{layered_founded}

-- a test passes somewhere still where only what fails it is left out
any_filtered : {X : Type 0} (p k : X → Bool) → ((x : X) → p x ≡ true → k x ≡ true) → (xs : List X) → list_any p (filter k xs) ≡ list_any p xs
any_filtered p k h [] = refl
any_filtered p k h (x ∷ xs) =
    let rest = any_filtered p k h xs in
    let step : (b : Bool) → k x ≡ b → list_any p (cond b (x ∷ filter k xs) (filter k xs)) ≡ (p x || list_any p xs) =
    elim [
      | true ↦ λ e. ap (λ b. p x || b) rest
      | false ↦ λ e. let none : p x ≡ false = false_from_ne_true (p x) (λ y. both_ways _ e (h x y)) in rest ∙ ap (λ b. b || list_any p xs) (sym none)
    ] in
    step (k x) refl

filter_filtered : {X : Type 0} (p k : X → Bool) → ((x : X) → p x ≡ true → k x ≡ true) → (xs : List X) → filter p (filter k xs) ≡ filter p xs
filter_filtered p k h [] = refl
filter_filtered p k h (x ∷ xs) =
    let rest = filter_filtered p k h xs in
    let step : (b : Bool) → k x ≡ b → filter p (cond b (x ∷ filter k xs) (filter k xs)) ≡ cond (p x) (x ∷ filter p xs) (filter p xs) =
    elim [
      | true ↦ λ e. ap (λ l. cond (p x) (x ∷ l) l) rest
      | false ↦ λ e. let none : p x ≡ false = false_from_ne_true (p x) (λ y. both_ways _ e (h x y)) in rest ∙ ap (λ b. cond b (x ∷ filter p xs) (filter p xs)) (sym none)
    ] in
    step (k x) refl

-- what passes nowhere passes nowhere among fewer
pub fewer_any : {X : Type 0} (p k : X → Bool) (xs : List X) → list_any p xs ≡ false → list_any p (filter k xs) ≡ false
fewer_any p k [] h = refl
fewer_any p k (x ∷ xs) h =
    let parts = or_parts (p x) _ h in
    let rest = fewer_any p k xs parts.1 in
    elim (k x) as (λ b. list_any p (cond b (x ∷ filter k xs) (filter k xs)) ≡ false) [ true ↦ ap (λ b. b || list_any p (filter k xs)) parts.0 ∙ rest | false ↦ rest ]

-- The ids that are kept have their predecessors among them.
abbrev pub KeepsPreds : (UpdateId → Bool) → List Judged → Type 0
KeepsPreds keep js = AllByRecursion (λ j. keep j.node.id ≡ true → (id : UpdateId) → has j.node.preds id ≡ true → keep id ≡ true) js

-- each of these has the ancestors of its ancestors
abbrev Transitive : List Judged → Type 0
Transitive js = AllByRecursion (λ j. AllByRecursion (λ k. j.is_ancestor k.node.id ≡ true → (id : UpdateId) → has k.node.preds id ≡ true → j.is_ancestor id ≡ true) js) js

abbrev Reaches : (UpdateId → Bool) → List Judged → Type 0
Reaches keep js = AllByRecursion (λ j. keep j.node.id ≡ true → (id : UpdateId) → j.is_ancestor id ≡ true → keep id ≡ true) js

-- where each of these passes and there is a reason for one, the reason holds of it
any_two : {X : Type 0} (P : X → Type 0) (p q : X → Bool) → ((x : X) → P x → p x ≡ true → q x ≡ true) → (xs : List X) → AllByRecursion P xs → list_any p xs ≡ true → list_any q xs ≡ true
any_two P p q h [] s e = e
any_two P p q h (x ∷ xs) s e = elim (or_cases (p x) _ e) [ inl here ↦ or_left _ _ (h x s.0 here) | inr there ↦ or_right (q x) _ (any_two P p q h xs s.1 there) ]

each_later : (R : Judged → Judged → Type 0) (x : Judged) (all js : List Judged) → AllByRecursion (λ j. R j x) js → AllByRecursion (λ j. AllByRecursion (λ k. R j k) all) js → AllByRecursion (λ j. AllByRecursion (λ k. R j k) (x ∷ all)) js
each_later R x all [] a b = tt
each_later R x all (j ∷ js) a b = ((a.0, b.0), each_later R x all js a.1 b.1)

late : (node : NodeData) (js : List Judged) → (list_any (λ j. j.is_ancestor node.id) js ≡ true → ⊥) → AllByRecursion (λ j. j.is_ancestor node.id ≡ true → (id : UpdateId) → has node.preds id ≡ true → j.is_ancestor id ≡ true) js
late node [] none = tt
late node (j ∷ js) none = ((λ h id named. absurd (none (or_left _ _ h))), late node js (λ h. none (or_right (j.is_ancestor node.id) _ h)))

module _ (rules : Rules) where
  -- no later node is an ancestor
  not_own : (node : NodeData) (older : List NodeData) → IsClosed (node ∷ older) → ancestor_of (judged rules older) node node.id ≡ true → ⊥
  not_own node older c h =
      elim (or_cases (has node.preds node.id) _ h) [
        | inl direct ↦ both_ways _ c.0.new (at_id (holds older) node.preds node.id c.0.preds direct)
        | inr far ↦ both_ways _ c.0.new (ancestors_held rules older c.1 node.id (any_weaker _ (λ j. j.is_ancestor node.id) (λ j g. (and_parts _ _ g).1) (judged rules older) far))
      ]

  -- what a member of the list names, whose id is an ancestor's, is an ancestor
  through : (node : NodeData) (js all : List Judged) → ((p : Judged → Bool) → list_any p js ≡ true → list_any p all ≡ true)
      → AllByRecursion (λ j. AllByRecursion (λ k. j.is_ancestor k.node.id ≡ true → (id : UpdateId) → has k.node.preds id ≡ true → j.is_ancestor id ≡ true) js) all
      → AllByRecursion (λ k. (id : UpdateId) → has k.node.preds id ≡ true → k.is_ancestor id ≡ true) js
      → AllByRecursion (λ k. ancestor_of all node k.node.id ≡ true → (id : UpdateId) → has k.node.preds id ≡ true → ancestor_of all node id ≡ true) js
  through node [] all more t own = tt
  through node (k ∷ js) all more t own = (
    (λ h id named. or_right (has node.preds id) _ (elim (or_cases (has node.preds k.node.id) _ h) [
      | inl direct ↦ more (λ j. has node.preds j.node.id && j.is_ancestor id) (or_left _ _ (and_from _ _ direct (own.0 id named)))
      | inr far ↦ any_two (λ j. AllByRecursion (λ k. j.is_ancestor k.node.id ≡ true → (id : UpdateId) → has k.node.preds id ≡ true → j.is_ancestor id ≡ true) (k ∷ js))
          (λ j. has node.preds j.node.id && j.is_ancestor k.node.id) (λ j. has node.preds j.node.id && j.is_ancestor id)
          (λ j s e. let both = and_parts (has node.preds j.node.id) _ e in and_from _ _ both.0 (s.0 both.1 id named)) all t far
    ])),
    through node js all (λ p e. more p (or_right (p k) _ e)) (each-map _ _ (λ j s. s.1) all t) own.1,
  )

  names_own : (nodes : List NodeData) → AllByRecursion (λ k. (id : UpdateId) → has k.node.preds id ≡ true → k.is_ancestor id ≡ true) (judged rules nodes)
  unfolding judge_next judged
  names_own [] = tt
  names_own (node ∷ older) = ((λ id named. or_left _ _ named), names_own older)

  transitive : (nodes : List NodeData) → IsClosed nodes → Transitive (judged rules nodes)
  unfolding judge_next judged
  transitive [] c = tt
  transitive (node ∷ older) c =
      let rest = transitive older c.1 in
      let js = judged rules older in (
        ((λ h id named. absurd (not_own node older c h)), through node js js (λ p h. h) rest (names_own older)),
        each_later (λ j k. j.is_ancestor k.node.id ≡ true → (id : UpdateId) → has k.node.preds id ≡ true → j.is_ancestor id ≡ true) (judge_next rules js node) js js
            (late node js (λ h. both_ways _ c.0.new (ancestors_held rules older c.1 node.id h))) rest,
      )

  -- the ancestors of the next node have their predecessors among them
  pub past_keeps : (node : NodeData) (older : List NodeData) → IsClosed older → KeepsPreds (ancestor_of (judged rules older) node) (judged rules older)
  past_keeps node older c =
      let js = judged rules older in through node js js (λ p h. h) (transitive older c) (names_own older)

  module _ (keep : UpdateId → Bool) where
    abbrev kept : List Judged → List Judged
    kept js = filter (λ j. keep j.node.id) js

    reaches : (nodes : List NodeData) → KeepsPreds keep (judged rules nodes) → Reaches keep (judged rules nodes)
    unfolding judge_next judged
    reaches [] k = tt
    reaches (node ∷ older) k =
        let rest = reaches older k.1 in (
          (λ h id far. elim (or_cases (has node.preds id) _ far) [
            | inl direct ↦ k.0 h id direct
            | inr more ↦ any_each (λ j. keep j.node.id ≡ true → (id : UpdateId) → j.is_ancestor id ≡ true → keep id ≡ true) (λ j. has node.preds j.node.id && j.is_ancestor id) (keep id)
                (λ j s e. let both = and_parts (has node.preds j.node.id) _ e in s (k.0 h j.node.id both.0) id both.1) (judged rules older) rest more
          ]),
          rest,
        )

    -- the nodes that are kept
    abbrev chosen : List NodeData → List NodeData
    chosen nodes = filter (λ (n : NodeData). keep n.id) nodes

    held_kept : (older : List NodeData) (id : UpdateId) → keep id ≡ true → holds older id ≡ true → holds (chosen older) id ≡ true
    held_kept older id k h =
        any_filtered (λ (n : NodeData). same_id id n.id) (λ (n : NodeData). keep n.id) (λ n e. subst (λ (i : UpdateId). keep i ≡ true) (id_from_same id n.id e) k) older ∙ h

    all_held : (ids : List UpdateId) (older : List NodeData) → ((id : UpdateId) → has ids id ≡ true → keep id ≡ true) → list_all (holds older) ids ≡ true → list_all (holds (chosen older)) ids ≡ true
    all_held [] older k h = refl
    all_held (id ∷ ids) older k h =
        let parts = and_parts (holds older id) _ h in
        and_from _ _ (held_kept older id (k id (or_left _ _ (same_id-refl id))) parts.0) (all_held ids older (λ i e. k i (or_right (same_id i id) _ e)) parts.1)

    record Kept (nodes : List NodeData) : Type 0 where
      closed : IsClosed (chosen nodes)
      is : judged rules (chosen nodes) ≡ kept (judged rules nodes)

    -- what is kept of a closed list is closed, and is judged as before
    kept_closed : (nodes : List NodeData) → IsClosed nodes → KeepsPreds keep (judged rules nodes) → Kept nodes
    unfolding judge_next judged
    kept_closed [] c k = record { closed = tt; is = refl }
    kept_closed (node ∷ older) c k =
        let rest = kept_closed older c.1 k.1 in
        let js = judged rules older in
        let far = reaches (node ∷ older) k in
        let step : (b : Bool) → keep node.id ≡ b → (closed : IsClosed (cond b (node ∷ chosen older) (chosen older))) × (judged rules (cond b (node ∷ chosen older) (chosen older)) ≡ cond b (judge_next rules js node ∷ kept js) (kept js)) =
        elim [
          | true ↦ λ e.
              let names : (id : UpdateId) → has node.preds id ≡ true → keep id ≡ true = k.0 e in
              let same : (id : UpdateId) → ancestor_of (kept js) node id ≡ ancestor_of js node id =
              λ id. ap (λ b. has node.preds id || b) (any_filtered (λ j. has node.preds j.node.id && j.is_ancestor id) (λ j. keep j.node.id) (λ j h. names j.node.id (and_parts (has node.preds j.node.id) _ h).0) js) in
              let past : filter (λ j. ancestor_of (kept js) node j.node.id) (kept js) ≡ filter (λ j. ancestor_of js node j.node.id) js =
              (λ i. filter (λ j. same j.node.id i) (kept js)) ∙ filter_filtered (λ j. ancestor_of js node j.node.id) (λ j. keep j.node.id) (λ j h. far.0 e j.node.id h) js in
              let one : judge_next rules (kept js) node ≡ judge_next rules js node =
              λ i. record { node = node; is_ancestor = λ id. same id i; verdict = verdict_on rules (effects (past i)) node } in (
                (record { new = fewer_any (λ (n : NodeData). same_id node.id n.id) (λ (n : NodeData). keep n.id) older c.0.new; preds = all_held node.preds older names c.0.preds }, rest.closed),
                ap (λ l. judge_next rules l node ∷ l) rest.is ∙ ap (λ (j : Judged). j ∷ kept js) one,
              )
          | false ↦ λ e. (rest.closed, rest.is)
        ] in
        let made = step (keep node.id) refl in
        record { closed = made.0; is = made.1 }

    -- what those that are kept inserted passed the tests of inserts
    pub founded_kept : (nodes : List NodeData) → IsClosed nodes → KeepsPreds keep (judged rules nodes) → Founded rules (effects (kept (judged rules nodes))).inserted
    founded_kept nodes c k =
        let it = kept_closed nodes c k in
        subst (λ (js : List Judged). Founded rules (effects js).inserted) it.is (founded_closed rules (chosen nodes) it.closed).founded

-- ---- the positions of a past

-- of the positions of these nodes, the past holds those that are kept
abbrev Agrees : (ℕ → Bool) → (UpdateId → Bool) → List NodeData → Type 0
Agrees past keep [] = Unit {0}
Agrees past keep (node ∷ older) = (past (length older) ≡ keep node.id) × Agrees past keep older

agrees_from : (past : ℕ → Bool) (keep : UpdateId → Bool) (newer nodes : List NodeData)
    → ((front : List NodeData) (member : NodeData) (older : List NodeData) → newer ++ nodes ≡ front ++ member ∷ older → past (length older) ≡ keep member.id) → Agrees past keep nodes
agrees_from past keep newer [] h = tt
agrees_from past keep newer (node ∷ older) h =
    (h newer node older refl, agrees_from past keep (newer ++ node ∷ []) older (λ front member behind e. h front member behind (sym (append_assoc newer (node ∷ []) older) ∙ e)))

kept_rows : (past : ℕ → Bool) (position : ℕ) (rows : List TableRow) → filter (λ (it : Inserted). past it.position) (map (inserted_at position) rows) ≡ cond (past position) (map (inserted_at position) rows) []
kept_rows past position [] = let none : (b : Bool) → ◌≡◌ {A = List Inserted} [] (cond b [] []) = elim [ true ↦ refl | false ↦ refl ] in none (past position)
kept_rows past position (row ∷ rows) =
    let rest = kept_rows past position rows in
    let step : (b : Bool) → filter (λ (it : Inserted). past it.position) (map (inserted_at position) rows) ≡ cond b (map (inserted_at position) rows) []
    → cond b (inserted_at position row ∷ filter (λ (it : Inserted). past it.position) (map (inserted_at position) rows)) (filter (λ (it : Inserted). past it.position) (map (inserted_at position) rows))
    ≡ cond b (inserted_at position row ∷ map (inserted_at position) rows) [] =
    elim [ true ↦ λ e. ap (λ l. inserted_at position row ∷ l) e | false ↦ λ e. e ] in
    step (past position) rest

kept_names : (past : ℕ → Bool) (position : ℕ) (names : List RowName) → filter (λ (it : Dropped). past it.position) (map (dropped_at position) names) ≡ cond (past position) (map (dropped_at position) names) []
kept_names past position [] = let none : (b : Bool) → ◌≡◌ {A = List Dropped} [] (cond b [] []) = elim [ true ↦ refl | false ↦ refl ] in none (past position)
kept_names past position (name ∷ names) =
    let rest = kept_names past position names in
    let step : (b : Bool) → filter (λ (it : Dropped). past it.position) (map (dropped_at position) names) ≡ cond b (map (dropped_at position) names) []
    → cond b (dropped_at position name ∷ filter (λ (it : Dropped). past it.position) (map (dropped_at position) names)) (filter (λ (it : Dropped). past it.position) (map (dropped_at position) names))
    ≡ cond b (dropped_at position name ∷ map (dropped_at position) names) [] =
    elim [ true ↦ λ e. ap (λ l. dropped_at position name ∷ l) e | false ↦ λ e. e ] in
    step (past position) rest

-- what those did whose positions the past holds
did_then : (rules : Rules) (past : ℕ → Bool) (keep : UpdateId → Bool) (nodes : List NodeData) → Agrees past keep nodes
    → done_then (state_of rules nodes) past ≡ effects (filter (λ j. keep j.node.id) (judged rules nodes))
unfolding state_of effects judge_next judged
did_then rules past keep [] a = refl
did_then rules past keep (node ∷ older) a =
    let state = state_of rules older in
    let js = judged rules older in
    let rest = did_then rules past keep older a.1 in
    let here : past state.count ≡ keep node.id = ap past (count_is rules older) ∙ a.0 in
    let rows : List TableRow = (effects_of node).inserted in
    let names : List RowName = (effects_of node).deleted in
    let old_rows : List Inserted = filter (λ (it : Inserted). past it.position) state.inserted in
    let old_names : List Dropped = filter (λ (it : Dropped). past it.position) state.dropped in
    let valid : (b : Bool) → past state.count ≡ b → done_then (after state node verdict.Valid) past ≡ cond b (joined (effects_of node) (effects (filter (λ j. keep j.node.id) js))) (effects (filter (λ j. keep j.node.id) js)) =
    elim [
      | true ↦ λ e. λ i. record {
        inserted = (ap (λ l. reverse (map row_of l)) (filter-append (λ (it : Inserted). past it.position) state.inserted (map (inserted_at state.count) (reverse rows))
            ∙ ap (λ l. old_rows ++ l) (kept_rows past state.count (reverse rows) ∙ ap (λ b. cond b (map (inserted_at state.count) (reverse rows)) []) e))
            ∙ newest_rows old_rows state.count rows ∙ ap (λ (g : Effects). rows ++ g.inserted) rest) i;
        deleted = (ap (λ l. reverse (map (λ (it : Dropped). it.name) l)) (filter-append (λ (it : Dropped). past it.position) state.dropped (map (dropped_at state.count) (reverse names))
            ∙ ap (λ l. old_names ++ l) (kept_names past state.count (reverse names) ∙ ap (λ b. cond b (map (dropped_at state.count) (reverse names)) []) e))
            ∙ newest_names old_names state.count names ∙ ap (λ (g : Effects). names ++ g.deleted) rest) i;
      }
      | false ↦ λ e. (λ i. record {
        inserted = ap (λ l. reverse (map row_of l)) (filter-append (λ (it : Inserted). past it.position) state.inserted (map (inserted_at state.count) (reverse rows))
            ∙ ap (λ l. old_rows ++ l) (kept_rows past state.count (reverse rows) ∙ ap (λ b. cond b (map (inserted_at state.count) (reverse rows)) []) e) ∙ append-nil old_rows) i;
        deleted = ap (λ l. reverse (map (λ (it : Dropped). it.name) l)) (filter-append (λ (it : Dropped). past it.position) state.dropped (map (dropped_at state.count) (reverse names))
            ∙ ap (λ l. old_names ++ l) (kept_names past state.count (reverse names) ∙ ap (λ b. cond b (map (dropped_at state.count) (reverse names)) []) e) ∙ append-nil old_names) i;
      }) ∙ rest
    ] in
    let j = judge_next rules js node in
    let step : (v : Verdict) → done_then (after state node v) past
    ≡ cond (keep node.id) (cond (is_valid v) (joined (effects_of node) (effects (filter (λ k. keep k.node.id) js))) (effects (filter (λ k. keep k.node.id) js))) (effects (filter (λ k. keep k.node.id) js)) =
    elim [
      | verdict.Valid ↦ valid (past state.count) refl ∙ ap (λ b. cond b (joined (effects_of node) (effects (filter (λ k. keep k.node.id) js))) (effects (filter (λ k. keep k.node.id) js))) here
      | verdict.Void reason operation ↦ rest ∙ (let same : (b : Bool) → effects (filter (λ k. keep k.node.id) js) ≡ cond b (effects (filter (λ k. keep k.node.id) js)) (effects (filter (λ k. keep k.node.id) js)) = elim [ true ↦ refl | false ↦ refl ] in same (keep node.id))
    ] in
    let spread : (b : Bool) → effects (cond b (j ∷ filter (λ k. keep k.node.id) js) (filter (λ k. keep k.node.id) js))
    ≡ cond b (cond (is_valid j.verdict) (joined (effects_of node) (effects (filter (λ k. keep k.node.id) js))) (effects (filter (λ k. keep k.node.id) js))) (effects (filter (λ k. keep k.node.id) js)) =
    elim [ true ↦ refl | false ↦ refl ] in
    step j.verdict ∙ sym (spread (keep node.id))

pub done_past : (rules : Rules) (nodes : List NodeData) (node : NodeData) (past : ℕ → Bool) → IsPastOf rules nodes node past
    → done_then (state_of rules nodes) past ≡ effects (filter (λ j. ancestor_of (judged rules nodes) node j.node.id) (judged rules nodes))
done_past rules nodes node past it = did_then rules past (ancestor_of (judged rules nodes) node) nodes (agrees_from past (ancestor_of (judged rules nodes) node) [] nodes it.exact)

pub founded_past : (rules : Rules) (nodes : List NodeData) (node : NodeData) → IsClosed nodes
    → Founded rules (effects (filter (λ j. ancestor_of (judged rules nodes) node j.node.id) (judged rules nodes))).inserted
founded_past rules nodes node c = founded_kept rules (ancestor_of (judged rules nodes) node) nodes c (past_keeps rules node nodes c)

pub layered_past : (rules : Rules) (nodes : List NodeData) (node : NodeData) → IsClosed nodes
    → are_layered rules (effects (filter (λ j. ancestor_of (judged rules nodes) node j.node.id) (judged rules nodes))).inserted ≡ true
layered_past rules nodes node c = layered_founded rules _ (founded_past rules nodes node c)

pub resting_past : (rules : Rules) (nodes : List NodeData) (node : NodeData) → AreTables [] rules.tables → IsClosed nodes
    → are_resting rules (effects (filter (λ j. ancestor_of (judged rules nodes) node j.node.id) (judged rules nodes))).inserted ≡ true
resting_past rules nodes node tables c = resting rules (sound_tables rules.tables tables) _ (founded_past rules nodes node c)
