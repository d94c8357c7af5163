-- What a state holds is what its nodes do.
use Rattle.std.proofs.Common.{◌≡◌, ℕ, cond, List, [], ◌∷◌, ◌++◌, length, map, reverse, refl, ap, ◌∙◌, arith}
use Rattle.std.proofs.lemmas.List.{map-append, reverse-append, reverse-reverse}
use Rattle.update_model.specs.declared.row_name.RowName.{RowName}
use Rattle.update_model.specs.Node.{NodeData}
use Rattle.table_model.specs.declared.verdict.Verdict.{Verdict}
use Rattle.table_model.specs.declared.verdict.Verdict.TheVariants as verdict
use Rattle.table_model.specs.Tables.{void_line, void_lines}
use Rattle.table_model.specs.Verdicts.{effects, effects_of, is_valid, joined, judge_next, judged}
use Rattle.table_model.specs.Visible.{Effects, Rules, TableRow}
use Rattle.tuple_state.specs.declared.inserted.Inserted.{Inserted}
use Rattle.tuple_state.specs.declared.dropped.Dropped.{Dropped}
use Rattle.tuple_state.specs.declared.voided.Voided.{Voided}
use Rattle.table_model.specs.declared.void_line.VoidLine.{VoidLine}
use Rattle.tuple_state.specs.State.{after, done_in, dropped_at, inserted_at, row_of, shape_of, state_of, voided_at}

rows_back : (position : ℕ) (rows : List TableRow) → map row_of (map (inserted_at position) rows) ≡ rows
rows_back position [] = refl
rows_back position (row ∷ rows) = ap (λ l. row ∷ l) (rows_back position rows)

names_back : (position : ℕ) (names : List RowName) → map (λ (it : Dropped). it.name) (map (dropped_at position) names) ≡ names
names_back position [] = refl
names_back position (name ∷ names) = ap (λ l. name ∷ l) (names_back position names)

-- what comes last in a state is newest
pub newest_rows : (old : List Inserted) (position : ℕ) (new : List TableRow)
    → reverse (map row_of (old ++ map (inserted_at position) (reverse new))) ≡ new ++ reverse (map row_of old)
newest_rows old position new =
    ap reverse (map-append row_of old (map (inserted_at position) (reverse new)))
    ∙ reverse-append (map row_of old) (map row_of (map (inserted_at position) (reverse new)))
    ∙ ap (λ l. reverse l ++ reverse (map row_of old)) (rows_back position (reverse new))
    ∙ ap (λ l. l ++ reverse (map row_of old)) (reverse-reverse new)

pub newest_names : (old : List Dropped) (position : ℕ) (new : List RowName)
    → reverse (map (λ (it : Dropped). it.name) (old ++ map (dropped_at position) (reverse new))) ≡ new ++ reverse (map (λ (it : Dropped). it.name) old)
newest_names old position new =
    ap reverse (map-append (λ (it : Dropped). it.name) old (map (dropped_at position) (reverse new)))
    ∙ reverse-append (map (λ (it : Dropped). it.name) old) (map (λ (it : Dropped). it.name) (map (dropped_at position) (reverse new)))
    ∙ ap (λ l. reverse l ++ reverse (map (λ (it : Dropped). it.name) old)) (names_back position (reverse new))
    ∙ ap (λ l. l ++ reverse (map (λ (it : Dropped). it.name) old)) (reverse-reverse new)

pub did_is : (rules : Rules) (nodes : List NodeData) → done_in (state_of rules nodes) ≡ effects (judged rules nodes)
unfolding state_of effects judge_next judged
did_is rules [] = refl
did_is rules (node ∷ older) =
    let state = state_of rules older in
    let rest = did_is rules older in
    let step : (v : Verdict) → done_in (after state node v) ≡ cond (is_valid v) (joined (effects_of node) (effects (judged rules older))) (effects (judged rules older)) =
    elim [
      | verdict.Valid ↦ λ i. record {
        inserted = (newest_rows state.inserted state.count (effects_of node).inserted ∙ ap (λ (e : Effects). (effects_of node).inserted ++ e.inserted) rest) i;
        deleted = (newest_names state.dropped state.count (effects_of node).deleted ∙ ap (λ (e : Effects). (effects_of node).deleted ++ e.deleted) rest) i;
      }
      | verdict.Void reason operation ↦ rest
    ] in
    step (judge_next rules (judged rules older) node).verdict

pub voids_are : (rules : Rules) (nodes : List NodeData) → reverse (map (λ (it : Voided). it.line) (state_of rules nodes).voids) ≡ void_lines (judged rules nodes)
unfolding state_of judge_next judged
voids_are rules [] = refl
voids_are rules (node ∷ older) =
    let state = state_of rules older in
    let rest = voids_are rules older in
    let step : (v : Verdict) → reverse (map (λ (it : Voided). it.line) (after state node v).voids) ≡ void_line node.id v ++ void_lines (judged rules older) =
    elim [
      | verdict.Valid ↦ rest
      | verdict.Void reason operation ↦ let line : VoidLine = record { id = node.id; reason = reason; operation = operation } in
          ap reverse (map-append (λ (it : Voided). it.line) state.voids (voided_at state.count line ∷ [])) ∙ reverse-append (map (λ (it : Voided). it.line) state.voids) (line ∷ []) ∙ ap (λ l. void_line node.id (verdict.Void reason operation) ++ l) rest
    ] in
    step (judge_next rules (judged rules older) node).verdict

-- each node counts
pub count_is : (rules : Rules) (nodes : List NodeData) → (state_of rules nodes).count ≡ length nodes
unfolding state_of
count_is rules [] = refl
count_is rules (node ∷ older) =
    let state = state_of rules older in
    let rest = count_is rules older in
    let step : (v : Verdict) → (after state node v).count ≡ length (node ∷ older) =
    elim [ verdict.Valid ↦ omega (arith, rest) | verdict.Void reason operation ↦ omega (arith, rest) ] in
    step (judge_next rules (judged rules older) node).verdict

-- the shapes stay
pub shapes_are : (rules : Rules) (nodes : List NodeData) → (state_of rules nodes).shapes ≡ map shape_of rules.tables
unfolding state_of
shapes_are rules [] = refl
shapes_are rules (node ∷ older) =
    let state = state_of rules older in
    let rest = shapes_are rules older in
    let step : (v : Verdict) → (after state node v).shapes ≡ map shape_of rules.tables =
    elim [ verdict.Valid ↦ rest | verdict.Void reason operation ↦ rest ] in
    step (judge_next rules (judged rules older) node).verdict
