-- Judged nodes, newest first, one by one.
use Rattle.std.proofs.Common.{◌≡◌, Bool, true, false, ◌||◌, List, [], filter, refl, sym, ap, ◌∙◌}
use Rattle.update_model.specs.declared.update_id.UpdateId.{UpdateId}
use Rattle.update_model.specs.Entry.{same_id}
use Rattle.update_model.specs.Graph.{has}
use Rattle.update_model.specs.Node.{NodeData}
use Rattle.table_model.specs.Visible.{Rules, Effects}
use Rattle.table_model.specs.Verdicts.{ancestor_of, effects, judge_next, judged, nothing, verdict_on}
use Rattle.table_model.proofs.Order.{ids_equal}
use Rattle.confluence_checker.specs.declared.judged_node.JudgedNode.{JudgedNode}
use Rattle.confluence_checker.specs.Forms.{as_judged, newest_first}

-- what is there already need not be put there
or_there : (a s : Bool) → (s ≡ true → a ≡ true) → a ≡ (a || s)
or_there true s h = refl
or_there false true h = h refl
or_there false false h = refl

-- an id that is there is there
pub there_one : (ids : List UpdateId) (id : UpdateId) → has ids id ≡ true → (other : UpdateId) → has ids other ≡ (has ids other || same_id other id)
there_one ids id there other = or_there (has ids other) (same_id other id) (λ s. ap (has ids) (sym (ids_equal id other s)) ∙ there)

pub effects_start : (did : Effects) → did ≡ nothing → did ≡ effects []
unfolding effects
effects_start did is = is

-- a node with its verdict
pub judged_is : (rules : Rules) (js : List JudgedNode) (node : NodeData) (j : JudgedNode) (past : Effects) → j.node ≡ node → ((id : UpdateId) → has j.ancestors.items id ≡ ancestor_of (newest_first js) node id)
    → past ≡ effects (filter (λ k. has j.ancestors.items k.node.id) (newest_first js)) → j.verdict ≡ verdict_on rules past node → as_judged j ≡ judge_next rules (newest_first js) node
unfolding judge_next
judged_is rules js node j past same ancestors did verdict =
    let past_is : past ≡ effects (filter (λ k. ancestor_of (newest_first js) node k.node.id) (newest_first js)) =
    did ∙ (λ i. effects (filter (λ k. ancestors k.node.id i) (newest_first js))) in
    let verdict_is : j.verdict ≡ verdict_on rules (effects (filter (λ k. ancestor_of (newest_first js) node k.node.id) (newest_first js))) node =
    verdict ∙ ap (λ (d : Effects). verdict_on rules d node) past_is in
    λ i. record { node = same i; is_ancestor = λ id. ancestors id i; verdict = verdict_is i }

pub judged_start : (rules : Rules) (js : List JudgedNode) → js ≡ [] → newest_first js ≡ judged rules []
unfolding judged
judged_start rules js is = ap newest_first is
