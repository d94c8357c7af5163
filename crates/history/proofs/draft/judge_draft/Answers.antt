use Rattle.std.proofs.Common.{◌≡◌, filter, ap, sym, ◌∙◌}
use Rattle.std.specs.List.{filter_map}
use Rattle.std.proofs.lemmas.Result.{IfOk-weaker}
use Rattle.update_model.specs.Node.{NodeData}
use Rattle.table_model.specs.Visible.{Rules, rules_with}
use Rattle.table_model.specs.Verdicts.{ancestor_of, effects, judged}
use Rattle.history.specs.Arrivals.{place_in}
use Rattle.history.specs.Histories.{nodes_of}
use Rattle.history.proofs.Drafts.{draft_lower, draft_past, draft_places}
use Rattle.history.proofs.Fronts.{all_state}
use Rattle.history.proofs.draft.judge_draft.Goals as goal

pub invariant_of-ancestors : goal.invariant_of-ancestors
invariant_of-ancestors g c =
    let graph = c.args.graph.now in
    let draft : NodeData = c.args.draft.now in
    let named : c.as_slice-preds.result.now ≡ filter_map (place_in graph) draft.preds =
    draft_places graph draft c.len-len.result c.as_slice.result.now c.in_ok-places.places.items c.as_slice-preds.result.now c.len-len.ensures.value (c.as_slice.ensures ∙ ap (λ (n : NodeData). n.preds) c.draft.view_is)
    c.in_ok-places.ensures c.as_slice-preds.ensures.value in
    record { lower = draft_lower graph c.args.views.now.ancestry draft c.as_slice-preds.result.now c.len.ensures.lower c.requires.views.places named }

pub at-requires : goal.at-requires
at-requires g c =
    let rules : Rules = rules_with g.L.Relation.answer c.args.schema.now.tables in
    let graph = c.args.graph.now in
    let draft : NodeData = c.args.draft.now in
    let named : c.as_slice-preds.result.now ≡ filter_map (place_in graph) draft.preds =
    draft_places graph draft c.len-len.result c.as_slice.result.now c.in_ok-places.places.items c.as_slice-preds.result.now c.len-len.ensures.value (c.as_slice.ensures ∙ ap (λ (n : NodeData). n.preds) c.draft.view_is)
    c.in_ok-places.ensures c.as_slice-preds.ensures.value in
    let past = draft_past graph c.args.views.now.ancestry draft c.as_slice-preds.result.now c.len.ensures.lower c.requires.views.places named rules c.len-len.result c.len-len.ensures.value c.len-len.ensures.closed
    c.requires.next in
    record { past = record { rules = rules; nodes = nodes_of graph; node = draft; is = all_state g.L.Relation.answer c.args.schema.now graph c.args.views.now c.requires.views; past_of = past } }

pub returns : goal.returns
returns g c =
    let rules : Rules = rules_with g.L.Relation.answer c.args.schema.now.tables in
    let graph = c.args.graph.now in
    let draft : NodeData = c.args.draft.now in
    let nodes = nodes_of graph in
    let named : c.as_slice-preds.result.now ≡ filter_map (place_in graph) draft.preds =
    draft_places graph draft c.len-len.result c.as_slice.result.now c.in_ok-places.places.items c.as_slice-preds.result.now c.len-len.ensures.value (c.as_slice.ensures ∙ ap (λ (n : NodeData). n.preds) c.draft.view_is)
    c.in_ok-places.ensures c.as_slice-preds.ensures.value in
    let past = draft_past graph c.args.views.now.ancestry draft c.as_slice-preds.result.now c.len.ensures.lower c.requires.views.places named rules c.len-len.result c.len-len.ensures.value c.len-len.ensures.closed
    c.requires.next in
    IfOk-weaker c.judge.result _ _
    (λ verdict is. is (effects (filter (λ j. ancestor_of (judged rules nodes) draft j.node.id) (judged rules nodes)))
    (c.in_ok-rows.ensures.answers rules nodes draft (all_state g.L.Relation.answer c.args.schema.now graph c.args.views.now c.requires.views) past)
    ∙ sym (c.verdict_is_on_ancestors.ensures rules (judged rules nodes) draft))
    c.judge.ensures
