use Rattle.std.proofs.Common.{◌+◌, filter, map, take, sym, ◌∙◌}
use Rattle.std.proofs.lemmas.Result.{IfOk-weaker}
use Rattle.update_codec.specs.Parts.{entry_of}
use Rattle.ancestry.specs.Walks.{is_ancestor}
use Rattle.table_model.specs.Visible.{Rules, rules_with}
use Rattle.table_model.specs.Verdicts.{ancestor_of, effects, judged}
use Rattle.tuple_state.specs.Past.{IsPastOf}
use Rattle.history.specs.Arrivals.{nodes_before}
use Rattle.history.proofs.Arriving.{front_closed, past_from}
use Rattle.history.proofs.replaying.judge_next.Goals as goal

pub at-requires : goal.at-requires
at-requires g c =
    let rules : Rules = rules_with g.L.Relation.answer c.args.schema.now.tables in
    let graph = c.args.graph.now in
    let i = c.args.position in
    let past : IsPastOf rules (nodes_before graph i) c.args.node.now (λ p. is_ancestor c.args.ancestry.now p i) =
    past_from rules graph i c.args.node.now c.args.ancestry.now c.requires.here
    (λ next are. c.arrivals_are_closed.ensures (map entry_of (take (i + 1) graph)) next are (front_closed graph (i + 1) c.len.ensures.closed))
    c.len-2.ensures.lower c.requires.places in
    record { past = record { rules = rules; nodes = nodes_before graph i; node = c.args.node.now; is = c.requires.state; past_of = past } }

pub returns : goal.returns
returns g c =
    let rules : Rules = rules_with g.L.Relation.answer c.args.schema.now.tables in
    let graph = c.args.graph.now in
    let i = c.args.position in
    let nodes = nodes_before graph i in
    let node = c.args.node.now in
    let past : IsPastOf rules nodes node (λ p. is_ancestor c.args.ancestry.now p i) =
    past_from rules graph i node c.args.ancestry.now c.requires.here
    (λ next are. c.arrivals_are_closed.ensures (map entry_of (take (i + 1) graph)) next are (front_closed graph (i + 1) c.len.ensures.closed))
    c.len-2.ensures.lower c.requires.places in
    IfOk-weaker c.judge.result _ _
    (λ verdict is. is (effects (filter (λ j. ancestor_of (judged rules nodes) node j.node.id) (judged rules nodes))) (c.in_ok-rows.ensures.answers rules nodes node c.requires.state past)
    ∙ sym (c.verdict_is_on_ancestors.ensures rules (judged rules nodes) node))
    c.judge.ensures
