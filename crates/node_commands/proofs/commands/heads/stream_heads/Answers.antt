use Rattle.std.proofs.Common.{◌∙◌, ap}
use Rattle.std.proofs.lemmas.Result.{err_from_is_err_and}
use Rattle.head_set.specs.Present.{present}
use Rattle.node_commands.specs.Heads.{done}
use Rattle.outcomes.specs.Texts.{printed}
use Rattle.node_commands.proofs.Answering.{heads_refused}
use Rattle.node_commands.proofs.commands.heads.stream_heads.Goals as goal

pub returns-in_err-graph : goal.returns-in_err-graph
returns-in_err-graph g c =
    let p = err_from_is_err_and c.from_residual.result c.from_residual.ensures.1 in
    rw (p.1, p.2) (heads_refused (g.S.Source.left c.args.input.now) (g.S.Source.left c.read_graph.new.input) (g.S.Counted.faults c.args.input.now) (g.S.Counted.faults c.read_graph.new.input)
    c.in_err-graph.field-0.0 c.in_err-graph.ensures.refused)

pub returns : goal.returns
returns g c =
    done c.in_ok-graph.graph (present c.in_ok-heads_of.field-0) c.in_ok-graph.ensures.whole c.in_ok-heads_of.ensures (c.in_ok-text.ensures ∙ ap printed (c.deref.ensures.value ∙ c.in_ok-heads.ensures.items))
