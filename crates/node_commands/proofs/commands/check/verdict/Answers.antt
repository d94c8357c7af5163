use Rattle.std.proofs.lemmas.Result.{err_from_is_err_and}
use Rattle.node_commands.proofs.Answering.{check_done, check_refused}
use Rattle.node_commands.proofs.commands.check.verdict.Goals as goal

pub returns-in_err-said : goal.returns-in_err-said
returns-in_err-said g c =
    let p = err_from_is_err_and c.from_residual.result c.from_residual.ensures.1 in
    rw (p.1, p.2) (check_refused (g.S.Source.left c.args.input.now) (g.S.Source.left c.verdict.new.input) (g.S.Counted.faults c.args.input.now) (g.S.Counted.faults c.verdict.new.input)
    c.in_err-said.field-0.0 c.in_err-said.ensures.refused)

pub returns : goal.returns
returns g c = check_done (g.S.Source.left c.args.input.now) (g.S.Source.left c.verdict.new.input) c.in_ok-said.said c.in_ok-said.ensures.confluent
