use Rattle.std.proofs.Common.{◌∙◌}
use Rattle.std.proofs.lemmas.Result.{IfOk-weaker}
use Rattle.tuple_state.specs.Values.{first_of}
use Rattle.tuple_state.proofs.Valuing.{first_found, first_none, firsts_more, firsts_same}
use Rattle.tuple_state.proofs.values.Values.add.Goals as goal

pub returns-in-Some-clause-first : goal.returns-in-Some-clause-first
returns-in-Some-clause-first c =
    IfOk-weaker c.add_value.result _ _
    (λ first is rows firsts. first_found c.args.shapes.now rows c.args.row.now c.in-Some.key first (rw c.in-Some.is at c.in_ok-key.ensures) (is ∙ firsts c.in-Some.key)) c.add_value.ensures.first

pub returns-in-Some-clause-known : goal.returns-in-Some-clause-known
returns-in-Some-clause-known c =
    IfOk-weaker c.add_value.result _ _
    (λ first is rows len firsts.
    firsts_more c.args.shapes.now rows c.args.row.now (first_of c.args.self.now) firsts c.in-Some.key c.args.place (first_of c.add_value.new.self) (rw c.in-Some.is at c.in_ok-key.ensures) len is) c.add_value.ensures.known

pub returns-in-None-clause-first : goal.returns-in-None-clause-first
returns-in-None-clause-first c rows firsts = first_none c.args.shapes.now rows c.args.row.now (rw c.in-None.is at c.in_ok-key.ensures)

pub returns-in-None-clause-known : goal.returns-in-None-clause-known
returns-in-None-clause-known c rows len firsts = firsts_same c.args.shapes.now rows c.args.row.now (first_of c.args.self.now) firsts (rw c.in-None.is at c.in_ok-key.ensures)
