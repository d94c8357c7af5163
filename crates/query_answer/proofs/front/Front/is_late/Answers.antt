use Rattle.std.proofs.Common.{◌≡◌, ◌∙◌, ◌<◌, List, ap, get_or, length, subst, sym}
use Rattle.std.specs.Ordering.{is_lt}
use Rattle.query_answer.specs.declared.line.Line.{Line}
use Rattle.query_answer.proofs.Kept.{late, not_below}
use Rattle.query_answer.proofs.front.Front.is_late.Goals as goal

pub returns-in-Some-get : goal.returns-in-Some-get
returns-in-Some-get c = λ behind.
    let place = c.in-Some.place in
    let last = c.in-Some-get.last.now in
    let lookup = c.in-Some-get.ensures.lookup in
    let same : c.deref.result.now ≡ c.args.self.now.lines.items = c.deref.ensures.value in
    late c.args.keys.now c.args.self.now place last c.args.line.now c.in-Some.is
    (lookup.1 ∙ ap (λ (lines : List Line). get_or lines place last) same)
    (subst (λ (lines : List Line). place < length lines) same lookup.3.0)
    (ap is_lt (sym c.line_cmp.ensures) ∙ not_below c.line_cmp.result (sym c.is_ge.ensures ∙ behind))
