use Rattle.std.proofs.Common.{List, length, refl, subst}
use Rattle.query_answer.specs.declared.line.Line.{Line}
use Rattle.query_answer.specs.Fronts.{IsLastPlace, IsReached}
use Rattle.query_answer.proofs.Kept.{cut_holds, pushed}
use Rattle.query_answer.proofs.front.Front.add.Goals as goal

pub returns-then-is_full : goal.returns-then-is_full
returns-then-is_full c = λ limit all apart held.
    let old = c.args.self.now in
    let reached : IsReached old.limit (length c.push.new.self.items) =
    subst (λ (lines : List Line). IsReached old.limit (length lines)) c.as_slice.ensures.value (c.is_full.ensures c.if-is_full.true) in
    let last : IsLastPlace (length c.cut.new.lines.items) c.last_place-self.result =
    subst (λ (lines : List Line). IsLastPlace (length lines) c.last_place-self.result) c.as_slice-then-is_full.ensures.value c.last_place-self.ensures in
    cut_holds c.args.keys.now (record old { lines = c.push.new.self }) (record old { lines = c.cut.new.lines; bound = c.last_place-self.result }) refl reached last c.cut.ensures limit _ apart
    (pushed c.args.keys.now old (record old { lines = c.push.new.self }) c.args.line refl refl c.in_ok-push.ensures.items limit all held)

pub returns-else-is_full : goal.returns-else-is_full
returns-else-is_full c = λ limit all apart.
    pushed c.args.keys.now c.args.self.now (record c.args.self.now { lines = c.push.new.self }) c.args.line refl refl c.in_ok-push.ensures.items limit all
