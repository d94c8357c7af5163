use Rattle.std.proofs.Common.{Option, ap, sym, ◌∙◌, ℕ}
use Rattle.query_answer.specs.Answers.{limited}
use Rattle.query_answer.proofs.Kept.{cut_sorted}
use Rattle.query_answer.proofs.front.cut.Goals as goal

pub returns-in-Some : goal.returns-in-Some
returns-in-Some c =
    let sorted = c.sort_lines.new.lines.items in
    cut_sorted c.args.keys.now c.args.limit c.args.lines.now.items sorted c.truncate.new.self.items c.sort_lines.ensures.exact c.sort_lines.ensures.ordered
    (c.truncate.ensures.items ∙ ap (λ (l : Option ℕ). limited l sorted) (sym c.in-Some.is))

pub returns-in_default : goal.returns-in_default
returns-in_default c =
    let sorted = c.sort_lines.new.lines.items in
    cut_sorted c.args.keys.now c.args.limit c.args.lines.now.items sorted sorted c.sort_lines.ensures.exact c.sort_lines.ensures.ordered
    (ap (λ (l : Option ℕ). limited l sorted) (sym c.in_default.is))
