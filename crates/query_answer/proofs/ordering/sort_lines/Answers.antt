use Rattle.std.proofs.Common.{◌≡◌, rules}
use Rattle.std.specs.Ordering.{is_lt}
use Rattle.std.proofs.lemmas.Fn.{always_returns_same}
use Rattle.std.proofs.lemmas.List.Sorted.{ranks_by}
use Rattle.query_answer.specs.declared.line.Line.{Line}
use Rattle.query_answer.specs.Answers.{line_cmp}
use Rattle.query_answer.proofs.Orders.{line_total}
use Rattle.query_answer.proofs.ordering.sort_lines.Goals as goal

pub returns-clause-ordered : goal.returns-clause-ordered
returns-clause-ordered c =
    let keys = c.args.keys.now in
    c.sort_unstable_by.ensures.sorted (λ x y. is_lt (line_cmp keys x y)) (ranks_by (line_total keys) (λ (x : Line). x))
    (always_returns_same _ (λ a r. is_lt r ≡ is_lt (line_cmp keys a.0.now a.1.0.now)) _ (λ a r f q. search rules))
