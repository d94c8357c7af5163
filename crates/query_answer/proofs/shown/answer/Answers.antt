use Rattle.std.proofs.Common.{subst, ℕ}
use Rattle.table_model.specs.Visible.{rules_with}
use Rattle.query_answer.specs.Answers.{AreShown}
use Rattle.query_answer.proofs.Lending.{lists_from, lists_lent, lists_shown}
use Rattle.query_answer.proofs.shown.answer.Goals as goal

pub returns : goal.returns
returns g c = λ nodes is.
    let tables = c.args.schema.now.tables in
    let rules = rules_with g.L.Relation.answer tables in
    let state = c.args.tables.now in
    let lists = lists_from state 0 c.tables.result in
    record {
      tables = lists;
      shown = subst (λ (n : ℕ). AreShown rules nodes n lists) c.tables.ensures.number (lists_shown state rules nodes is c.tables.result);
      is = c.in_ok-answer.ensures lists (lists_lent c.args.tables c.tables.result rules nodes is);
    }
