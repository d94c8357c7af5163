use Rattle.update_check.proofs.Whole.{taken_under}
use Rattle.update_check.proofs.checked_update.Checked.is_under.Goals as goal

pub returns : goal.returns
returns c =
    taken_under c.args.rule.now c.args.self.now c.database.result.now c.author.result.now c.is_taken.result c.database.ensures c.author.ensures.value c.is_taken.ensures
