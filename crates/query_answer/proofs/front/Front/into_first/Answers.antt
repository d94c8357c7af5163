use Rattle.query_answer.proofs.Kept.{all_first}
use Rattle.query_answer.proofs.front.Front.into_first.Goals as goal

pub returns : goal.returns
returns c = all_first c.args.keys.now c.args.self c.cut.new.lines.items c.cut.ensures
