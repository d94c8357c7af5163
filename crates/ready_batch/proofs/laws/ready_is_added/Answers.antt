use Rattle.ready_batch.proofs.Orders.{ready_added}
use Rattle.ready_batch.proofs.laws.ready_is_added.Goals as goal

pub returns : goal.returns
returns c before batch added waiting e adds there ready = ready_added before batch added waiting e adds there ready
