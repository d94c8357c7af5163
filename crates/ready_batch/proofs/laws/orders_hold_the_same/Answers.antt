use Rattle.ready_batch.proofs.Orders.{hold_the_same}
use Rattle.ready_batch.proofs.laws.orders_hold_the_same.Goals as goal

pub returns : goal.returns
returns c before batch added waiting other others_waiting one two id = hold_the_same before batch added waiting other others_waiting one two id
