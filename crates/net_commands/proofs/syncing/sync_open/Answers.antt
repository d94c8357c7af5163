use Rattle.net_commands.proofs.Open.{open_stopped, open_told, open_unmet}
use Rattle.net_commands.proofs.syncing.sync_open.Goals as goal

pub returns-in-Err : goal.returns-in-Err
returns-in-Err g c = open_stopped _ _ _ _ _ _ _ _ _ c.in-Err.refusal c.known_of.ensures.keeps c.known_of.ensures.later c.each_stands.ensures c.in-Err.ensures.failed

pub returns-in-Err-met : goal.returns-in-Err-met
returns-in-Err-met g c = open_unmet _ _ _ _ _ _ _ _ _ _ _ _ _ c.meet-replica.result.1 c.known_of.ensures.keeps c.known_of.ensures.later c.meet-replica.ensures c.in-Err-met.refusal c.in-Err-met.is c.each_stands-2.ensures

pub returns : goal.returns
returns g c =
    open_told _ _ _ _ _ _ _ _ _ _ _ _ _ c.meet-replica.result.1 c.known_of.ensures.keeps c.known_of.ensures.later c.meet-replica.ensures _ _ _ c.in-Ok-met.served _ c.in-Ok-met.is c.in-Ok.ensures.reads c.known_of.ensures.same
    c.conclude-told.ensures c.each_stands-3.ensures
