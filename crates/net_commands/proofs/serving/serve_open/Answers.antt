use Rattle.net_commands.proofs.OpenServing.{serving_held, serving_memory, serving_stopped}
use Rattle.net_commands.proofs.serving.serve_open.Goals as goal

pub returns-in-Err : goal.returns-in-Err
returns-in-Err g c = serving_stopped _ _ _ _ _ _ _ _ _ c.known_of.ensures.keeps c.known_of.ensures.later c.in-Err.refusal c.each_stands.ensures c.in-Err.ensures.failed

pub returns-in-Err-met : goal.returns-in-Err-met
returns-in-Err-met g c = serving_memory _ _ _ _ _ _ _ _ _ _ _ _ c.known_of.ensures.keeps c.known_of.ensures.later c.serve_peers-replica.ensures.out c.serve_peers-replica.ensures.grows c.each_stands-2.ensures

pub returns : goal.returns
returns g c =
    serving_held _ _ _ _ _ _ _ _ _ _ _ _ _ _ _ _ c.in-Ok-met.met _ c.known_of.ensures.keeps c.in-Ok.ensures.reads c.known_of.ensures.same c.known_of.ensures.later c.serve_peers-replica.ensures.out
    c.serve_peers-replica.ensures.grows (c.serve_peers-replica.ensures.held c.in-Ok-met.met c.in-Ok-met.is) c.conclude_all-told.ensures c.each_stands-3.ensures
