use Rattle.bec_node.proofs.Unsealing.{unseal_done, unseal_refused}
use Rattle.bec_node.proofs.seals.unsealed.Goals as goal

pub returns-in-Ok : goal.returns-in-Ok
returns-in-Ok g c =
    unseal_done c.args.key.now c.args.signature.now (g.S.Source.left c.args.input.now) (g.S.Source.left c.unseal.new.input) (g.S.Counted.faults c.args.input.now) (g.S.Counted.faults c.unseal.new.input)
    c.in-Ok.text c.in-Ok.ensures.done

pub returns-in-Err : goal.returns-in-Err
returns-in-Err g c =
    rw c.seal_refusal.ensures (unseal_refused c.args.key.now c.args.signature.now (g.S.Source.left c.args.input.now) (g.S.Source.left c.unseal.new.input) (g.S.Counted.faults c.args.input.now)
    (g.S.Counted.faults c.unseal.new.input) c.in-Err.why c.in-Err.ensures.refused)
