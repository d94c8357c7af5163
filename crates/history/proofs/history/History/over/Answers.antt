use Rattle.history.proofs.history.History.over.Goals as goal

pub invariant_of-result : goal.invariant_of-result
invariant_of-result g c = record { is = record { unlimited = c.requires.unlimited; members = c.requires.members }; are = c.in-Ok.ensures }
