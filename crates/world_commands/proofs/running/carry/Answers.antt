use Rattle.world_commands.proofs.running.carry.Goals as goal

pub returns-clause-happens : goal.returns-clause-happens
returns-clause-happens c = λ w shows. let h = c.in_ok-stepped.ensures.happens w shows in (c.in_ok-stepped.stepped, (h.0, h.1, h.2, c.has_carried.ensures))
