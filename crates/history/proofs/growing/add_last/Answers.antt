use Rattle.history.proofs.growing.add_last.Goals as goal

pub returns-in-Ok-New : goal.returns-in-Ok-New
returns-in-Ok-New c = record { added = rw c.in-Ok-New.field-0-is at c.in-Ok-New.ensures.list; same = tt }

pub returns-in-Ok-Known : goal.returns-in-Ok-Known
returns-in-Ok-Known c = record { added = tt; same = rw c.in-Ok-Known.field-0-is at c.in-Ok-Known.ensures.list }
