use Rattle.bec_node.proofs.Ending.{lent_short}
use Rattle.bec_node.proofs.alone.outcome_of.Goals as goal

pub returns-in-Export : goal.returns-in-Export
returns-in-Export g c = rw c.in-Export.is c.open_and_work-in-Export.ensures

pub returns-in-Query : goal.returns-in-Query
returns-in-Query g c = rw c.in-Query.is c.open_and_work-in-Query.ensures

pub open_and_work-requires-clause-short : goal.open_and_work-requires-clause-short
open_and_work-requires-clause-short g c = lent_short (λ note. note.now) c.in-Apply.note (rw c.in-Apply.is at c.requires.short)

pub returns-in-Notes : goal.returns-in-Notes
returns-in-Notes g c = rw c.in-Notes.is c.open_and_work-in-Notes.ensures
