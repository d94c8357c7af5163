use Rattle.std.proofs.Common.{sym, true, false}
use Rattle.sync_session.proofs.Faults.{due_fault_is, same_from_eq}
use Rattle.sync_session.proofs.reading.item_fault.Goals as goal

pub returns-then-eq-clause-fault : goal.returns-then-eq-clause-fault
returns-then-eq-clause-fault c =
    rw c.in-Answers.is (sym (due_fault_is c.in-Answers.due.items c.args.items c.args.id c.in-Some.first.now true c.in-Some.ensures.item.3.0 c.in-Some.ensures.lookup c.if-items-lt-MAX_ITEMS-2.true
    (same_from_eq c.in-Some.first.now c.args.id c.eq.result true c.eq.ensures c.if-eq.true)))

pub returns-else-eq-clause-fault : goal.returns-else-eq-clause-fault
returns-else-eq-clause-fault c =
    rw c.in-Answers.is (sym (due_fault_is c.in-Answers.due.items c.args.items c.args.id c.in-Some.first.now false c.in-Some.ensures.item.3.0 c.in-Some.ensures.lookup c.if-items-lt-MAX_ITEMS-2.true
    (same_from_eq c.in-Some.first.now c.args.id c.eq.result false c.eq.ensures c.if-eq.false)))
