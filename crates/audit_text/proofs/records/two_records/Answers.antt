use Rattle.audit_text.proofs.TwoRecords.{empty_is, more_behind, none_first, none_second, some_is, two_are}
use Rattle.audit_text.proofs.records.two_records.Goals as goal

pub returns-in_err-first : goal.returns-in_err-first
returns-in_err-first c = rw c.from_residual.ensures (none_first c.args.bytes.now c.in_err-first.ensures)

pub returns-in_err-second : goal.returns-in_err-second
returns-in_err-second c =
    rw c.from_residual-in_err-second.ensures (none_second c.args.bytes.now c.in_ok-first.first.now c.in_ok-first.behind.now c.in_ok-first.ensures c.in_err-second.ensures)

pub returns-then-is_empty : goal.returns-then-is_empty
returns-then-is_empty c =
    two_are c.args.bytes.now c.in_ok-first.first.now c.in_ok-second.second.now c.in_ok-first.behind.now c.in_ok-second.rest.now c.in_ok-first.ensures c.in_ok-second.ensures
    (empty_is c.in_ok-second.rest.now c.is_empty.result c.is_empty.ensures c.if-is_empty.true)

pub returns-else-is_empty : goal.returns-else-is_empty
returns-else-is_empty c =
    more_behind c.args.bytes.now c.in_ok-first.first.now c.in_ok-second.second.now c.in_ok-first.behind.now c.in_ok-second.rest.now c.in_ok-first.ensures c.in_ok-second.ensures
    (some_is c.in_ok-second.rest.now c.is_empty.result c.is_empty.ensures c.if-is_empty.false)
