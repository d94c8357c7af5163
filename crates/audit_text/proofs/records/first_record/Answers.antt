use Rattle.audit_text.proofs.TwoRecords.{first_split, too_short}
use Rattle.audit_text.proofs.records.first_record.Goals as goal

pub returns-in_err-prefix : goal.returns-in_err-prefix
returns-in_err-prefix c = rw c.from_residual.ensures (too_short c.args.bytes.now c.in_err-prefix.ensures.cases)

pub returns : goal.returns
returns c =
    let cut = c.in_ok-prefix.ensures.cases in
    first_split c.args.bytes.now c.in_ok-prefix.prefix.now c.in_ok-prefix.behind.now c.length_of-size.result c.split_at_checked-2.result (λ p. p.0.now) (λ p. p.1.now)
    cut.1 cut.2 cut.3 c.length_of-size.ensures c.length_of-size.type_inv c.split_at_checked-2.ensures.cases
