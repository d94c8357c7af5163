use Rattle.audit_text.proofs.TwoRecords.{certified_by, none_held}
use Rattle.audit_text.proofs.certificate.certified.Goals as goal

pub returns-in-Some : goal.returns-in-Some
returns-in-Some c = certified_by c.args.bytes.now c.in-Some.first.now c.in-Some.second.now c.confirms_doubled.result c.in-Some.ensures c.confirms_doubled.ensures

pub returns-in-None : goal.returns-in-None
returns-in-None c = none_held c.args.bytes.now c.in-None.ensures
