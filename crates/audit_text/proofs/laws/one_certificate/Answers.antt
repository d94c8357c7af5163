use Rattle.audit_text.proofs.TwoRecords.{one_double}
use Rattle.audit_text.proofs.laws.one_certificate.Goals as goal

pub returns : goal.returns
returns c bytes key other index number one two = one_double bytes key other index number one two
