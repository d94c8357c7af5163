use Rattle.audit_text.proofs.TwoRecords.{held_short}
use Rattle.audit_text.proofs.laws.certificates_are_short.Goals as goal

pub returns : goal.returns
returns c bytes key index held = held_short bytes key index held
