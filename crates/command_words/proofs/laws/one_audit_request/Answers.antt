use Rattle.command_words.proofs.AuditRules.{one_only}
use Rattle.command_words.proofs.laws.one_audit_request.Goals as goal

pub returns : goal.returns
returns c = one_only
