use Rattle.command_words.proofs.AuditRules.{are_by_rule}
use Rattle.command_words.proofs.laws.audit_requests_are_by_rule.Goals as goal

pub returns : goal.returns
returns c = are_by_rule
