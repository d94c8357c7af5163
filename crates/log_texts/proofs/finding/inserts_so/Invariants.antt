use Rattle.std.proofs.Common.{◌≡◌, drop}
use Rattle.log_texts.specs.Finding.{inserts_so}
use Rattle.log_texts.proofs.finding.inserts_so.Given as goal

-- what is left of the operations from here on
abbrev pub invariant-loop-number : goal.invariant-loop-number
invariant-loop-number l = inserts_so l.digits 0 l.ops ≡ inserts_so l.digits l.number (drop l.number l.ops)
