use Rattle.std.proofs.Common.{◌≡◌, take}
use Rattle.audit_text.specs.Texts.{audit_text}
use Rattle.audit_text.proofs.lines.entries_text.Given as goal

abbrev pub invariant-loop-entry : goal.invariant-loop-entry
invariant-loop-entry l = l.text.items ≡ audit_text (take l.entry-index l.entries)
