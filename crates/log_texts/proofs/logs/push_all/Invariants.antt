use Rattle.std.proofs.Common.{◌≡◌, ◌++◌, take}
use Rattle.std.specs.List.{flat_map}
use Rattle.log_texts.specs.Lines.{asked_ops, lines_text}
use Rattle.log_texts.proofs.logs.push_all.Given as goal

-- the entries so far
abbrev pub invariant-loop-entry : goal.invariant-loop-entry
invariant-loop-entry l = l.out.items ≡ l.fn.out.items ++ flat_map (λ entry. lines_text l.names l.schema.tables entry.note (asked_ops l.rows entry) entry) (take l.entry-index l.entries)
