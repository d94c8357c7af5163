use Rattle.std.proofs.Common.{◌≡◌, take}
use Rattle.log_texts.specs.Entries.{ids_of}
use Rattle.log_texts.proofs.entries.ids_of.Given as goal

-- the ids so far
abbrev pub invariant-loop-entry : goal.invariant-loop-entry
invariant-loop-entry l = l.ids.items ≡ ids_of (take l.entry-index l.entries)
