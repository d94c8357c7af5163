use Rattle.std.proofs.Common.{◌≡◌, take}
use Rattle.query.specs.Columns.{items_of}
use Rattle.query.proofs.item.items_of.Given as goal

-- what the words so far ask for
abbrev pub invariant-loop-word : goal.invariant-loop-word
invariant-loop-word l = l.items.items ≡ items_of l.schema.tables l.table (take l.word-index l.words)
