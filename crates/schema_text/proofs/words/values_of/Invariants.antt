use Rattle.std.proofs.Common.{◌≡◌, drop}
use Rattle.schema_text.specs.Forms.{values_of}
use Rattle.schema_text.proofs.SampleRows.{with_front}
use Rattle.schema_text.proofs.words.values_of.Given as goal

-- the values so far and those of the words that are left are those of all
abbrev pub invariant-loop-word : goal.invariant-loop-word
invariant-loop-word l = values_of l.words ≡ with_front l.values.items (values_of (drop l.word-index l.words))
