use Rattle.std.proofs.Common.{ℕ, ◌+◌, ◌≤◌, length}
use Rattle.text_words.specs.Lines.{lines_of}
use Rattle.schema_text.specs.declared.draft.Draft.{Draft}
use Rattle.schema_text.specs.declared.fault.SchemaKind.{SchemaKind}
use Rattle.schema_text.specs.Drafts.{start}
use Rattle.schema_text.specs.Schemas.{LeadOn, FaultIn}
use Rattle.schema_text.specs.Kept.{IsDraft}
use Rattle.schema_text.proofs.reading.take_lines.Given as goal

-- what the lines that are left lead to, or where they fail, all lines do
abbrev pub invariant-loop-line : goal.invariant-loop-line
invariant-loop-line g l = record {
  few : l.number + length l.rest ≤ 65537;
  sound : IsDraft l.draft;
  leads : (end : Draft) → LeadOn g.L.Relation.answer l.number l.draft (lines_of l.rest) end → LeadOn g.L.Relation.answer 1 start (lines_of l.text) end;
  fails : (kind : SchemaKind) (place : ℕ) → FaultIn g.L.Relation.answer l.number l.draft (lines_of l.rest) kind place → FaultIn g.L.Relation.answer 1 start (lines_of l.text) kind place;
}

abbrev pub decreases-loop-line : goal.decreases-loop-line
decreases-loop-line g l = length l.rest
