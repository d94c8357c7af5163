use Rattle.std.proofs.Common.{◌≡◌, ◌+◌, ◌≤◌, drop}
use Rattle.query.specs.Pieces.{spot_after}
use Rattle.query.proofs.pieces.spot_after.Given as goal

-- what the bytes that are left add, all bytes come to
abbrev pub invariant-loop-byte : goal.invariant-loop-byte
invariant-loop-byte l = record {
  place : spot_after l.line l.column (drop l.byte-index l.bytes) ≡ spot_after 1 1 l.bytes;
  few_lines : l.line ≤ l.byte-index + 1;
  few_columns : l.column ≤ l.byte-index + 1;
}
