use Rattle.std.proofs.Common.{◌≡◌, drop}
use Rattle.confluence_test.specs.Findings.{refused_by}
use Rattle.confluence_test.proofs.Scans.{references_from}
use Rattle.confluence_test.proofs.scanning.refused_reference.Given as goal

abbrev pub invariant-loop-place : goal.invariant-loop-place
invariant-loop-place l = refused_by l.permanence (references_from l.number l.place (drop l.place l.columns)) ≡ refused_by l.permanence (references_from l.number 0 l.columns)
