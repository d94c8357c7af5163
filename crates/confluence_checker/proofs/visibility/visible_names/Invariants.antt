use Rattle.confluence_checker.specs.Seeing.{SeesTo}
use Rattle.confluence_checker.proofs.visibility.visible_names.Given as goal

abbrev pub invariant-loop-depth : goal.invariant-loop-depth
invariant-loop-depth l = SeesTo l.schema.tables l.did l._depth l.seen.items
