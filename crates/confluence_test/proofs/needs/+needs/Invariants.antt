use Rattle.std.proofs.Common.{◌≡◌, ◌+◌, ◌*◌, drop, length}
use Rattle.confluence_laws.specs.Examples.{need, needed_but, for_each}
use Rattle.confluence_test.specs.Plans.{AreOnce}
use Rattle.table_model.specs.Visible.{bare_rules}
use Rattle.confluence_test.proofs.needs.+needs.Given as goal

abbrev pub decreases-need : goal.decreases-need
decreases-need l = 2 * l.depth

abbrev pub decreases-need_all_but : goal.decreases-need_all_but
decreases-need_all_but l = 2 * l.depth + 1

abbrev pub invariant-need_all_but-loop-number : goal.invariant-need_all_but-loop-number
invariant-need_all_but-loop-number l = record {
  needed : for_each (need (bare_rules l.schema.tables) l.depth) (needed_but l.skip l.number (drop l.number l.columns)) l.chain
      ≡ for_each (need (bare_rules l.schema.tables) l.depth) (needed_but l.skip 0 l.columns) l.fn.chain;
  once : AreOnce (length l.schema.tables) l.chain;
}
