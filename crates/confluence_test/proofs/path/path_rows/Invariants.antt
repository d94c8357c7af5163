use Rattle.std.proofs.Common.{◌≡◌, ◌++◌, take, length, reverse}
use Rattle.confluence_laws.specs.Examples.{path_items}
use Rattle.table_model.specs.Visible.{bare_rules}
use Rattle.confluence_test.proofs.path.path_rows.Given as goal

abbrev pub invariant-loop-step : goal.invariant-loop-step
invariant-loop-step l = record {
  many : length l.rows.items ≡ l.step-index;
  made : reverse l.rows.items ++ l.shared ≡ path_items (bare_rules l.schema.tables) l.shared (reverse (take l.step-index l.back));
}
