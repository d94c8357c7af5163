use Rattle.std.proofs.Common.{◌≡◌, ◌≤◌, ◌++◌, length}
use Rattle.std.specs.BTreeSet.{keys}
use Rattle.session_rules.specs.declared.limits.TheConstants.{MAX_NEEDS}
use Rattle.sync_session.proofs.ids.least.Given as goal

abbrev pub invariant-loop-id : goal.invariant-loop-id
invariant-loop-id l = record {
  whole : l.ids.items ++ l.id-iterator ≡ keys l.all;
  few : length l.ids.items ≤ MAX_NEEDS;
}
