use Rattle.std.proofs.Common.{◌≡◌, take, None}
use Rattle.std.specs.Prelude.{option_map, filter}
use Rattle.std.specs.BTreeMap.{get}
use Rattle.key_audit.specs.Walk.{is_by, one_time_cmp, pair_data}
use Rattle.key_audit.specs.Pairs.{pair_after}
use Rattle.key_audit.specs.declared.one_time.OneTime.{OneTime}
use Rattle.key_audit.proofs.walk.find_pairs.Given as goal

-- what is found of the updates so far
abbrev pub invariant-loop-position : goal.invariant-loop-position
invariant-loop-position g l = (key : OneTime) → option_map pair_data (get one_time_cmp l.found key) ≡ pair_after None (filter (is_by key) (take l.position (g.H.Holder.members l.holder)))
