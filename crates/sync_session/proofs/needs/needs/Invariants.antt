use Rattle.std.proofs.Common.{◌≡◌, ◌≤◌, ◌++◌, filter, length, map}
use Rattle.std.specs.BTreeMap.{keys as keys_in}
use Rattle.std.specs.BTreeSet.{keys}
use Rattle.session_rules.specs.declared.limits.TheConstants.{MAX_NEEDS}
use Rattle.session_rules.specs.Steps.{is_wanted}
use Rattle.update_codec.specs.Parts.{entry_of}
use Rattle.sync_session.proofs.needs.needs.Given as goal

abbrev pub invariant-least : goal.invariant-least
invariant-least g l =
    let wanted = is_wanted l.fn.heads (map entry_of (g.H.Holder.members l.fn.holder)) (map entry_of l.fn.pending.waiting) (keys l.fn.asked) in
    record {
      few : length l.ids.items ≤ MAX_NEEDS;
      split : l.ids.items ++ filter wanted (keys_in l.sought) ≡ filter wanted (keys_in l.fn.sought);
    }

abbrev pub decreases-least : goal.decreases-least
decreases-least g l = length (keys_in l.sought)
