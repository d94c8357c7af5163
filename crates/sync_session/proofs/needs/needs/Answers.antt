use Rattle.std.proofs.Common.{◌≤◌, map, length, arith}
use Rattle.std.specs.BTreeMap.{keys as keys_in}
use Rattle.std.specs.BTreeSet.{keys}
use Rattle.session_rules.specs.declared.limits.TheConstants.{MAX_NEEDS}
use Rattle.update_codec.specs.Parts.{entry_of}
use Rattle.sync_session.proofs.Wanting.{least_all, least_full, none_left, rest_of_none, rest_sought}
use Rattle.sync_session.proofs.needs.needs.Goals as goal

pub returns-in_default-clause-least : goal.returns-in_default-clause-least
returns-in_default-clause-least g c =
    least_all c.args.heads.now (map entry_of (g.H.Holder.members c.args.holder.now)) c.args.pending.now (keys c.args.asked.now) (keys_in c.args.sought.now) c.least.ids.items (keys_in c.least.sought)
    c.requires.settled c.requires.sought c.least.invariant.split c.len.ensures.ordered c.least.invariant.few (none_left c.least.sought c.pop_first.result c.in_default.is c.pop_first.ensures.variant)

pub returns-in_default-clause-left : goal.returns-in_default-clause-left
returns-in_default-clause-left g c =
    rest_of_none c.args.heads.now (map entry_of (g.H.Holder.members c.args.holder.now)) c.args.pending.now (keys c.args.asked.now) (keys_in c.args.sought.now) c.least.ids.items (keys_in c.least.sought)
    c.requires.settled c.requires.sought c.least.invariant.split (keys_in c.pop_first.new.self) (none_left c.least.sought c.pop_first.result c.in_default.is c.pop_first.ensures.variant)

pub returns-clause-least : goal.returns-clause-least
returns-clause-least g c =
    let enough : MAX_NEEDS ≤ length c.least.ids.items = omega (arith, c.least-test.false, c.len-in-least.ensures) in
    least_full c.args.heads.now (map entry_of (g.H.Holder.members c.args.holder.now)) c.args.pending.now (keys c.args.asked.now) (keys_in c.args.sought.now) c.least.ids.items (keys_in c.least.sought)
    c.requires.settled c.requires.sought c.least.invariant.split c.len.ensures.ordered c.least.invariant.few enough

pub returns-clause-left : goal.returns-clause-left
returns-clause-left g c =
    rest_sought c.args.heads.now (map entry_of (g.H.Holder.members c.args.holder.now)) c.args.pending.now (keys c.args.asked.now) (keys_in c.args.sought.now) c.least.ids.items (keys_in c.least.sought)
    c.requires.settled c.requires.sought c.least.invariant.split
