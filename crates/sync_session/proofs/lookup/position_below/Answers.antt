use Rattle.std.proofs.Common.{sym, map}
use Rattle.update_codec.specs.Parts.{entry_of}
use Rattle.sync_session.proofs.Searching.{here_in_front, past_front, none_in_front}
use Rattle.sync_session.proofs.lookup.position_below.Goals as goal

pub returns-in-Some : goal.returns-in-Some
returns-in-Some g c =
    let graph = map entry_of (g.H.Holder.members c.args.holder.now) in
    sym (here_in_front graph c.args.id.now c.args.below c.in-Some.position (sym c.in-Some.ensures) c.if-position-below.true)

pub returns-in_default : goal.returns-in_default
returns-in_default g c =
    let graph = map entry_of (g.H.Holder.members c.args.holder.now) in
    sym (past_front graph c.args.id.now c.args.below c.in-Some.position (sym c.in-Some.ensures) c.if-position-below.false)

pub returns-in_default-2 : goal.returns-in_default-2
returns-in_default-2 g c =
    let graph = map entry_of (g.H.Holder.members c.args.holder.now) in
    sym (none_in_front graph c.args.id.now c.args.below (sym c.in_default.ensures))
