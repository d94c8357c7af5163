use Rattle.std.proofs.Common.{subst}
use Rattle.byzantine_world.specs.Taking.{CanRead, view_from}
use Rattle.byzantine_world.proofs.talk.Both.read.Goals as goal

pub read_frame-requires : goal.read_frame-requires
read_frame-requires c reader =
    let r = subst (λ b. CanRead c.args.site.now (view_from b c.args.self.now)) c.if-forward.true c.requires in
    record { sound = r.sound; members = r.members; arriving = r.arriving; there = r.there }

pub read_frame-requires-else-forward : goal.read_frame-requires-else-forward
read_frame-requires-else-forward c reader =
    let r = subst (λ b. CanRead c.args.site.now (view_from b c.args.self.now)) c.if-forward.false c.requires in
    record { sound = r.sound; members = r.members; arriving = r.arriving; there = r.there }
