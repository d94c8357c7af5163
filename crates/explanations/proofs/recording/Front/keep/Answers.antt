use Rattle.std.proofs.Common.{rules, ◌≡◌, ◌-◌, length, take}
use Rattle.explanations.proofs.KeptFronts.{front_after}
use Rattle.explanations.proofs.recording.Front.keep.Goals as goal

pub returns-clause-kept : goal.returns-clause-kept
returns-clause-kept c given front =
    let some : c.front_of.result.now ≡ take (c.args.self.now.limit - length c.args.self.now.kept.items) c.args.bytes.now = search rules in
    front_after c.extend_from_slice-kept.result c.args.self.now.limit c.args.self.now.is_over c.is_err-self.result c.args.self.now.kept.items c.front_of.result.now c.extend_from_slice-kept.new.self.items given c.args.bytes.now
    c.if-self.false c.is_err-self.ensures.value some c.extend_from_slice-kept.ensures.items front
