use Rattle.std.proofs.Common.{arith}
use Rattle.row_check.specs.Checksum.{is_luhn}
use Rattle.world_commands.proofs.Doing.{shown_length}
use Rattle.world_commands.proofs.reporting.push_world.Goals as goal

pub push_audit-requires : goal.push_audit-requires
push_audit-requires c =
    let counted = c.len.ensures in
    let whole = c.in_ok-replicas.replicas.ok.0 in
    let same = shown_length is_luhn c.args.world.now.sites c.in_ok-replicas.replicas.items c.in_ok-replicas.ensures in
    omega (arith, counted, whole, same)
