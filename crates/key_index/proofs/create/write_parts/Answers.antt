use Rattle.std.proofs.Common.{refl, inr, arith}
use Rattle.key_index.specs.KeyState.{parts_of}
use Rattle.key_index.proofs.CreateLaws.{used_failed}
use Rattle.key_index.proofs.create.write_parts.Goals as goal

pub returns-in_err-replace : goal.returns-in_err-replace
returns-in_err-replace g c =
    used_failed c.args.payload.now _ (parts_of g.D.Disk.state g.D.Counted.faults c.args.key.now c.args.used.now) (parts_of g.D.Disk.state g.D.Counted.faults c.args.key.now c.replace.new.disk)
    _ c.from_residual.ensures.0 c.requires.settled refl c.in_err-replace.ensures.disk (record { key_later = omega arith; used_later = c.in_err-replace.ensures.cause.later }) (inr c.in_err-replace.ensures.cause.failed)
