use Rattle.std.proofs.Common.{take, All}
use Rattle.update_check.specs.Signed.{IsChecked, IsUnder}
use Rattle.update_codec.specs.Parts.{body_of}
use Rattle.import_commands.proofs.taking.are_under.Given as goal

abbrev pub invariant-loop-update : goal.invariant-loop-update
invariant-loop-update l = record {
  is : All (λ bytes. IsUnder l.rule (body_of bytes)) (take l.update-index l.updates);
  checked : All (IsChecked l.rule) (take l.update-index l.updates);
}
