use Rattle.std.proofs.Common.{◌≡◌, ◌++◌, take}
use Rattle.std.specs.Int.{w32, to_be_bytes}
use Rattle.sha2.specs.Hashers.{Holds256}
use Rattle.lm_ots.specs.OtsKind.{greatest_digit}
use Rattle.lm_ots.specs.Joined.{joined}
use Rattle.lm_ots.specs.OneTime.{private_value, public_tag}
use Rattle.lm_ots.proofs.one_time.public_of.Given as goal

abbrev pub invariant-loop-i : goal.invariant-loop-i
invariant-loop-i l = record {
  leaf : take 20 l.message.bytes ≡ l.ident ++ to_be_bytes w32 l.q;
  ends : Holds256 l.hasher (l.ident ++ to_be_bytes w32 l.q ++ public_tag ++ joined (λ i. private_value l.ident l.q l.start i (greatest_digit l.fn.kind)) l.i);
}
