use Rattle.std.proofs.Common.{◌≡◌, ◌+◌, ◌*◌, ◌++◌, take}
use Rattle.std.specs.Int.{w32, to_be_bytes}
use Rattle.lm_ots.specs.OtsKind.{type_word, width}
use Rattle.lm_ots.specs.Digits.{coef}
use Rattle.lm_ots.specs.Joined.{joined}
use Rattle.lm_ots.specs.OneTime.{private_value}
use Rattle.lm_ots.proofs.one_time.sign.Given as goal

abbrev pub invariant-loop-i : goal.invariant-loop-i
invariant-loop-i l = record {
  leaf : take 20 l.message.bytes ≡ l.ident ++ to_be_bytes w32 l.q;
  written : take (36 + 32 * l.i) l.out ≡ to_be_bytes w32 (type_word l.kind) ++ l.c ++ joined (λ i. private_value l.ident l.q l.start i (coef l.digits i (width l.kind))) l.i;
}
