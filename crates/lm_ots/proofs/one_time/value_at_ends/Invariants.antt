use Rattle.std.proofs.Common.{◌≡◌, ◌++◌, take}
use Rattle.std.specs.Int.{w32, to_be_bytes}
use Rattle.sha2.specs.Hashers.{Holds256}
use Rattle.lm_ots.specs.Joined.{joined}
use Rattle.lm_ots.specs.OneTime.{end_from, public_tag}
use Rattle.lm_ots.proofs.one_time.value_at_ends.Given as goal

abbrev pub invariant-loop-i : goal.invariant-loop-i
invariant-loop-i l = record {
  leaf : take 20 l.message.bytes ≡ l.ident ++ to_be_bytes w32 l.q;
  ends : Holds256 l.hasher (l.ident ++ to_be_bytes w32 l.q ++ public_tag ++ joined (λ i. end_from l.kind l.ident l.q l.digits l.sig i) l.i);
}
