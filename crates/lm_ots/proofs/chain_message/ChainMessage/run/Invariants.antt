use Rattle.std.proofs.Common.{◌≡◌, ◌-◌, take, drop}
use Rattle.lm_ots.specs.Chain.{stepped}
use Rattle.lm_ots.proofs.chain_message.ChainMessage.run.Given as goal

abbrev pub invariant-loop-j : goal.invariant-loop-j
invariant-loop-j l = record {
  chain : take 22 l.self.bytes ≡ take 22 l.initial.self.bytes;
  left : stepped (take 22 l.self.bytes) l.j (l.to - l.j) (drop 23 l.self.bytes) ≡ stepped (take 22 l.initial.self.bytes) l.from (l.to - l.from) (drop 23 l.initial.self.bytes);
}
