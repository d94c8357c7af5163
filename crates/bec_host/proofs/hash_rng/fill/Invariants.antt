use Rattle.std.proofs.Common.{◌≡◌, length, take}
use Rattle.rand_core.specs.Steps.{word_bytes}
use Rattle.bec_host.specs.HashStream.{next_byte, one_byte}
use Rattle.bec_host.proofs.hash_rng.fill.Given as goal

abbrev pub invariant-bytes : goal.invariant-bytes
invariant-bytes l = record {
  front : (take l.i l.bytes, l.rng) ≡ word_bytes one_byte next_byte l.i l.fn.rng;
  len : length l.bytes ≡ length l.fn.bytes;
}
