use Rattle.std.proofs.Common.{rules, ◌≡◌, ◌<◌, ◌≤◌, ℕ, length, subst, refl, arith}
use Rattle.std.proofs.lemmas.List.{take_all, take_more_set}
use Rattle.rand_core.specs.Steps.{word_bytes}
use Rattle.rand_core.proofs.StepsLemmas.{word_bytes_more}
use Rattle.bec_host.specs.HashStream.{next_byte, one_byte}
use Rattle.bec_host.proofs.hash_rng.fill.Goals as goal

pub bytes-init : goal.bytes-init
unfolding word_bytes
bytes-init c = record { front = refl; len = refl }

pub bytes-preserved : goal.bytes-preserved
bytes-preserved c =
    let more = word_bytes_more one_byte next_byte _ _ _ _ _ _ c.bytes.invariant.front c.next_word.ensures in
    let below : c.bytes.i < length c.bytes.bytes = omega arith in
    record {
      front = rw (take_more_set c.bytes.bytes c.bytes.i c.next_word.result below) more;
      len = search rules;
    }

pub returns : goal.returns
returns c =
    let all : length c.bytes.bytes ≤ c.bytes.i = omega arith in
    let done : c.bytes.i ≡ length c.args.bytes.now = omega arith in
    let whole = rw (take_all c.bytes.i c.bytes.bytes all) at c.bytes.invariant.front in
    subst (λ (n : ℕ). (c.bytes.bytes, c.bytes.rng) ≡ word_bytes one_byte next_byte n c.args.rng.now) done whole
