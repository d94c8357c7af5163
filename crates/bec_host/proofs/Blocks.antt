-- 32 bytes from the start of a block are that block.
use Rattle.std.proofs.Common.{◌≡◌, ◌∙◌, ◌+◌, ◌%◌, ◌^◌, ◌<◌, ◌==◌, ℕ, zero, suc, List, false, length, take, ap, refl, subst, sym, arith, add-one, slice_index}
use Rattle.std.proofs.lemmas.Bool.Decides.{nat_tests}
use Rattle.std.proofs.lemmas.List.{take_all, take_more}
use Rattle.rand_core.specs.Stream.{fill_bytes}
use Rattle.rand_core.specs.Steps.{stream_of, word_bytes}
use Rattle.rand_core.proofs.StepsLemmas.{fill_bytes-stream_of, word_bytes_more}
use Rattle.sha2.proofs.Facts256.{length-sha256}
use Rattle.bec_host.specs.HashStream.{HashState, block_bytes, hash_steps, next_byte, one_byte}

one_more : (s : HashState) (k : ℕ) → k + 1 < 32 → (slice_index (block_bytes s.key s.number) k, record s { used = k + 1 }) ≡ next_byte (record s { used = k })
one_more s k below =
    let no : (k + 1 == 32) ≡ false = grind (arith, nat_tests, below) in
    rw no refl

-- the first k bytes of a block
front : (s : HashState) (k : ℕ) → k < 32 → s.used ≡ 0
    → (take k (block_bytes s.key s.number), record s { used = k }) ≡ word_bytes one_byte next_byte k s
unfolding word_bytes
front s zero below start = ap (λ (used : ℕ). (take 0 (block_bytes s.key s.number), record s { used = used })) (sym start)
front s (suc k) below start =
    let block = block_bytes s.key s.number in
    let fits : k < length block = rw (length-sha256 _) (omega arith) in
    let more = word_bytes_more one_byte next_byte k s (record s { used = k }) (record s { used = k + 1 }) (take k block) (slice_index block k)
    (front s k (omega arith) start) (one_more s k (omega arith)) in
    let whole = rw (← take_more block k 0 fits) at more in
    subst (λ (n : ℕ). (take n block, record s { used = n }) ≡ word_bytes one_byte next_byte n s) (add-one k) whole

-- the next 32 bytes from the start of a block are the block, and the next block follows
pub next_block : (s : HashState) → s.used ≡ 0
    → fill_bytes 32 (stream_of hash_steps s) ≡ (block_bytes s.key s.number, stream_of hash_steps (record s { number = (s.number + 1) % 2 ^ 64; used = 0 }))
next_block s start =
    let block = block_bytes s.key s.number in
    let fits : 31 < length block = rw (length-sha256 _) (omega arith) in
    let more = word_bytes_more one_byte next_byte 31 s (record s { used = 31 }) (record s { number = (s.number + 1) % 2 ^ 64; used = 0 }) (take 31 block) (slice_index block 31)
    (front s 31 (omega arith) start) refl in
    let all = rw (← take_more block 31 0 fits) at more in
    let exact = rw (take_all 32 block (rw (length-sha256 _) (omega arith))) at all in
    fill_bytes-stream_of hash_steps 32 s ∙ ap (λ (p : List ℕ × HashState). (p.0, stream_of hash_steps p.1)) (sym exact)
