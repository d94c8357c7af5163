-- Reading a field of fixed size gives back what was spelled, and leaves what stands behind it.
use Rattle.std.proofs.Common.{◌≡◌, ℕ, ◌^◌, ◌<◌, ◌≤◌, true, List, ◌++◌, length, refl, ap, subst, arith, append_assoc, ltb, leb, ◌&&◌}
use Rattle.std.proofs.Math.Seq.{take-append_seam, drop-append_seam}
use Rattle.std.proofs.lemmas.List.{length-append}
use Rattle.std.proofs.lemmas.Bool.{le-ltb}
use Rattle.std.proofs.lemmas.Bool.Decides.{nat_tests}
use Rattle.std.proofs.lemmas.Nat.{from_be_bytes-to_be_bytes_2, from_be_bytes-to_be_bytes_4, from_be_bytes-to_be_bytes_8}
use Rattle.std.specs.Prelude.{Ok}
use Rattle.std.specs.Int.{w16, w32, w64, to_be_bytes}
use Rattle.update_model.specs.declared.update_id.UpdateId.{UpdateId}
use Rattle.update_model.specs.declared.author_key.AuthorKey.{AuthorKey}
use Rattle.update_model.specs.declared.row_name.RowName.{RowName}
use Rattle.update_model.specs.Block.{IsId}
use Rattle.update_model.specs.Form.{IsKey}
use Rattle.update_model.specs.Rows.{IsRowName}
use Rattle.update_codec.specs.declared.codec_fault.CodecKind.TheVariants.{KeyType}
use Rattle.update_codec.specs.Reading.{block_at, number_at, id_at, row_at, author_at}
use Rattle.update_codec.specs.Spelling as spell
use Rattle.update_codec.proofs.Steps.{then_is, judge_is, guard_is}

pub block_again : (n : ℕ) (block rest : List ℕ) → length block ≡ n → block_at n (block ++ rest) ≡ Ok (block, rest)
block_again n block rest e = subst (λ (k : ℕ). block_at k (block ++ rest) ≡ Ok (block, rest)) e (whole_block block rest)
  where
    pair : (a b c d : List ℕ) → a ≡ c → b ≡ d → (let x : List ℕ × List ℕ = (a, b) in x) ≡ (c, d)
    pair a b c d p q = cc

    whole_block : (block rest : List ℕ) → block_at (length block) (block ++ rest) ≡ Ok (block, rest)
    whole_block block rest = guard_is (ltb (length (block ++ rest)) (length block)) _ (block, rest) (le-ltb _ _ (omega (arith, length-append block rest))) (pair _ _ block rest (take-append_seam block rest) (drop-append_seam block rest))

pub u16_again : (n : ℕ) (rest : List ℕ) → n < 2 ^ 16 → number_at w16 (to_be_bytes w16 n ++ rest) ≡ Ok (n, rest)
u16_again n rest h = guard_is (ltb (length (to_be_bytes w16 n ++ rest)) 2) _ (n, rest) (le-ltb _ _ (omega arith)) (ap (λ (k : ℕ). (let x : ℕ × List ℕ = (k, rest) in x)) (from_be_bytes-to_be_bytes_2 n h))

pub u32_again : (n : ℕ) (rest : List ℕ) → n < 2 ^ 32 → number_at w32 (to_be_bytes w32 n ++ rest) ≡ Ok (n, rest)
u32_again n rest h = guard_is (ltb (length (to_be_bytes w32 n ++ rest)) 4) _ (n, rest) (le-ltb _ _ (omega arith)) (ap (λ (k : ℕ). (let x : ℕ × List ℕ = (k, rest) in x)) (from_be_bytes-to_be_bytes_4 n h))

pub u64_again : (n : ℕ) (rest : List ℕ) → n < 2 ^ 64 → number_at w64 (to_be_bytes w64 n ++ rest) ≡ Ok (n, rest)
u64_again n rest h = guard_is (ltb (length (to_be_bytes w64 n ++ rest)) 8) _ (n, rest) (le-ltb _ _ (omega arith)) (ap (λ (k : ℕ). (let x : ℕ × List ℕ = (k, rest) in x)) (from_be_bytes-to_be_bytes_8 n h))

pub id_again : (id : UpdateId) (rest : List ℕ) → IsId id → id_at (spell.id id ++ rest) ≡ Ok (id, rest)
unfolding id_at
id_again id rest is = then_is (block_at 32 (id.0 ++ rest)) _ (id.0, rest) _ (block_again 32 id.0 rest is.len) refl

pub within : (a b c : ℕ) → a ≤ b → b ≤ c → (leb a b && leb b c) ≡ true
within a b c h k = grind (arith, nat_tests)

pub author_again : (key : AuthorKey) (rest : List ℕ) → IsKey key → author_at (to_be_bytes w32 key.lms ++ (to_be_bytes w32 key.ots ++ (key.ident ++ (key.root ++ rest)))) ≡ Ok (key, rest)
unfolding author_at
author_again key rest is =
    then_is (number_at w32 (to_be_bytes w32 key.lms ++ (to_be_bytes w32 key.ots ++ (key.ident ++ (key.root ++ rest))))) _ (key.lms, to_be_bytes w32 key.ots ++ (key.ident ++ (key.root ++ rest))) _ (u32_again key.lms _ (small key.lms 7 (is.known.lms.1) (omega arith)))
    (judge_is (leb 5 key.lms && leb key.lms 7) KeyType (to_be_bytes w32 key.lms ++ (to_be_bytes w32 key.ots ++ (key.ident ++ (key.root ++ rest)))) _ _ (within 5 key.lms 7 is.known.lms.0 is.known.lms.1)
    (then_is (number_at w32 (to_be_bytes w32 key.ots ++ (key.ident ++ (key.root ++ rest)))) _ (key.ots, key.ident ++ (key.root ++ rest)) _ (u32_again key.ots _ (small key.ots 4 (is.known.ots.1) (omega arith)))
    (judge_is (leb 1 key.ots && leb key.ots 4) KeyType (to_be_bytes w32 key.ots ++ (key.ident ++ (key.root ++ rest))) _ _ (within 1 key.ots 4 is.known.ots.0 is.known.ots.1)
    (then_is (block_at 16 (key.ident ++ (key.root ++ rest))) _ (key.ident, key.root ++ rest) _ (block_again 16 key.ident _ is.ident.len)
    (then_is (block_at 32 (key.root ++ rest)) _ (key.root, rest) _ (block_again 32 key.root rest is.root.len) refl)))))
  where
    small : (n k : ℕ) → n ≤ k → k < 2 ^ 32 → n < 2 ^ 32
    small n k h g = omega arith

pub row_again : (row : RowName) (rest : List ℕ) → IsRowName row → row_at (spell.row row ++ rest) ≡ Ok (row, rest)
unfolding row_at
row_again row rest is =
    rw (append_assoc row.update.0 (to_be_bytes w16 row.index) rest)
    (then_is (id_at (row.update.0 ++ (to_be_bytes w16 row.index ++ rest))) _ (row.update, to_be_bytes w16 row.index ++ rest) _ (id_again row.update _ is.update)
    (then_is (number_at w16 (to_be_bytes w16 row.index ++ rest)) _ (row.index, rest) _ (u16_again row.index rest is.index) refl))
