-- Reading gives back what was spelled.
use Rattle.std.proofs.Common.{◌≡◌, ℕ, ◌^◌, ◌<◌, ◌≤◌, Bool, true, false, List, [], ◌∷◌, ◌++◌, length, refl, ap, subst, arith, append_assoc, ltb, leb, eqb, ◌||◌}
use Rattle.std.proofs.Math.Seq.{take-append_seam, drop-append_seam}
use Rattle.std.proofs.lemmas.List.{length-append, append-nil}
use Rattle.std.proofs.lemmas.Bool.{le-ltb, le-leb, eq-eqb}
use Rattle.std.proofs.lemmas.Nat.{from_be_bytes-to_be_bytes_2, from_be_bytes-to_be_bytes_4}
use Rattle.std.specs.Prelude.{Some, None, Option, not, IsTrue}
use Rattle.std.specs.Int.{Width, w16, w32, to_be_bytes}
use Rattle.std.specs.List.Sorted.{IsStrictlySortedBy}
use Rattle.update_model.specs.declared.update_id.UpdateId.{UpdateId}
use Rattle.update_model.specs.Entry.{id_cmp}
use Rattle.update_model.specs.Form.{AreRising}
use Rattle.sync_frames.specs.Payload.{HelloData, TurnData, IsHello, IsTurn, HasBlocks, AreIds, spelled_ids, counted, flag}
use Rattle.sync_frames.specs.Reading.{block_at, number_at, id_at, ids_at, is_next, counted_at, filter_at, hello_in, turn_in, flag_of}
use Rattle.sync_frames.proofs.Steps.{then_is, judge_is, guard_is}
use Rattle.sync_frames.proofs.Rising.{rising_from_sorted}

block_again : (n : ℕ) (block rest : List ℕ) → length block ≡ n → block_at n (block ++ rest) ≡ Some (block, rest)
block_again n block rest e = subst (λ (k : ℕ). block_at k (block ++ rest) ≡ Some (block, rest)) e (whole_block block rest)
  where
    pair : (a b c d : List ℕ) → a ≡ c → b ≡ d → (let x : List ℕ × List ℕ = (a, b) in x) ≡ (c, d)
    pair a b c d p q = cc

    whole_block : (block rest : List ℕ) → block_at (length block) (block ++ rest) ≡ Some (block, rest)
    whole_block block rest = guard_is (ltb (length (block ++ rest)) (length block)) _ (block, rest) (le-ltb _ _ (omega (arith, length-append block rest))) (pair _ _ block rest (take-append_seam block rest) (drop-append_seam block rest))

u16_again : (n : ℕ) (rest : List ℕ) → n < 2 ^ 16 → number_at w16 (to_be_bytes w16 n ++ rest) ≡ Some (n, rest)
u16_again n rest h = guard_is (ltb (length (to_be_bytes w16 n ++ rest)) 2) _ (n, rest) (le-ltb _ _ (omega arith)) (ap (λ (k : ℕ). (let x : ℕ × List ℕ = (k, rest) in x)) (from_be_bytes-to_be_bytes_2 n h))

u32_again : (n : ℕ) (rest : List ℕ) → n < 2 ^ 32 → number_at w32 (to_be_bytes w32 n ++ rest) ≡ Some (n, rest)
u32_again n rest h = guard_is (ltb (length (to_be_bytes w32 n ++ rest)) 4) _ (n, rest) (le-ltb _ _ (omega arith)) (ap (λ (k : ℕ). (let x : ℕ × List ℕ = (k, rest) in x)) (from_be_bytes-to_be_bytes_4 n h))

id_again : (id : UpdateId) (rest : List ℕ) → length id.0 ≡ 32 → id_at (id.0 ++ rest) ≡ Some (id, rest)
unfolding id_at
id_again id rest is = then_is (block_at 32 (id.0 ++ rest)) _ (id.0, rest) _ (block_again 32 id.0 rest is) refl

-- the first of ids that rise, and the others
next_rises : (last : Option UpdateId) (id : UpdateId) (ids : List UpdateId) → AreRising last (id ∷ ids) → (is_next last id ≡ true) × AreRising (Some id) ids
next_rises None id ids r = (refl, r)
next_rises (Some last) id ids r = (r.0, r.1)

ids_again : (ids : List UpdateId) (last : Option UpdateId) (rest : List ℕ) → AreIds ids → AreRising last ids → ids_at (length ids) last (spelled_ids ids ++ rest) ≡ Some (ids, rest)
unfolding ids_at
ids_again [] last rest are rise = refl
ids_again (id ∷ ids) last rest are rise =
    let next = next_rises last id ids rise in
    rw (append_assoc id.0 (spelled_ids ids) rest)
    (then_is (id_at (id.0 ++ (spelled_ids ids ++ rest))) _ (id, spelled_ids ids ++ rest) _ (id_again id _ are.0)
    (judge_is (is_next last id) _ _ next.0
    (then_is (ids_at (length ids) (Some id) (spelled_ids ids ++ rest)) _ (ids, rest) _ (ids_again ids (Some id) rest are.1 next.1) refl)))

counted_again : (w : Width) (most : ℕ) (ids : List UpdateId) (rest : List ℕ) → ((tail : List ℕ) → number_at w (to_be_bytes w (length ids) ++ tail) ≡ Some (length ids, tail))
    → length ids ≤ most → AreIds ids → IsStrictlySortedBy id_cmp ids → counted_at w most (counted w ids ++ rest) ≡ Some (ids, rest)
unfolding counted_at
counted_again w most ids rest number few are sorted =
    rw (append_assoc (to_be_bytes w (length ids)) (spelled_ids ids) rest)
    (then_is (number_at w (to_be_bytes w (length ids) ++ (spelled_ids ids ++ rest))) _ (length ids, spelled_ids ids ++ rest) _ (number (spelled_ids ids ++ rest))
    (judge_is (leb (length ids) most) _ _ (le-leb _ _ few) (ids_again ids None rest are (rising_from_sorted ids sorted))))

counted16_again : (ids : List UpdateId) (rest : List ℕ) → length ids ≤ 4096 → AreIds ids → IsStrictlySortedBy id_cmp ids → counted_at w16 4096 (counted w16 ids ++ rest) ≡ Some (ids, rest)
counted16_again ids rest few are sorted = counted_again w16 4096 ids rest (λ tail. u16_again (length ids) tail (omega arith)) few are sorted

counted32_again : (ids : List UpdateId) (rest : List ℕ) → length ids ≤ 131072 → AreIds ids → IsStrictlySortedBy id_cmp ids → counted_at w32 131072 (counted w32 ids ++ rest) ≡ Some (ids, rest)
counted32_again ids rest few are sorted = counted_again w32 131072 ids rest (λ tail. u32_again (length ids) tail (omega arith)) few are sorted

filter_again : (filter : List ℕ) → length filter ≤ 163840 → filter_at (to_be_bytes w32 (length filter) ++ filter) ≡ Some (filter, [])
unfolding filter_at
filter_again filter small =
    then_is (number_at w32 (to_be_bytes w32 (length filter) ++ filter)) _ (length filter, filter) _ (u32_again (length filter) filter (omega arith))
    (judge_is (leb (length filter) 163840) _ _ (le-leb _ _ small)
    (subst (λ (b : List ℕ). block_at (length filter) b ≡ Some (filter, [])) (append-nil filter) (block_again (length filter) filter [] refl)))

-- what is spelled behind the version of a Hello
abbrev pub behind_version : HelloData → List ℕ
behind_version hello = hello.database ++ (hello.node ++ (counted w32 hello.heads ++ (counted w16 hello.old ++ (to_be_bytes w32 (length hello.filter) ++ hello.filter))))

pub hello_again : (hello : HelloData) → IsHello hello → HasBlocks hello → hello_in (behind_version hello) ≡ Some hello
unfolding hello_in
hello_again hello is blocks =
    let filter : List ℕ = to_be_bytes w32 (length hello.filter) ++ hello.filter in
    let old : List ℕ = counted w16 hello.old ++ filter in
    let heads : List ℕ = counted w32 hello.heads ++ old in
    then_is (block_at 32 (hello.database ++ (hello.node ++ heads))) _ (hello.database, hello.node ++ heads) _ (block_again 32 hello.database (hello.node ++ heads) blocks.database)
    (then_is (block_at 32 (hello.node ++ heads)) _ (hello.node, heads) _ (block_again 32 hello.node heads blocks.node)
    (then_is (counted_at w32 131072 heads) _ (hello.heads, old) _ (counted32_again hello.heads old is.few_heads blocks.heads is.heads)
    (then_is (counted_at w16 4096 old) _ (hello.old, filter) _ (counted16_again hello.old filter is.few_old blocks.old is.old)
    (then_is (filter_at filter) _ (hello.filter, []) _ (filter_again hello.filter is.small) refl))))

flag_again : (have : Bool) → flag_of (flag have) ≡ Some have
flag_again true = refl
flag_again false = refl

none_needed : (have : Bool) (needs : List UpdateId) → (IsTrue have → needs ≡ []) → (not have || eqb (length needs) 0) ≡ true
none_needed true needs none = eq-eqb (length needs) 0 (ap (λ (ids : List UpdateId). length ids) (none refl))
none_needed false needs none = refl

pub turn_again : (turn : TurnData) → IsTurn turn → AreIds turn.needs → turn_in (flag turn.have ∷ counted w16 turn.needs) ≡ Some turn
unfolding turn_in
turn_again turn is are =
    then_is (flag_of (flag turn.have)) _ turn.have _ (flag_again turn.have)
    (then_is (counted_at w16 4096 (counted w16 turn.needs)) _ (turn.needs, []) _
    (subst (λ (b : List ℕ). counted_at w16 4096 b ≡ Some (turn.needs, [])) (append-nil (counted w16 turn.needs)) (counted16_again turn.needs [] is.few are is.rising))
    (judge_is (not turn.have || eqb (length turn.needs) 0) _ _ (none_needed turn.have turn.needs is.none) refl))
