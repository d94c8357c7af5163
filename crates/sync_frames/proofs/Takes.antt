-- What the readers took from the front of the bytes is the spelling of their value.
use Rattle.std.proofs.Common.{◌≡◌, ℕ, zero, suc, ◌+◌, ◌≤◌, Bool, true, false, List, [], ◌∷◌, ◌++◌, length, take, drop, refl, sym, ap, subst, ◌∙◌, arith, append_assoc, ltb, leb, eqb, ◌||◌}
use Rattle.std.proofs.lemmas.List.{take-append-drop, length-take-le, get_or-drop, append-nil}
use Rattle.std.proofs.lemmas.Bool.{ltb-false, leb-true, eqb-true}
use Rattle.std.proofs.lemmas.Nat.{be_bytes_2, be_bytes_4}
use Rattle.std.specs.Prelude.{Some, None, Option, not, IsTrue}
use Rattle.std.specs.Int.{Width, w16, w32, to_be_bytes, from_be_bytes}
use Rattle.std.specs.List.Sorted.{IsStrictlySortedBy}
use Rattle.update_model.specs.declared.update_id.UpdateId.{UpdateId}
use Rattle.update_model.specs.Block.{AreBytes}
use Rattle.update_model.specs.Entry.{id_cmp}
use Rattle.update_model.specs.Form.{AreRising}
use Rattle.sync_frames.specs.Payload.{HelloData, TurnData, IsHello, IsTurn, HasBlocks, AreIds, spelled_ids, counted, hello_payload, turn_payload, flag}
use Rattle.sync_frames.specs.Reading.{byte_at, block_at, number_at, id_at, ids_at, is_next, counted_at, filter_at, hello_in, turn_in, flag_of}
use Rattle.sync_frames.proofs.Steps.{bind_some, judged, guard_ok, some_is}
use Rattle.sync_frames.proofs.Rising.{sorted_from_rising}

-- what a reader took from the front
pub record Takes (bytes text rest : List ℕ) : Type 0 where
  pub parts : bytes ≡ text ++ rest
  pub rest_fits : AreBytes rest

pub Takes-then : {a x b y c : List ℕ} → Takes a x b → Takes b y c → Takes a (x ++ y) c
Takes-then {a} {x} {b} {y} {c} p q = record { parts = p.parts ∙ ap (λ (t : List ℕ). x ++ t) q.parts ∙ sym (append_assoc x y c); rest_fits = q.rest_fits }

-- nothing yet
Takes-none : (bytes : List ℕ) → AreBytes bytes → Takes bytes [] bytes
Takes-none bytes fits = record { parts = refl; rest_fits = fits }

pub drop_fits : (n : ℕ) (bytes : List ℕ) → AreBytes bytes → AreBytes (drop n bytes)
drop_fits n bytes fits i = rw get_or-drop (fits (n + i))

pub take_fits : (n : ℕ) (bytes : List ℕ) → AreBytes bytes → AreBytes (take n bytes)
take_fits zero bytes fits i = omega arith
take_fits (suc n) [] fits i = omega arith
take_fits (suc n) (b ∷ bytes) fits zero = fits 0
take_fits (suc n) (b ∷ bytes) fits (suc i) = take_fits n bytes (λ j. fits (suc j)) i

block_parts : (n : ℕ) (bytes : List ℕ) → AreBytes bytes → n ≤ length bytes → Takes bytes (take n bytes) (drop n bytes) × (length (take n bytes) ≡ n)
block_parts n bytes fits h = (record { parts = sym (take-append-drop n bytes); rest_fits = drop_fits n bytes fits }, length-take-le n bytes h)

block_takes : (n : ℕ) (bytes : List ℕ) (x : List ℕ × List ℕ) → AreBytes bytes → block_at n bytes ≡ Some x → Takes bytes x.0 x.1 × (length x.0 ≡ n)
block_takes n bytes x fits e =
    let g = guard_ok (ltb (length bytes) n) (take n bytes, drop n bytes) x e in
    rw (← g.1) (block_parts n bytes fits (ltb-false (length bytes) n g.0))

-- what a reader of numbers takes
abbrev TakesNumbers : Width → Type 0
TakesNumbers w = (bytes : List ℕ) (x : ℕ × List ℕ) → AreBytes bytes → number_at w bytes ≡ Some x → Takes bytes (to_be_bytes w x.0) x.1

u16_takes : TakesNumbers w16
u16_takes bytes x fits e =
    let g = guard_ok (ltb (length bytes) 2) (from_be_bytes w16 (take 2 bytes), drop 2 bytes) x e in
    rw (← g.1) (whole (ltb-false (length bytes) 2 g.0))
  where
    whole : 2 ≤ length bytes → Takes bytes (to_be_bytes w16 (from_be_bytes w16 (take 2 bytes))) (drop 2 bytes)
    whole h =
        let p = block_parts 2 bytes fits h in
        rw (be_bytes_2 (take 2 bytes) (from_be_bytes w16 (take 2 bytes)) p.1 (take_fits 2 bytes fits) refl) p.0

u32_takes : TakesNumbers w32
u32_takes bytes x fits e =
    let g = guard_ok (ltb (length bytes) 4) (from_be_bytes w32 (take 4 bytes), drop 4 bytes) x e in
    rw (← g.1) (whole (ltb-false (length bytes) 4 g.0))
  where
    whole : 4 ≤ length bytes → Takes bytes (to_be_bytes w32 (from_be_bytes w32 (take 4 bytes))) (drop 4 bytes)
    whole h =
        let p = block_parts 4 bytes fits h in
        rw (be_bytes_4 (take 4 bytes) (from_be_bytes w32 (take 4 bytes)) p.1 (take_fits 4 bytes fits) refl) p.0

id_takes : (bytes : List ℕ) (x : UpdateId × List ℕ) → AreBytes bytes → id_at bytes ≡ Some x → Takes bytes x.0.0 x.1 × (length x.0.0 ≡ 32)
unfolding id_at
id_takes bytes x fits e =
    let a = bind_some (block_at 32 bytes) _ x e in
    rw (← some_is _ x a.2) (block_takes 32 bytes a.0 fits a.1)

-- one id more before those that rise
rising : (last : Option UpdateId) (id : UpdateId) (ids : List UpdateId) → is_next last id ≡ true → AreRising (Some id) ids → AreRising last (id ∷ ids)
rising None id ids h r = r
rising (Some last) id ids h r = (h, r)

ids_takes : (n : ℕ) (last : Option UpdateId) (bytes : List ℕ) (x : List UpdateId × List ℕ) → AreBytes bytes → ids_at n last bytes ≡ Some x
    → Takes bytes (spelled_ids x.0) x.1 × (length x.0 ≡ n) × AreIds x.0 × AreRising last x.0
unfolding ids_at
ids_takes zero last bytes x fits e = rw (← some_is _ x e) (Takes-none bytes fits, refl, tt, tt)
ids_takes (suc n) last bytes x fits e =
    let a = bind_some (id_at bytes) _ x e in
    let one = judged (is_next last a.0.0) _ x a.2 in
    let b = bind_some (ids_at n (Some a.0.0) a.0.1) _ x one.1 in
    let ta = id_takes bytes a.0 fits a.1 in
    let tb = ids_takes n (Some a.0.0) a.0.1 b.0 ta.0.rest_fits b.1 in
    rw (← some_is _ x b.2) (Takes-then ta.0 tb.0, ap suc tb.1, (ta.1, tb.2), rising last a.0.0 b.0.0 one.0 tb.3)

-- what counted ids are
record TakesCounted (w : Width) (most : ℕ) (bytes : List ℕ) (ids : List UpdateId) (rest : List ℕ) : Type 0 where
  takes : Takes bytes (counted w ids) rest
  few : length ids ≤ most
  are : AreIds ids
  sorted : IsStrictlySortedBy id_cmp ids

counted_takes : (w : Width) → TakesNumbers w → (most : ℕ) (bytes : List ℕ) (x : List UpdateId × List ℕ) → AreBytes bytes → counted_at w most bytes ≡ Some x → TakesCounted w most bytes x.0 x.1
unfolding counted_at
counted_takes w number most bytes x fits e =
    let a = bind_some (number_at w bytes) _ x e in
    let few = judged (leb a.0.0 most) _ x a.2 in
    let ta = number bytes a.0 fits a.1 in
    let tb = ids_takes a.0.0 None a.0.1 x ta.rest_fits few.1 in
    record {
      takes = Takes-then (subst (λ (n : ℕ). Takes bytes (to_be_bytes w n) a.0.1) (sym tb.1) ta) tb.0;
      few = let low = leb-true a.0.0 most few.0 in let is = tb.1 in omega arith;
      are = tb.2;
      sorted = sorted_from_rising x.0 tb.3;
    }

filter_takes : (bytes : List ℕ) (x : List ℕ × List ℕ) → AreBytes bytes → filter_at bytes ≡ Some x → Takes bytes (to_be_bytes w32 (length x.0) ++ x.0) x.1 × (length x.0 ≤ 163840)
unfolding filter_at
filter_takes bytes x fits e =
    let a = bind_some (number_at w32 bytes) _ x e in
    let small = judged (leb a.0.0 163840) _ x a.2 in
    let ta = u32_takes bytes a.0 fits a.1 in
    let tb = block_takes a.0.0 a.0.1 x ta.rest_fits small.1 in
    (Takes-then (subst (λ (n : ℕ). Takes bytes (to_be_bytes w32 n) a.0.1) (sym tb.1) ta) tb.0, let low = leb-true a.0.0 163840 small.0 in let is = tb.1 in omega arith)

none_left : {X : Type 0} (xs : List X) → eqb (length xs) 0 ≡ true → xs ≡ []
none_left [] e = refl
none_left (x ∷ xs) e = absurd (let none = eqb-true (length (x ∷ xs)) 0 e in omega arith)

-- nothing is left
all_taken : (bytes text rest : List ℕ) → Takes bytes text rest → rest ≡ [] → bytes ≡ text
all_taken bytes text rest t none = t.parts ∙ ap (λ (r : List ℕ). text ++ r) none ∙ append-nil text

-- what was read as a Hello is the spelling of one
pub hello_takes : (bytes : List ℕ) (hello : HelloData) → AreBytes bytes → hello_in bytes ≡ Some hello → (let payload : List ℕ = 2 ∷ bytes in payload ≡ hello_payload hello) × IsHello hello × HasBlocks hello
unfolding hello_in
hello_takes bytes hello fits e =
    let a = bind_some (block_at 32 bytes) _ hello e in
    let b = bind_some (block_at 32 a.0.1) _ hello a.2 in
    let c = bind_some (counted_at w32 131072 b.0.1) _ hello b.2 in
    let d = bind_some (counted_at w16 4096 c.0.1) _ hello c.2 in
    let f = bind_some (filter_at d.0.1) _ hello d.2 in
    let ended = judged (eqb (length f.0.1) 0) _ hello f.2 in
    let ta = block_takes 32 bytes a.0 fits a.1 in
    let tb = block_takes 32 a.0.1 b.0 ta.0.rest_fits b.1 in
    let tc = counted_takes w32 u32_takes 131072 b.0.1 c.0 tb.0.rest_fits c.1 in
    let td = counted_takes w16 u16_takes 4096 c.0.1 d.0 tc.takes.rest_fits d.1 in
    let tf = filter_takes d.0.1 f.0 td.takes.rest_fits f.1 in
    rw (← some_is _ hello ended.1) (
      ap (λ (t : List ℕ). 2 ∷ t) (all_taken bytes _ f.0.1 (Takes-then ta.0 (Takes-then tb.0 (Takes-then tc.takes (Takes-then td.takes tf.0)))) (none_left f.0.1 ended.0)),
      record { few_heads = tc.few; heads = tc.sorted; few_old = td.few; old = td.sorted; small = tf.1 },
      record { database = ta.1; node = tb.1; heads = tc.are; old = td.are },
    )

byte_takes : (bytes : List ℕ) (x : ℕ × List ℕ) → AreBytes bytes → byte_at bytes ≡ Some x → Takes bytes (x.0 ∷ []) x.1
byte_takes [] x fits e = absurd cc
byte_takes (b ∷ rest) x fits e = let is = some_is (b, rest) x e in rw (← is) (record { parts = refl; rest_fits = λ i. fits (suc i) })

flag_is : (b : ℕ) (have : Bool) → flag_of b ≡ Some have → b ≡ flag have
flag_is zero have e = ap flag (some_is false have e)
flag_is (suc zero) have e = ap flag (some_is true have e)
flag_is (suc (suc b)) have e = absurd cc

no_needs : (have : Bool) (ids : List UpdateId) → (not have || eqb (length ids) 0) ≡ true → IsTrue have → ids ≡ []
no_needs true ids e h = none_left ids e
no_needs false ids e h = absurd cc

-- what was read as a Turn is the spelling of one
pub turn_takes : (bytes : List ℕ) (turn : TurnData) → AreBytes bytes → turn_in bytes ≡ Some turn → (bytes ≡ turn_payload turn) × IsTurn turn × AreIds turn.needs
unfolding turn_in
turn_takes bytes turn fits e =
    let a = bind_some (byte_at bytes) _ turn e in
    let have = bind_some (flag_of a.0.0) _ turn a.2 in
    let c = bind_some (counted_at w16 4096 a.0.1) _ turn have.2 in
    let ended = judged (eqb (length c.0.1) 0) _ turn c.2 in
    let none = judged (not have.0 || eqb (length c.0.0) 0) _ turn ended.1 in
    let ta = byte_takes bytes a.0 fits a.1 in
    let tc = counted_takes w16 u16_takes 4096 a.0.1 c.0 ta.rest_fits c.1 in
    rw (← some_is _ turn none.1) (
      all_taken bytes _ c.0.1 (Takes-then ta tc.takes) (none_left c.0.1 ended.0) ∙ ap (λ b. b ∷ counted w16 c.0.0) (flag_is a.0.0 have.0 have.1),
      record { few = tc.few; rising = tc.sorted; none = no_needs have.0 c.0.0 none.0 },
      tc.are,
    )

-- ---- what holds of what was read, whatever its bytes

ids_kept : (n : ℕ) (last : Option UpdateId) (bytes : List ℕ) (x : List UpdateId × List ℕ) → ids_at n last bytes ≡ Some x → (length x.0 ≡ n) × AreRising last x.0
unfolding ids_at
ids_kept zero last bytes x e = rw (← some_is _ x e) (refl, tt)
ids_kept (suc n) last bytes x e =
    let a = bind_some (id_at bytes) _ x e in
    let one = judged (is_next last a.0.0) _ x a.2 in
    let b = bind_some (ids_at n (Some a.0.0) a.0.1) _ x one.1 in
    let kept = ids_kept n (Some a.0.0) a.0.1 b.0 b.1 in
    rw (← some_is _ x b.2) (ap suc kept.0, rising last a.0.0 b.0.0 one.0 kept.1)

pub counted_kept : (w : Width) (most : ℕ) (bytes : List ℕ) (ids : List UpdateId) (rest : List ℕ) → counted_at w most bytes ≡ Some (ids, rest) → (length ids ≤ most) × IsStrictlySortedBy id_cmp ids
unfolding counted_at
counted_kept w most bytes ids rest e =
    let a = bind_some (number_at w bytes) _ (ids, rest) e in
    let few = judged (leb a.0.0 most) _ (ids, rest) a.2 in
    let kept = ids_kept a.0.0 None a.0.1 (ids, rest) few.1 in
    let low = leb-true a.0.0 most few.0 in
    (let is = kept.0 in omega arith, sorted_from_rising ids kept.1)

pub filter_kept : (bytes filter rest : List ℕ) → filter_at bytes ≡ Some (filter, rest) → length filter ≤ 163840
unfolding filter_at
filter_kept bytes filter rest e =
    let a = bind_some (number_at w32 bytes) _ (filter, rest) e in
    let small = judged (leb a.0.0 163840) _ (filter, rest) a.2 in
    let block = guard_ok (ltb (length a.0.1) a.0.0) (take a.0.0 a.0.1, drop a.0.0 a.0.1) (filter, rest) small.1 in
    let low = leb-true a.0.0 163840 small.0 in
    let is : length filter ≡ a.0.0 = ap (λ (x : List ℕ × List ℕ). length x.0) (sym block.1) ∙ length-take-le a.0.0 a.0.1 (ltb-false (length a.0.1) a.0.0 block.0) in
    omega arith
