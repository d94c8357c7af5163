-- What the readers of fields of fixed size took from the front of the bytes is the spelling of their value.
use Rattle.std.proofs.Common.{◌≡◌, ℕ, zero, suc, ◌+◌, ◌^◌, ◌<◌, ◌≤◌, true, List, [], ◌∷◌, ◌++◌, length, take, drop, refl, sym, ap, ◌∙◌, arith, append_assoc, ltb, leb, ◌&&◌}
use Rattle.std.proofs.lemmas.List.{take-append-drop, length-take-le, get_or-drop}
use Rattle.std.proofs.lemmas.Bool.{ltb-false}
use Rattle.std.proofs.lemmas.Bool.Decides.{nat_tests}
use Rattle.std.proofs.lemmas.Nat.{be_bytes_2, be_bytes_4, be_bytes_8}
use Rattle.std.specs.Prelude.{Ok}
use Rattle.std.specs.Int.{w16, w32, w64, to_be_bytes, from_be_bytes}
use Rattle.update_model.specs.declared.update_id.UpdateId.{UpdateId}
use Rattle.update_model.specs.declared.author_key.AuthorKey.{AuthorKey}
use Rattle.update_model.specs.declared.row_name.RowName.{RowName}
use Rattle.update_model.specs.Block.{AreBytes, IsBlock, IsId}
use Rattle.update_model.specs.Form.{IsKey}
use Rattle.update_model.specs.Rows.{IsRowName}
use Rattle.update_codec.specs.Reading.{byte_at, block_at, number_at, id_at, row_at, author_at}
use Rattle.update_codec.specs.Spelling as spell
use Rattle.update_codec.proofs.Steps.{bind_ok, judged, guard_ok, ok_is}

-- what a reader took from the front
pub record Takes (bytes text rest : List ℕ) : Type 0 where
  pub parts : bytes ≡ text ++ rest
  pub rest_fits : AreBytes rest

pub Takes-then : {a x b y c : List ℕ} → Takes a x b → Takes b y c → Takes a (x ++ y) c
Takes-then {a} {x} {b} {y} {c} p q = record { parts = p.parts ∙ ap (λ (t : List ℕ). x ++ t) q.parts ∙ sym (append_assoc x y c); rest_fits = q.rest_fits }

-- behind a byte
pub Takes-byte : {bytes text rest : List ℕ} (b : ℕ) → Takes bytes text rest → Takes (b ∷ bytes) (b ∷ text) rest
Takes-byte b t = record { parts = ap (λ (w : List ℕ). b ∷ w) t.parts; rest_fits = t.rest_fits }

-- nothing yet
pub Takes-none : (bytes : List ℕ) → AreBytes bytes → Takes bytes [] bytes
Takes-none bytes fits = record { parts = refl; rest_fits = fits }

drop_fits : (n : ℕ) (bytes : List ℕ) → AreBytes bytes → AreBytes (drop n bytes)
drop_fits n bytes fits i = rw get_or-drop (fits (n + i))

take_fits : (n : ℕ) (bytes : List ℕ) → AreBytes bytes → AreBytes (take n bytes)
take_fits zero bytes fits i = omega arith
take_fits (suc n) [] fits i = omega arith
take_fits (suc n) (b ∷ bytes) fits zero = fits 0
take_fits (suc n) (b ∷ bytes) fits (suc i) = take_fits n bytes (λ j. fits (suc j)) i

pub behind_fits : (b : ℕ) (bytes : List ℕ) → AreBytes (b ∷ bytes) → AreBytes bytes
behind_fits b bytes fits i = fits (suc i)

pub byte_takes : (bytes : List ℕ) (x : ℕ × List ℕ) → AreBytes bytes → byte_at bytes ≡ Ok x → Takes bytes (x.0 ∷ []) x.1 × (x.0 < 256)
byte_takes [] x fits e = absurd cc
byte_takes (b ∷ rest) x fits e =
    let is = ok_is (b, rest) x e in
    rw (← is) (record { parts = refl; rest_fits = λ i. fits (suc i) }, fits 0)

block_parts : (n : ℕ) (bytes : List ℕ) → AreBytes bytes → n ≤ length bytes → Takes bytes (take n bytes) (drop n bytes) × IsBlock n (take n bytes)
block_parts n bytes fits h =
    (record { parts = sym (take-append-drop n bytes); rest_fits = drop_fits n bytes fits }, record { len = length-take-le n bytes h; each = take_fits n bytes fits })

pub block_takes : (n : ℕ) (bytes : List ℕ) (x : List ℕ × List ℕ) → AreBytes bytes → block_at n bytes ≡ Ok x → Takes bytes x.0 x.1 × IsBlock n x.0
block_takes n bytes x fits e =
    let g = guard_ok (ltb (length bytes) n) (take n bytes, drop n bytes) x e in
    rw (← g.1) (block_parts n bytes fits (ltb-false (length bytes) n g.0))

-- a number of two bytes
pub u16_takes : (bytes : List ℕ) (x : ℕ × List ℕ) → AreBytes bytes → number_at w16 bytes ≡ Ok x → Takes bytes (to_be_bytes w16 x.0) x.1 × (x.0 < 2 ^ 16)
u16_takes bytes x fits e =
    let g = guard_ok (ltb (length bytes) 2) (from_be_bytes w16 (take 2 bytes), drop 2 bytes) x e in
    rw (← g.1) (both (ltb-false (length bytes) 2 g.0))
  where
    below : (front : List ℕ) → AreBytes front → from_be_bytes w16 front < 2 ^ 16
    below front each = omega (arith, each 0, each 1)

    both : 2 ≤ length bytes → Takes bytes (to_be_bytes w16 (from_be_bytes w16 (take 2 bytes))) (drop 2 bytes) × (from_be_bytes w16 (take 2 bytes) < 2 ^ 16)
    both h =
        let p = block_parts 2 bytes fits h in
        (rw (be_bytes_2 (take 2 bytes) (from_be_bytes w16 (take 2 bytes)) p.1.len p.1.each refl) p.0, below (take 2 bytes) p.1.each)

-- a number of four bytes
pub u32_takes : (bytes : List ℕ) (x : ℕ × List ℕ) → AreBytes bytes → number_at w32 bytes ≡ Ok x → Takes bytes (to_be_bytes w32 x.0) x.1 × (x.0 < 2 ^ 32)
u32_takes bytes x fits e =
    let g = guard_ok (ltb (length bytes) 4) (from_be_bytes w32 (take 4 bytes), drop 4 bytes) x e in
    rw (← g.1) (both (ltb-false (length bytes) 4 g.0))
  where
    below : (front : List ℕ) → AreBytes front → from_be_bytes w32 front < 2 ^ 32
    below front each = omega (arith, each 0, each 1, each 2, each 3)

    both : 4 ≤ length bytes → Takes bytes (to_be_bytes w32 (from_be_bytes w32 (take 4 bytes))) (drop 4 bytes) × (from_be_bytes w32 (take 4 bytes) < 2 ^ 32)
    both h =
        let p = block_parts 4 bytes fits h in
        (rw (be_bytes_4 (take 4 bytes) (from_be_bytes w32 (take 4 bytes)) p.1.len p.1.each refl) p.0, below (take 4 bytes) p.1.each)

-- a number of eight bytes
pub u64_takes : (bytes : List ℕ) (x : ℕ × List ℕ) → AreBytes bytes → number_at w64 bytes ≡ Ok x → Takes bytes (to_be_bytes w64 x.0) x.1 × (x.0 < 2 ^ 64)
u64_takes bytes x fits e =
    let g = guard_ok (ltb (length bytes) 8) (from_be_bytes w64 (take 8 bytes), drop 8 bytes) x e in
    rw (← g.1) (both (ltb-false (length bytes) 8 g.0))
  where
    below : (front : List ℕ) → AreBytes front → from_be_bytes w64 front < 2 ^ 64
    below front each = omega (arith, each 0, each 1, each 2, each 3, each 4, each 5, each 6, each 7)

    both : 8 ≤ length bytes → Takes bytes (to_be_bytes w64 (from_be_bytes w64 (take 8 bytes))) (drop 8 bytes) × (from_be_bytes w64 (take 8 bytes) < 2 ^ 64)
    both h =
        let p = block_parts 8 bytes fits h in
        (rw (be_bytes_8 (take 8 bytes) (from_be_bytes w64 (take 8 bytes)) p.1.len p.1.each refl) p.0, below (take 8 bytes) p.1.each)

pub id_takes : (bytes : List ℕ) (x : UpdateId × List ℕ) → AreBytes bytes → id_at bytes ≡ Ok x → Takes bytes (spell.id x.0) x.1 × IsId x.0
unfolding id_at
id_takes bytes x fits e =
    let a = bind_ok (block_at 32 bytes) _ x e in
    rw (← ok_is _ x a.2) (block_takes 32 bytes a.0 fits a.1)

pub row_takes : (bytes : List ℕ) (x : RowName × List ℕ) → AreBytes bytes → row_at bytes ≡ Ok x → Takes bytes (spell.row x.0) x.1 × IsRowName x.0
unfolding row_at
row_takes bytes x fits e =
    let a = bind_ok (id_at bytes) _ x e in
    let b = bind_ok (number_at w16 a.0.1) _ x a.2 in
    let ta = id_takes bytes a.0 fits a.1 in
    let tb = u16_takes a.0.1 b.0 ta.0.rest_fits b.1 in
    rw (← ok_is _ x b.2) (Takes-then ta.0 tb.0, record { update = ta.1; index = tb.1 })

pub between : (a b c : ℕ) → (leb a b && leb b c) ≡ true → (a ≤ b) × (b ≤ c)
between a b c h = grind (arith, nat_tests)

pub author_takes : (bytes : List ℕ) (x : AuthorKey × List ℕ) → AreBytes bytes → author_at bytes ≡ Ok x → Takes bytes (spell.author x.0) x.1 × IsKey x.0
unfolding author_at
author_takes bytes x fits e =
    let a = bind_ok (number_at w32 bytes) _ x e in
    let one = judged (leb 5 a.0.0 && leb a.0.0 7) _ _ _ x a.2 in
    let b = bind_ok (number_at w32 a.0.1) _ x one.1 in
    let two = judged (leb 1 b.0.0 && leb b.0.0 4) _ _ _ x b.2 in
    let c = bind_ok (block_at 16 b.0.1) _ x two.1 in
    let d = bind_ok (block_at 32 c.0.1) _ x c.2 in
    let ta = u32_takes bytes a.0 fits a.1 in
    let tb = u32_takes a.0.1 b.0 ta.0.rest_fits b.1 in
    let tc = block_takes 16 b.0.1 c.0 tb.0.rest_fits c.1 in
    let td = block_takes 32 c.0.1 d.0 tc.0.rest_fits d.1 in
    rw (← ok_is _ x d.2) (Takes-then ta.0 (Takes-then tb.0 (Takes-then tc.0 td.0)), record { known = record { lms = between 5 a.0.0 7 one.0; ots = between 1 b.0.0 4 two.0 }; ident = tc.1; root = td.1 })

pub block_len : (n : ℕ) (bytes text rest : List ℕ) → block_at n bytes ≡ Ok (text, rest) → length text ≡ n
block_len n bytes text rest e =
    let g = guard_ok (ltb (length bytes) n) (take n bytes, drop n bytes) (text, rest) e in
    ap (λ (x : List ℕ × List ℕ). length x.0) (sym g.1) ∙ length-take-le n bytes (ltb-false (length bytes) n g.0)
