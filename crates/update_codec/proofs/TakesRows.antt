-- What the readers of values and operations took from the front of the bytes is the spelling of their value.
use Rattle.std.proofs.Common.{◌≡◌, ◌≢◌, ℕ, zero, suc, ◌+◌, ◌<◌, ◌≤◌, true, List, [], ◌∷◌, length, refl, sym, ap, subst, ◌∙◌, arith, ltb, leb, ◌&&◌}
use Rattle.std.proofs.Math.Facts.{sfits_to_z}
use Rattle.std.proofs.lemmas.Bool.{leb-true, ltb-true}
use Rattle.std.proofs.lemmas.Bool.Decides.{nat_tests}
use Rattle.std.proofs.lemmas.Int.{of_z-to_z}
use Rattle.std.proofs.lemmas.Str.{IsUtf8-from_is_utf8}
use Rattle.std.specs.Prelude.{Ok, Bool, IsUtf8}
use Rattle.std.specs.Int.{w16, w64, to_be_bytes}
use Rattle.std.specs.List.{flat_map, AllByRecursion}
use Rattle.std.specs.Str.{is_utf8}
use Rattle.update_model.specs.declared.value.Value.{Value}
use Rattle.update_model.specs.declared.value.Value.TheVariants as values
use Rattle.update_model.specs.declared.op.Op.{Op}
use Rattle.update_model.specs.declared.op.Op.TheVariants as ops
use Rattle.update_model.specs.Block.{AreBytes}
use Rattle.update_model.specs.Text.{IsText}
use Rattle.update_model.specs.Rows.{IsValue, IsOp, AreOps}
use Rattle.update_codec.specs.declared.codec_fault.CodecKind.TheVariants as kinds
use Rattle.update_codec.specs.Reading.{◌>>=◌, fault, byte_at, block_at, number_at, row_at, int_at, text_at, flag_at, own_at, value_at, values_at, insert_at, op_at, ops_at}
use Rattle.update_codec.specs.Spelling as spell
use Rattle.update_codec.proofs.Steps.{bind_ok, judged, ok_is}
use Rattle.update_codec.proofs.TakesFields.{Takes, Takes-then, Takes-byte, Takes-none, behind_fits, byte_takes, block_takes, block_len, u16_takes, u64_takes, row_takes, between}

-- behind its tag, a value of the operation with this number
abbrev pub TakesValue : ℕ → ℕ → List ℕ → Value × List ℕ → Type 0
TakesValue number tag rest x = Takes (tag ∷ rest) (spell.value x.0) x.1 × IsValue number x.0

int_takes : (number : ℕ) (rest : List ℕ) (x : Value × List ℕ) → AreBytes rest → int_at rest ≡ Ok x → TakesValue number 1 rest x
unfolding int_at
int_takes number rest x fits e =
    let a = bind_ok (number_at w64 rest) _ x e in
    let ta = u64_takes rest a.0 fits a.1 in
    rw (← ok_is _ x a.2) (Takes-byte 1 (subst (λ (n : ℕ). Takes rest (to_be_bytes w64 n) a.0.1) (sym (of_z-to_z w64 a.0.0 ta.1)) ta.0), sfits_to_z (record { fits = ta.1 }))

pub text_takes : (most : ℕ) (bytes : List ℕ) (x : List ℕ × List ℕ) → AreBytes bytes → text_at most bytes ≡ Ok x → Takes bytes (spell.text x.0) x.1 × (length x.0 ≤ most) × IsUtf8 x.0
unfolding text_at
text_takes most bytes x fits e =
    let a = bind_ok (number_at w16 bytes) _ x e in
    let small = judged (leb a.0.0 most) _ _ _ x a.2 in
    let b = bind_ok (block_at a.0.0 a.0.1) _ x small.1 in
    let utf8 = judged (is_utf8 b.0.0) _ _ _ x b.2 in
    let ta = u16_takes bytes a.0 fits a.1 in
    let tb = block_takes a.0.0 a.0.1 b.0 ta.0.rest_fits b.1 in
    let len : Takes bytes (to_be_bytes w16 (length b.0.0)) a.0.1 = subst (λ (n : ℕ). Takes bytes (to_be_bytes w16 n) a.0.1) (sym tb.1.len) ta.0 in
    rw (← ok_is _ x utf8.1) (Takes-then len tb.0, few a.0.0 (length b.0.0) tb.1.len (leb-true a.0.0 most small.0), IsUtf8-from_is_utf8 b.0.0 utf8.0)
  where
    few : (p n : ℕ) → n ≡ p → p ≤ most → n ≤ most
    few p n e h = omega arith

written_takes : (number : ℕ) (rest : List ℕ) (x : Value × List ℕ) → AreBytes rest → (text_at 1024 rest >>= λ text. Ok (values.Text text.0, text.1)) ≡ Ok x → TakesValue number 2 rest x
written_takes number rest x fits e =
    let a = bind_ok (text_at 1024 rest) _ x e in
    let ta = text_takes 1024 rest a.0 fits a.1 in
    rw (← ok_is _ x a.2) (Takes-byte 2 ta.0, (ta.1, ta.2))

flag_takes : (number : ℕ) (rest : List ℕ) (x : Value × List ℕ) → AreBytes rest → flag_at rest ≡ Ok x → TakesValue number 3 rest x
unfolding flag_at
flag_takes number [] x fits e = absurd cc
flag_takes number (zero ∷ rest) x fits e = rw (← ok_is _ x e) (record { parts = refl; rest_fits = behind_fits 0 rest fits }, tt)
flag_takes number (suc zero ∷ rest) x fits e = rw (← ok_is _ x e) (record { parts = refl; rest_fits = behind_fits 1 rest fits }, tt)
flag_takes number (suc (suc b) ∷ rest) x fits e = absurd cc

own_takes : (number : ℕ) (rest : List ℕ) (x : Value × List ℕ) → AreBytes rest → own_at number rest ≡ Ok x → TakesValue number 5 rest x
unfolding own_at
own_takes number rest x fits e =
    let a = bind_ok (number_at w16 rest) _ x e in
    let earlier = judged (ltb a.0.0 number) _ _ _ x a.2 in
    let ta = u16_takes rest a.0 fits a.1 in
    rw (← ok_is _ x earlier.1) (Takes-byte 5 ta.0, ltb-true a.0.0 number earlier.0)

named_takes : (number : ℕ) (rest : List ℕ) (x : Value × List ℕ) → AreBytes rest → (row_at rest >>= λ row. Ok (values.Row row.0, row.1)) ≡ Ok x → TakesValue number 4 rest x
named_takes number rest x fits e =
    let a = bind_ok (row_at rest) _ x e in
    let ta = row_takes rest a.0 fits a.1 in
    rw (← ok_is _ x a.2) (Takes-byte 4 ta.0, ta.1)

-- Another tag is a fault.
pub value_tag_told : (number tag : ℕ) (rest : List ℕ) → 6 ≤ tag → value_at number (tag ∷ rest) ≡ fault kinds.Tag (tag ∷ rest)
unfolding value_at
value_tag_told number tag rest h = grind (arith, nat_tests)

pub value_takes : (number : ℕ) (bytes : List ℕ) (x : Value × List ℕ) → AreBytes bytes → value_at number bytes ≡ Ok x → Takes bytes (spell.value x.0) x.1 × IsValue number x.0
unfolding value_at
value_takes number [] x fits e = absurd cc
value_takes number (zero ∷ rest) x fits e = rw (← ok_is _ x e) (record { parts = refl; rest_fits = behind_fits 0 rest fits }, tt)
value_takes number (suc zero ∷ rest) x fits e = int_takes number rest x (behind_fits 1 rest fits) e
value_takes number (suc (suc zero) ∷ rest) x fits e = written_takes number rest x (behind_fits 2 rest fits) e
value_takes number (suc (suc (suc zero)) ∷ rest) x fits e = flag_takes number rest x (behind_fits 3 rest fits) e
value_takes number (suc (suc (suc (suc zero))) ∷ rest) x fits e = named_takes number rest x (behind_fits 4 rest fits) e
value_takes number (suc (suc (suc (suc (suc zero)))) ∷ rest) x fits e = own_takes number rest x (behind_fits 5 rest fits) e
value_takes number (suc (suc (suc (suc (suc (suc b))))) ∷ rest) x fits e =
    let told = value_tag_told number (suc (suc (suc (suc (suc (suc b)))))) rest (omega arith) in
    absurd (let g = sym told ∙ e in cc)

pub values_takes : (number n : ℕ) (bytes : List ℕ) (x : List Value × List ℕ) → AreBytes bytes → values_at number n bytes ≡ Ok x
    → Takes bytes (flat_map spell.value x.0) x.1 × (length x.0 ≡ n) × AllByRecursion (IsValue number) x.0
unfolding values_at
values_takes number zero bytes x fits e = rw (← ok_is _ x e) (Takes-none bytes fits, refl, tt)
values_takes number (suc n) bytes x fits e =
    let a = bind_ok (value_at number bytes) _ x e in
    let b = bind_ok (values_at number n a.0.1) _ x a.2 in
    let ta = value_takes number bytes a.0 fits a.1 in
    let tb = values_takes number n a.0.1 b.0 ta.0.rest_fits b.1 in
    rw (← ok_is _ x b.2) (Takes-then ta.0 tb.0, ap suc tb.1, (ta.1, tb.2))

insert_takes : (number : ℕ) (rest : List ℕ) (x : Op × List ℕ) → AreBytes rest → insert_at number rest ≡ Ok x → Takes (1 ∷ rest) (spell.op x.0) x.1 × IsOp number x.0
unfolding insert_at
insert_takes number rest x fits e =
    let a = bind_ok (byte_at rest) _ x e in
    let b = bind_ok (byte_at a.0.1) _ x a.2 in
    let right = judged (leb 1 b.0.0 && leb b.0.0 16) _ _ _ x b.2 in
    let c = bind_ok (values_at number b.0.0 b.0.1) _ x right.1 in
    let ta = byte_takes rest a.0 fits a.1 in
    let tb = byte_takes a.0.1 b.0 ta.0.rest_fits b.1 in
    let tc = values_takes number b.0.0 b.0.1 c.0 tb.0.rest_fits c.1 in
    let count : Takes a.0.1 (length c.0.0 ∷ []) b.0.1 = subst (λ (n : ℕ). Takes a.0.1 (n ∷ []) b.0.1) (sym tc.1) tb.0 in
    let few = counted b.0.0 (length c.0.0) tc.1 (between 1 b.0.0 16 right.0) in
    rw (← ok_is _ x c.2) (Takes-byte 1 (Takes-then ta.0 (Takes-then count tc.0)), (ta.1, few.0, few.1, tc.2))
  where
    counted : (p n : ℕ) → n ≡ p → (1 ≤ p) × (p ≤ 16) → (1 ≤ n) × (n ≤ 16)
    counted p n e h = subst (λ (k : ℕ). (1 ≤ k) × (k ≤ 16)) (sym e) h

delete_takes : (number : ℕ) (rest : List ℕ) (x : Op × List ℕ) → AreBytes rest → (row_at rest >>= λ row. Ok (ops.Delete row.0, row.1)) ≡ Ok x → Takes (2 ∷ rest) (spell.op x.0) x.1 × IsOp number x.0
delete_takes number rest x fits e =
    let a = bind_ok (row_at rest) _ x e in
    let ta = row_takes rest a.0 fits a.1 in
    rw (← ok_is _ x a.2) (Takes-byte 2 ta.0, ta.1)

-- Another tag is a fault.
pub op_tag_told : (number tag : ℕ) (rest : List ℕ) → tag ≢ 1 → tag ≢ 2 → op_at number (tag ∷ rest) ≡ fault kinds.Tag (tag ∷ rest)
unfolding op_at
op_tag_told number tag rest h g = grind (arith, nat_tests)

pub op_takes : (number : ℕ) (bytes : List ℕ) (x : Op × List ℕ) → AreBytes bytes → op_at number bytes ≡ Ok x → Takes bytes (spell.op x.0) x.1 × IsOp number x.0
unfolding op_at
op_takes number [] x fits e = absurd cc
op_takes number (zero ∷ rest) x fits e = absurd cc
op_takes number (suc zero ∷ rest) x fits e = insert_takes number rest x (behind_fits 1 rest fits) e
op_takes number (suc (suc zero) ∷ rest) x fits e = delete_takes number rest x (behind_fits 2 rest fits) e
op_takes number (suc (suc (suc b)) ∷ rest) x fits e =
    let told = op_tag_told number (suc (suc (suc b))) rest (λ h. absurd (omega (arith, h))) (λ h. absurd (omega (arith, h))) in
    absurd (let g = sym told ∙ e in cc)

pub ops_takes : (n number : ℕ) (bytes : List ℕ) (x : List Op × List ℕ) → AreBytes bytes → ops_at n number bytes ≡ Ok x
    → Takes bytes (flat_map spell.op x.0) x.1 × (length x.0 ≡ n) × AreOps number x.0
unfolding ops_at
ops_takes zero number bytes x fits e = rw (← ok_is _ x e) (Takes-none bytes fits, refl, tt)
ops_takes (suc n) number bytes x fits e =
    let a = bind_ok (op_at number bytes) _ x e in
    let b = bind_ok (ops_at n (number + 1) a.0.1) _ x a.2 in
    let ta = op_takes number bytes a.0 fits a.1 in
    let tb = ops_takes n (number + 1) a.0.1 b.0 ta.0.rest_fits b.1 in
    rw (← ok_is _ x b.2) (Takes-then ta.0 tb.0, ap suc tb.1, (ta.1, tb.2))

-- A block of few bytes that pass the test is a text.
pub text_is : (most n : ℕ) (after text rest items : List ℕ) (test : Bool) → most ≤ 1024 → n ≤ most → block_at n after ≡ Ok (text, rest) → test ≡ is_utf8 text → test ≡ true → items ≡ text → IsText items
text_is most n after text rest items test small few block tested good same =
    subst IsText (sym same) (few_bytes (length text) n (block_len n after text rest block) few small, IsUtf8-from_is_utf8 text (sym tested ∙ good))
  where
    few_bytes : (a n : ℕ) → a ≡ n → n ≤ most → most ≤ 1024 → a ≤ 1024
    few_bytes a n e h g = omega arith

-- Operations in form have values that a byte counts.
pub counted : (number : ℕ) (ops : List Op) → AreOps number ops → AllByRecursion spell.IsCounted ops
counted number [] are = tt
counted number (ops.Insert table values ∷ others) are = (below (length values) are.0.2, counted (number + 1) others are.1)
  where
    below : (n : ℕ) → n ≤ 16 → n < 256
    below n h = omega arith
counted number (ops.Delete row ∷ others) are = (tt, counted (number + 1) others are.1)
