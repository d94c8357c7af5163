-- Where reading a field fails, the bytes end in it or have a fault there.
use Rattle.std.proofs.Common.{◌≡◌, ◌≢◌, ℕ, zero, suc, ◌+◌, ◌<◌, ◌≤◌, false, List, [], ◌∷◌, ◌++◌, length, refl, sym, subst, ◌∙◌, arith, ltb, leb, ◌&&◌, inl, inr}
use Rattle.std.proofs.lemmas.Bool.{ltb-false, leb-true, leb-false}
use Rattle.std.proofs.lemmas.Str.{is_utf8-from_IsUtf8}
use Rattle.std.specs.Prelude.{Ok, Err, IsUtf8}
use Rattle.std.specs.Int.{w16, w32, w64, to_be_bytes}
use Rattle.std.specs.List.{flat_map, AllByRecursion}
use Rattle.std.specs.Str.{is_utf8}
use Rattle.update_model.specs.declared.value.Value.{Value}
use Rattle.update_model.specs.declared.value.Value.TheVariants as values
use Rattle.update_model.specs.declared.op.Op.{Op}
use Rattle.update_model.specs.declared.op.Op.TheVariants as ops
use Rattle.update_model.specs.Block.{AreBytes}
use Rattle.update_model.specs.Rows.{IsValue, AreOps}
use Rattle.update_codec.specs.declared.codec_fault.CodecKind.TheVariants as kinds
use Rattle.update_codec.specs.declared.halt.Halt.{Halt}
use Rattle.update_codec.specs.Faults.{KeyFault, TextFault, ValueFault, OpFault, tree_type, chain_type, value_tag, long_text, no_text, in_text, flag_tag, later_own, op_tag, value_count, in_value}
use Rattle.update_codec.specs.Reading.{Read, ◌>>=◌, byte_at, block_at, number_at, id_at, row_at, int_at, text_at, flag_at, own_at, value_at, values_at, insert_at, op_at, ops_at, author_at}
use Rattle.update_codec.specs.Spelling as spell
use Rattle.update_codec.proofs.Steps.{failed, short_halt, halt_at, err_is, bind_err, judge_err, number_err, block_err, byte_err}
use Rattle.update_codec.proofs.TakesFields.{Takes, Takes-then, Takes-byte, Takes-none, behind_fits, byte_takes, block_takes, u16_takes, u32_takes, between}
use Rattle.update_codec.proofs.TakesRows.{value_tag_told, op_tag_told, value_takes, op_takes}
use Rattle.update_codec.proofs.FaultSteps.{Ends, tell_at, nested, not_within}

pub id_err : (bytes : List ℕ) (h : Halt) → id_at bytes ≡ Err h → h ≡ short_halt
unfolding id_at
id_err bytes h e = elim (bind_err (block_at 32 bytes) _ h e) [
  | inl f ↦ block_err 32 bytes h f
  | inr a ↦ absurd (let g = a.2 in cc)
]

row_err : (bytes : List ℕ) (h : Halt) → row_at bytes ≡ Err h → h ≡ short_halt
unfolding row_at
row_err bytes h e = elim (bind_err (id_at bytes) _ h e) [
  | inl f ↦ id_err bytes h f
  | inr a ↦ elim (bind_err (number_at w16 a.0.1) _ h a.2) [
    | inl f ↦ number_err w16 a.0.1 h f
    | inr b ↦ absurd (let g = b.2 in cc)
  ]
]

int_err : (rest : List ℕ) (h : Halt) → int_at rest ≡ Err h → h ≡ short_halt
unfolding int_at
int_err rest h e = elim (bind_err (number_at w64 rest) _ h e) [
  | inl f ↦ number_err w64 rest h f
  | inr a ↦ absurd (let g = a.2 in cc)
]

pub key_stops : (bytes : List ℕ) (h : Halt) → AreBytes bytes → author_at bytes ≡ Err h → Ends KeyFault bytes h
unfolding author_at
key_stops bytes h fits e = elim (bind_err (number_at w32 bytes) _ h e) [
  | inl f ↦ inl (number_err w32 bytes h f)
  | inr a ↦ let ta = u32_takes bytes a.0 fits a.1 in
      elim (judge_err (leb 5 a.0.0 && leb a.0.0 7) kinds.KeyType bytes _ h a.2) [
        | inl j ↦ tell_at KeyFault bytes [] bytes (to_be_bytes w32 a.0.0) a.0.1 kinds.KeyType 0 h j.1 (Takes-none bytes fits) ta.0 refl (tree_type a.0.0 ta.1 (not_within 5 a.0.0 7 j.0))
        | inr j ↦ elim (bind_err (number_at w32 a.0.1) _ h j.1) [
          | inl f ↦ inl (number_err w32 a.0.1 h f)
          | inr b ↦ let tb = u32_takes a.0.1 b.0 ta.0.rest_fits b.1 in
              elim (judge_err (leb 1 b.0.0 && leb b.0.0 4) kinds.KeyType a.0.1 _ h b.2) [
                | inl k ↦ tell_at KeyFault bytes (to_be_bytes w32 a.0.0) a.0.1 (to_be_bytes w32 b.0.0) b.0.1 kinds.KeyType 4 h k.1 ta.0 tb.0 refl (chain_type a.0.0 b.0.0 (between 5 a.0.0 7 j.0) tb.1 (not_within 1 b.0.0 4 k.0))
                | inr k ↦ elim (bind_err (block_at 16 b.0.1) _ h k.1) [
                  | inl f ↦ inl (block_err 16 b.0.1 h f)
                  | inr c ↦ elim (bind_err (block_at 32 c.0.1) _ h c.2) [
                    | inl f ↦ inl (block_err 32 c.0.1 h f)
                    | inr d ↦ absurd (let g = d.2 in cc)
                  ]
                ]
              ]
        ]
      ]
]

-- the tag of a value or of an operation
tag_takes : (tag : ℕ) (rest : List ℕ) → AreBytes rest → Takes (tag ∷ rest) (tag ∷ []) rest
tag_takes tag rest fits = record { parts = refl; rest_fits = fits }

no_utf8 : (bytes : List ℕ) → is_utf8 bytes ≡ false → ¬ (IsUtf8 bytes)
no_utf8 bytes h = λ is. let good = is_utf8-from_IsUtf8 bytes is in absurd (let g = sym good ∙ h in cc)

pub text_stops : (most : ℕ) (bytes : List ℕ) (h : Halt) → AreBytes bytes → text_at most bytes ≡ Err h → Ends (TextFault most) bytes h
unfolding text_at
text_stops most bytes h fits e = elim (bind_err (number_at w16 bytes) _ h e) [
  | inl f ↦ inl (number_err w16 bytes h f)
  | inr a ↦ let ta = u16_takes bytes a.0 fits a.1 in
      elim (judge_err (leb a.0.0 most) kinds.Text bytes _ h a.2) [
        | inl j ↦ tell_at (TextFault most) bytes [] bytes (to_be_bytes w16 a.0.0) a.0.1 kinds.Text 0 h j.1 (Takes-none bytes fits) ta.0 refl (long_text a.0.0 ta.1 (leb-false a.0.0 most j.0))
        | inr j ↦ elim (bind_err (block_at a.0.0 a.0.1) _ h j.1) [
          | inl f ↦ inl (block_err a.0.0 a.0.1 h f)
          | inr b ↦ let tb = block_takes a.0.0 a.0.1 b.0 ta.0.rest_fits b.1 in
              elim (judge_err (is_utf8 b.0.0) kinds.Text a.0.1 _ h b.2) [
                | inl k ↦ tell_at (TextFault most) bytes (to_be_bytes w16 a.0.0) a.0.1 b.0.0 b.0.1 kinds.Text 2 h k.1 ta.0 tb.0 refl
                    (faulty a.0.0 b.0.0 tb.1.len (leb-true a.0.0 most j.0) (no_utf8 b.0.0 k.0))
                | inr k ↦ absurd (let g = k.1 in cc)
              ]
        ]
      ]
]
  where
    faulty : (n : ℕ) (bytes : List ℕ) → length bytes ≡ n → n ≤ most → ¬ (IsUtf8 bytes) → TextFault most (to_be_bytes w16 n ++ bytes) kinds.Text 2
    faulty n bytes e few bad = subst (λ (m : ℕ). m ≤ most → TextFault most (to_be_bytes w16 m ++ bytes) kinds.Text 2) e (λ h. no_text bytes h bad) few

abbrev written_at : List ℕ → Read Value
written_at rest = text_at 1024 rest >>= λ text. Ok (values.Text text.0, text.1)

written_stops : (number : ℕ) (rest : List ℕ) (h : Halt) → AreBytes rest → written_at rest ≡ Err h → Ends (ValueFault number) (2 ∷ rest) h
written_stops number rest h fits e = elim (bind_err (text_at 1024 rest) _ h e) [
  | inl f ↦ nested (TextFault 1024) (ValueFault number) (2 ∷ rest) (2 ∷ []) rest 1 h refl refl (λ front kind at f. in_text front kind at f) (text_stops 1024 rest h fits f)
  | inr a ↦ absurd (let g = a.2 in cc)
]

flag_stops : (number : ℕ) (rest : List ℕ) (h : Halt) → AreBytes rest → flag_at rest ≡ Err h → Ends (ValueFault number) (3 ∷ rest) h
unfolding flag_at
flag_stops number [] h fits e = inl (sym (err_is (Value × List ℕ) short_halt h e))
flag_stops number (zero ∷ rest) h fits e = absurd cc
flag_stops number (suc zero ∷ rest) h fits e = absurd cc
flag_stops number (suc (suc b) ∷ rest) h fits e =
    tell_at (ValueFault number) (3 ∷ suc (suc b) ∷ rest) (3 ∷ []) (suc (suc b) ∷ rest) (suc (suc b) ∷ []) rest kinds.Tag 1 h (sym (err_is (Value × List ℕ) (halt_at kinds.Tag (suc (suc b) ∷ rest)) h e))
    (tag_takes 3 (suc (suc b) ∷ rest) fits) (tag_takes (suc (suc b)) rest (behind_fits (suc (suc b)) rest fits)) refl (flag_tag (suc (suc b)) (omega arith))

own_stops : (number : ℕ) (rest : List ℕ) (h : Halt) → AreBytes rest → own_at number rest ≡ Err h → Ends (ValueFault number) (5 ∷ rest) h
unfolding own_at
own_stops number rest h fits e = elim (bind_err (number_at w16 rest) _ h e) [
  | inl f ↦ inl (number_err w16 rest h f)
  | inr a ↦ let ta = u16_takes rest a.0 fits a.1 in
      elim (judge_err (ltb a.0.0 number) kinds.OwnIndex rest _ h a.2) [
        | inl j ↦ tell_at (ValueFault number) (5 ∷ rest) (5 ∷ []) rest (to_be_bytes w16 a.0.0) a.0.1 kinds.OwnIndex 1 h j.1 (tag_takes 5 rest fits) ta.0 refl (later_own a.0.0 ta.1 (ltb-false a.0.0 number j.0))
        | inr j ↦ absurd (let g = j.1 in cc)
      ]
]

abbrev named_at : List ℕ → Read Value
named_at rest = row_at rest >>= λ row. Ok (values.Row row.0, row.1)

named_err : (rest : List ℕ) (h : Halt) → named_at rest ≡ Err h → h ≡ short_halt
named_err rest h e = elim (bind_err (row_at rest) _ h e) [
  | inl f ↦ row_err rest h f
  | inr a ↦ absurd (let g = a.2 in cc)
]

-- a value of another tag
other_value : (number tag : ℕ) (rest : List ℕ) (h : Halt) → 6 ≤ tag → AreBytes (tag ∷ rest) → value_at number (tag ∷ rest) ≡ Err h → Ends (ValueFault number) (tag ∷ rest) h
other_value number tag rest h big fits e =
    tell_at (ValueFault number) (tag ∷ rest) [] (tag ∷ rest) (tag ∷ []) rest kinds.Tag 0 h (err_is (Value × List ℕ) h (halt_at kinds.Tag (tag ∷ rest)) (sym e ∙ value_tag_told number tag rest big))
    (Takes-none (tag ∷ rest) fits) (tag_takes tag rest (behind_fits tag rest fits)) refl (value_tag tag big)

pub value_stops : (number : ℕ) (bytes : List ℕ) (h : Halt) → AreBytes bytes → value_at number bytes ≡ Err h → Ends (ValueFault number) bytes h
unfolding value_at
value_stops number [] h fits e = inl (sym (err_is (Value × List ℕ) short_halt h e))
value_stops number (zero ∷ rest) h fits e = absurd cc
value_stops number (suc zero ∷ rest) h fits e = inl (int_err rest h e)
value_stops number (suc (suc zero) ∷ rest) h fits e = written_stops number rest h (behind_fits 2 rest fits) e
value_stops number (suc (suc (suc zero)) ∷ rest) h fits e = flag_stops number rest h (behind_fits 3 rest fits) e
value_stops number (suc (suc (suc (suc zero))) ∷ rest) h fits e = inl (named_err rest h e)
value_stops number (suc (suc (suc (suc (suc zero)))) ∷ rest) h fits e = own_stops number rest h (behind_fits 5 rest fits) e
value_stops number (suc (suc (suc (suc (suc (suc b))))) ∷ rest) h fits e = other_value number (suc (suc (suc (suc (suc (suc b)))))) rest h (omega arith) fits e

-- Values stop at the first that does.
values_err : (number n : ℕ) (bytes : List ℕ) (h : Halt) → AreBytes bytes → values_at number n bytes ≡ Err h
    → (values : List Value) × (rest : List ℕ) × (length values < n) × AllByRecursion (IsValue number) values × Takes bytes (flat_map spell.value values) rest × (value_at number rest ≡ Err h)
unfolding values_at
values_err number zero bytes h fits e = absurd cc
values_err number (suc n) bytes h fits e = elim (bind_err (value_at number bytes) _ h e) [
  | inl f ↦ ([], bytes, omega arith, tt, Takes-none bytes fits, f)
  | inr a ↦ let first = value_takes number bytes a.0 fits a.1 in
      elim (bind_err (values_at number n a.0.1) _ h a.2) [
        | inl g ↦ let more = values_err number n a.0.1 h first.0.rest_fits g in
            (a.0.0 ∷ more.0, more.1, one_more (length more.0) n more.2, (first.1, more.3), Takes-then first.0 more.4, more.5)
        | inr x ↦ absurd (let g = x.2 in cc)
      ]
]
  where
    one_more : (a b : ℕ) → a < b → suc a < suc b
    one_more a b h = omega arith

insert_stops : (number : ℕ) (rest : List ℕ) (h : Halt) → AreBytes rest → insert_at number rest ≡ Err h → Ends (OpFault number) (1 ∷ rest) h
unfolding insert_at
insert_stops number rest h fits e = elim (bind_err (byte_at rest) _ h e) [
  | inl f ↦ inl (byte_err rest h f)
  | inr a ↦ let ta = byte_takes rest a.0 fits a.1 in
      elim (bind_err (byte_at a.0.1) _ h a.2) [
        | inl f ↦ inl (byte_err a.0.1 h f)
        | inr b ↦ let tb = byte_takes a.0.1 b.0 ta.0.rest_fits b.1 in
            elim (judge_err (leb 1 b.0.0 && leb b.0.0 16) kinds.Count a.0.1 _ h b.2) [
              | inl j ↦ tell_at (OpFault number) (1 ∷ rest) (1 ∷ a.0.0 ∷ []) a.0.1 (b.0.0 ∷ []) b.0.1 kinds.Count 2 h j.1 (Takes-byte 1 ta.0) tb.0 refl (value_count a.0.0 b.0.0 (not_within 1 b.0.0 16 j.0))
              | inr j ↦ elim (bind_err (values_at number b.0.0 b.0.1) _ h j.1) [
                | inl f ↦ inner a.0.0 b.0.0 b.0.1 (Takes-byte 1 (Takes-then ta.0 tb.0)) (between 1 b.0.0 16 j.0) (values_err number b.0.0 b.0.1 h tb.0.rest_fits f)
                | inr x ↦ absurd (let g = x.2 in cc)
              ]
            ]
      ]
]
  where
    three : (n : ℕ) → 3 + n ≡ suc (suc (suc n))
    three n = omega arith

    inner : (table n : ℕ) (mid : List ℕ) → Takes (1 ∷ rest) (1 ∷ table ∷ n ∷ []) mid → (1 ≤ n) × (n ≤ 16)
        → (values : List Value) × (last : List ℕ) × (length values < n) × AllByRecursion (IsValue number) values × Takes mid (flat_map spell.value values) last × (value_at number last ≡ Err h)
        → Ends (OpFault number) (1 ∷ rest) h
    inner table n mid before count (values, last, few, are, took, failed) =
        nested (ValueFault number) (OpFault number) (1 ∷ rest) (1 ∷ table ∷ n ∷ flat_map spell.value values) last (3 + length (flat_map spell.value values)) h (Takes-then before took).parts (three (length (flat_map spell.value values)))
        (λ front kind at f. in_value table n values front kind at count few are f) (value_stops number last h took.rest_fits failed)

abbrev delete_at : List ℕ → Read Op
delete_at rest = row_at rest >>= λ row. Ok (ops.Delete row.0, row.1)

delete_err : (rest : List ℕ) (h : Halt) → delete_at rest ≡ Err h → h ≡ short_halt
delete_err rest h e = elim (bind_err (row_at rest) _ h e) [
  | inl f ↦ row_err rest h f
  | inr a ↦ absurd (let g = a.2 in cc)
]

-- an operation of another tag
other_op : (number tag : ℕ) (rest : List ℕ) (h : Halt) → tag ≢ 1 → tag ≢ 2 → AreBytes (tag ∷ rest) → op_at number (tag ∷ rest) ≡ Err h → Ends (OpFault number) (tag ∷ rest) h
other_op number tag rest h not_1 not_2 fits e =
    tell_at (OpFault number) (tag ∷ rest) [] (tag ∷ rest) (tag ∷ []) rest kinds.Tag 0 h (err_is (Op × List ℕ) h (halt_at kinds.Tag (tag ∷ rest)) (sym e ∙ op_tag_told number tag rest not_1 not_2))
    (Takes-none (tag ∷ rest) fits) (tag_takes tag rest (behind_fits tag rest fits)) refl (op_tag tag not_1 not_2)

pub op_stops : (number : ℕ) (bytes : List ℕ) (h : Halt) → AreBytes bytes → op_at number bytes ≡ Err h → Ends (OpFault number) bytes h
unfolding op_at
op_stops number [] h fits e = inl (sym (err_is (Op × List ℕ) short_halt h e))
op_stops number (zero ∷ rest) h fits e = other_op number 0 rest h (λ g. absurd (omega (arith, g))) (λ g. absurd (omega (arith, g))) fits e
op_stops number (suc zero ∷ rest) h fits e = insert_stops number rest h (behind_fits 1 rest fits) e
op_stops number (suc (suc zero) ∷ rest) h fits e = inl (delete_err rest h e)
op_stops number (suc (suc (suc b)) ∷ rest) h fits e = other_op number (suc (suc (suc b))) rest h (λ g. absurd (omega (arith, g))) (λ g. absurd (omega (arith, g))) fits e

-- Operations stop at the first that does.
pub ops_err : (n number : ℕ) (bytes : List ℕ) (h : Halt) → AreBytes bytes → ops_at n number bytes ≡ Err h
    → (ops : List Op) × (rest : List ℕ) × (length ops < n) × AreOps number ops × Takes bytes (flat_map spell.op ops) rest × (op_at (number + length ops) rest ≡ Err h)
unfolding ops_at
ops_err zero number bytes h fits e = absurd cc
ops_err (suc n) number bytes h fits e = elim (bind_err (op_at number bytes) _ h e) [
  | inl f ↦ ([], bytes, omega arith, tt, Takes-none bytes fits, subst (λ (k : ℕ). op_at k bytes ≡ Err h) (same number) f)
  | inr a ↦ let first = op_takes number bytes a.0 fits a.1 in
      elim (bind_err (ops_at n (number + 1) a.0.1) _ h a.2) [
        | inl g ↦ let more = ops_err n (number + 1) a.0.1 h first.0.rest_fits g in
            (a.0.0 ∷ more.0, more.1, one_more (length more.0) n more.2, (first.1, more.3), Takes-then first.0 more.4, subst (λ (k : ℕ). op_at k more.1 ≡ Err h) (next number (length more.0)) more.5)
        | inr x ↦ absurd (let g = x.2 in cc)
      ]
]
  where
    same : (n : ℕ) → n ≡ n + 0
    same n = omega arith

    one_more : (a b : ℕ) → a < b → suc a < suc b
    one_more a b h = omega arith

    next : (a b : ℕ) → a + 1 + b ≡ a + suc b
    next a b = omega arith
