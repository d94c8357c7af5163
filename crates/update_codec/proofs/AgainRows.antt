-- Reading a value or an operation gives back what was spelled, and leaves what stands behind it.
use Rattle.std.proofs.Common.{◌≡◌, ℕ, ◌+◌, ◌^◌, ◌<◌, ◌≤◌, true, false, List, [], ◌∷◌, ◌++◌, length, refl, sym, ap, subst, arith, append_assoc, ltb, leb, ◌&&◌}
use Rattle.std.proofs.Math.Facts.{Fits-of_z}
use Rattle.std.proofs.lemmas.Bool.{le-leb, lt-ltb}
use Rattle.std.proofs.lemmas.Int.{to_z-of_z}
use Rattle.std.proofs.lemmas.Str.{is_utf8-from_IsUtf8}
use Rattle.std.specs.Prelude.{Ok, ℤ, FitsSigned, IsUtf8}
use Rattle.std.specs.Int.{w16, w64, to_be_bytes, cast_unsigned}
use Rattle.std.specs.List.{flat_map, AllByRecursion}
use Rattle.std.specs.Str.{is_utf8}
use Rattle.update_model.specs.declared.value.Value.{Value}
use Rattle.update_model.specs.declared.value.Value.TheVariants as values
use Rattle.update_model.specs.declared.op.Op.{Op}
use Rattle.update_model.specs.declared.op.Op.TheVariants as ops
use Rattle.update_model.specs.Rows.{IsValue, IsOp, AreOps}
use Rattle.update_codec.specs.declared.codec_fault.CodecKind.TheVariants as kinds
use Rattle.update_codec.specs.Reading.{block_at, number_at, row_at, int_at, text_at, flag_at, own_at, value_at, values_at, insert_at, op_at, ops_at}
use Rattle.update_codec.specs.Spelling as spell
use Rattle.update_codec.proofs.Steps.{then_is, judge_is}
use Rattle.update_codec.proofs.AgainFields.{block_again, u16_again, u64_again, row_again, within}

int_again : (n : ℤ) (rest : List ℕ) → FitsSigned w64 n → int_at (to_be_bytes w64 (cast_unsigned w64 n) ++ rest) ≡ Ok (values.Int n, rest)
unfolding int_at
int_again n rest fits =
    then_is (number_at w64 (to_be_bytes w64 (cast_unsigned w64 n) ++ rest)) _ (cast_unsigned w64 n, rest) _ (u64_again (cast_unsigned w64 n) rest ((Fits-of_z fits).fits))
    (ap (λ (k : ℤ). Ok (values.Int k, rest)) (to_z-of_z w64 n fits))

pub text_again : (most : ℕ) (bytes rest : List ℕ) → most ≤ 1024 → length bytes ≤ most → IsUtf8 bytes → text_at most (spell.text bytes ++ rest) ≡ Ok (bytes, rest)
unfolding text_at
text_again most bytes rest small few utf8 =
    subst (λ (b : List ℕ). text_at most b ≡ Ok (bytes, rest)) (sym (append_assoc (to_be_bytes w16 (length bytes)) bytes rest))
    (then_is (number_at w16 (to_be_bytes w16 (length bytes) ++ (bytes ++ rest))) _ (length bytes, bytes ++ rest) _ (u16_again (length bytes) (bytes ++ rest) (below (length bytes) few small))
    (judge_is (leb (length bytes) most) kinds.Text (to_be_bytes w16 (length bytes) ++ (bytes ++ rest)) _ _ (le-leb _ _ few)
    (then_is (block_at (length bytes) (bytes ++ rest)) _ (bytes, rest) _ (block_again (length bytes) bytes rest refl)
    (judge_is (is_utf8 bytes) kinds.Text (bytes ++ rest) _ _ (is_utf8-from_IsUtf8 bytes utf8) refl))))
  where
    below : (n : ℕ) → n ≤ most → most ≤ 1024 → n < 2 ^ 16
    below n h g = omega arith

own_again : (number index : ℕ) (rest : List ℕ) → number ≤ 256 → index < number → own_at number (to_be_bytes w16 index ++ rest) ≡ Ok (values.Own index, rest)
unfolding own_at
own_again number index rest few earlier =
    then_is (number_at w16 (to_be_bytes w16 index ++ rest)) _ (index, rest) _ (u16_again index rest (below number index few earlier))
    (judge_is (ltb index number) kinds.OwnIndex (to_be_bytes w16 index ++ rest) _ _ (lt-ltb _ _ earlier) refl)
  where
    below : (number index : ℕ) → number ≤ 256 → index < number → index < 2 ^ 16
    below number index h g = omega arith

pub value_again : (number : ℕ) (value : Value) (rest : List ℕ) → number ≤ 256 → IsValue number value → value_at number (spell.value value ++ rest) ≡ Ok (value, rest)
unfolding value_at flag_at
value_again number values.Null rest few is = refl
value_again number (values.Int n) rest few is = int_again n rest is
value_again number (values.Text bytes) rest few is = then_is (text_at 1024 (spell.text bytes ++ rest)) _ (bytes, rest) _ (text_again 1024 bytes rest (omega arith) is.0 is.1) refl
value_again number (values.Flag false) rest few is = refl
value_again number (values.Flag true) rest few is = refl
value_again number (values.Row row) rest few is = then_is (row_at (spell.row row ++ rest)) _ (row, rest) _ (row_again row rest is) refl
value_again number (values.Own index) rest few is = own_again number index rest few is

pub values_again : (number : ℕ) (values : List Value) (rest : List ℕ) → number ≤ 256 → AllByRecursion (IsValue number) values
    → values_at number (length values) (flat_map spell.value values ++ rest) ≡ Ok (values, rest)
unfolding values_at
values_again number [] rest few are = refl
values_again number (value ∷ values) rest few are =
    rw (append_assoc (spell.value value) (flat_map spell.value values) rest)
    (then_is (value_at number (spell.value value ++ (flat_map spell.value values ++ rest))) _ (value, flat_map spell.value values ++ rest) _ (value_again number value _ few are.0)
    (then_is (values_at number (length values) (flat_map spell.value values ++ rest)) _ (values, rest) _ (values_again number values rest few are.1) refl))

insert_again : (number table : ℕ) (values : List Value) (rest : List ℕ) → number ≤ 256 → 1 ≤ length values → length values ≤ 16 → AllByRecursion (IsValue number) values
    → insert_at number (table ∷ length values ∷ (flat_map spell.value values ++ rest)) ≡ Ok (ops.Insert table values, rest)
unfolding insert_at
insert_again number table values rest few some most are =
    judge_is (leb 1 (length values) && leb (length values) 16) kinds.Count (length values ∷ (flat_map spell.value values ++ rest)) _ _ (within 1 (length values) 16 some most)
    (then_is (values_at number (length values) (flat_map spell.value values ++ rest)) _ (values, rest) _ (values_again number values rest few are) refl)

pub op_again : (number : ℕ) (op : Op) (rest : List ℕ) → number ≤ 256 → IsOp number op → op_at number (spell.op op ++ rest) ≡ Ok (op, rest)
unfolding op_at
op_again number (ops.Insert table values) rest few is = insert_again number table values rest few is.1 is.2 is.3
op_again number (ops.Delete row) rest few is = then_is (row_at (spell.row row ++ rest)) _ (row, rest) _ (row_again row rest is) refl

-- operations, the last of which has a number that fits
pub ops_again : (number : ℕ) (ops : List Op) (rest : List ℕ) → number + length ops ≤ 256 → AreOps number ops
    → ops_at (length ops) number (flat_map spell.op ops ++ rest) ≡ Ok (ops, rest)
unfolding ops_at
ops_again number [] rest few are = refl
ops_again number (op ∷ ops) rest few are =
    rw (append_assoc (spell.op op) (flat_map spell.op ops) rest)
    (then_is (op_at number (spell.op op ++ (flat_map spell.op ops ++ rest))) _ (op, flat_map spell.op ops ++ rest) _ (op_again number op _ (omega arith) are.0)
    (then_is (ops_at (length ops) (number + 1) (flat_map spell.op ops ++ rest)) _ (ops, rest) _ (ops_again (number + 1) ops rest (omega arith) are.1) refl))
