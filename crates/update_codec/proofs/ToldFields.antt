-- A field that has a fault makes reading fail there, whatever follows.
use Rattle.std.proofs.Common.{◌≡◌, ℕ, zero, suc, ◌+◌, ◌^◌, ◌<◌, ◌≤◌, true, false, List, [], ◌∷◌, ◌++◌, length, refl, sym, ap, subst, ◌∙◌, arith, append_assoc, ltb, leb, ◌&&◌}
use Rattle.std.proofs.lemmas.List.{length-append}
use Rattle.std.proofs.lemmas.Bool.{le-leb}
use Rattle.std.proofs.lemmas.Bool.Decides.{nat_tests}
use Rattle.std.proofs.lemmas.Str.{IsUtf8-from_is_utf8, is_utf8-from_IsUtf8}
use Rattle.std.specs.Prelude.{◌↔◌, Bool, IsTrue, IsUtf8}
use Rattle.std.specs.Int.{w16, w32, to_be_bytes}
use Rattle.std.specs.List.{flat_map, AllByRecursion}
use Rattle.std.specs.Str.{is_utf8}
use Rattle.update_model.specs.declared.value.Value.{Value}
use Rattle.update_model.specs.declared.op.Op.{Op}
use Rattle.update_model.specs.Rows.{IsValue, AreOps}
use Rattle.update_codec.specs.declared.codec_fault.CodecKind.{CodecKind}
use Rattle.update_codec.specs.declared.codec_fault.CodecKind.TheVariants as kinds
use Rattle.update_codec.specs.declared.halt.Halt.{Halt}
use Rattle.update_codec.specs.Faults.{KeyFault, TextFault, ValueFault, OpFault, tree_type, chain_type, value_tag, long_text, no_text, in_text, flag_tag, later_own, op_tag, value_count, in_value, IsValueCount}
use Rattle.update_codec.specs.Reading.{block_at, number_at, text_at, flag_at, own_at, value_at, values_at, insert_at, op_at, ops_at, author_at}
use Rattle.update_codec.specs.Spelling as spell
use Rattle.update_codec.proofs.Steps.{failed, halt_at, then_is, judge_is, judge_fails, fails_first}
use Rattle.update_codec.proofs.AgainFields.{block_again, u16_again, u32_again, within}
use Rattle.update_codec.proofs.AgainRows.{value_again, op_again}
use Rattle.update_codec.proofs.TakesRows.{value_tag_told, op_tag_told}
use Rattle.update_codec.proofs.FaultSteps.{IsTold}

-- where a test is not met
pub refuted : (b : Bool) → (b ≡ true → ⊥) → b ≡ false
refuted true h = absurd (h refl)
refuted false h = refl

outside : (a b c : ℕ) → ¬ ((a ≤ b) × (b ≤ c)) → (leb a b && leb b c) ≡ false
outside a b c h = refuted (leb a b && leb b c) (λ e. h (both e))
  where
    both : (leb a b && leb b c) ≡ true → (a ≤ b) × (b ≤ c)
    both e = grind (arith, nat_tests)

pub above : (a b : ℕ) → b < a → leb a b ≡ false
above a b h = grind (arith, nat_tests)

not_below : (a b : ℕ) → b ≤ a → ltb a b ≡ false
not_below a b h = grind (arith, nat_tests)

pub key_told : (front : List ℕ) (kind : CodecKind) (at : ℕ) → KeyFault front kind at → (rest : List ℕ) → IsTold (author_at (front ++ rest)) (length (front ++ rest)) kind at
unfolding author_at
key_told front kind at (tree_type lms fits bad) rest = record {
  left = length (to_be_bytes w32 lms ++ rest);
  is = then_is (number_at w32 (to_be_bytes w32 lms ++ rest)) _ (lms, rest) _ (u32_again lms rest fits)
      (judge_fails (leb 5 lms && leb lms 7) kinds.KeyType (to_be_bytes w32 lms ++ rest) _ (outside 5 lms 7 bad));
  place = omega arith;
}
key_told front kind at (chain_type lms ots good fits bad) rest = record {
  left = length (to_be_bytes w32 ots ++ rest);
  is = then_is (number_at w32 (to_be_bytes w32 lms ++ (to_be_bytes w32 ots ++ rest))) _ (lms, to_be_bytes w32 ots ++ rest) _ (u32_again lms (to_be_bytes w32 ots ++ rest) (small lms good.1))
      (judge_is (leb 5 lms && leb lms 7) kinds.KeyType (to_be_bytes w32 lms ++ (to_be_bytes w32 ots ++ rest)) _ _ (within 5 lms 7 good.0 good.1)
      (then_is (number_at w32 (to_be_bytes w32 ots ++ rest)) _ (ots, rest) _ (u32_again ots rest fits)
      (judge_fails (leb 1 ots && leb ots 4) kinds.KeyType (to_be_bytes w32 ots ++ rest) _ (outside 1 ots 4 bad))));
  place = omega arith;
}
  where
    small : (n : ℕ) → n ≤ 7 → n < 2 ^ 32
    small n h = omega arith

long_told : (most n : ℕ) (rest : List ℕ) → n < 2 ^ 16 → most < n → text_at most (to_be_bytes w16 n ++ rest) ≡ failed (List ℕ × List ℕ) (halt_at kinds.Text (to_be_bytes w16 n ++ rest))
unfolding text_at
long_told most n rest fits long =
    then_is (number_at w16 (to_be_bytes w16 n ++ rest)) _ (n, rest) _ (u16_again n rest fits)
    (judge_fails (leb n most) kinds.Text (to_be_bytes w16 n ++ rest) _ (above n most long))

no_text_told : (most : ℕ) (bytes rest : List ℕ) → most ≤ 1024 → length bytes ≤ most → ¬ (IsUtf8 bytes) → text_at most (to_be_bytes w16 (length bytes) ++ (bytes ++ rest)) ≡ failed (List ℕ × List ℕ) (halt_at kinds.Text (bytes ++ rest))
unfolding text_at
no_text_told most bytes rest small few bad =
    then_is (number_at w16 (to_be_bytes w16 (length bytes) ++ (bytes ++ rest))) _ (length bytes, bytes ++ rest) _ (u16_again (length bytes) (bytes ++ rest) (below (length bytes) few small))
    (judge_is (leb (length bytes) most) kinds.Text (to_be_bytes w16 (length bytes) ++ (bytes ++ rest)) _ _ (le-leb _ _ few)
    (then_is (block_at (length bytes) (bytes ++ rest)) _ (bytes, rest) _ (block_again (length bytes) bytes rest refl)
    (judge_fails (is_utf8 bytes) kinds.Text (bytes ++ rest) _ (refuted (is_utf8 bytes) (λ e. bad (IsUtf8-from_is_utf8 bytes e))))))
  where
    below : (n : ℕ) → n ≤ most → most ≤ 1024 → n < 2 ^ 16
    below n h g = omega arith

pub text_told : (most : ℕ) → most ≤ 1024 → (front : List ℕ) (kind : CodecKind) (at : ℕ) → TextFault most front kind at → (rest : List ℕ) → IsTold (text_at most (front ++ rest)) (length (front ++ rest)) kind at
text_told most small front kind at (long_text n fits long) rest = record { left = length (to_be_bytes w16 n ++ rest); is = long_told most n rest fits long; place = omega arith }
text_told most small front kind at (no_text bytes few bad) rest = record {
  left = length (bytes ++ rest);
  is = subst (λ (b : List ℕ). text_at most b ≡ failed (List ℕ × List ℕ) (halt_at kinds.Text (bytes ++ rest))) (sym (append_assoc (to_be_bytes w16 (length bytes)) bytes rest)) (no_text_told most bytes rest small few bad);
  place = omega arith;
}

flag_told : (flag : ℕ) (rest : List ℕ) → 2 ≤ flag → flag_at (flag ∷ rest) ≡ failed (Value × List ℕ) (halt_at kinds.Tag (flag ∷ rest))
unfolding flag_at
flag_told zero rest h = absurd (omega arith)
flag_told (suc zero) rest h = absurd (omega arith)
flag_told (suc (suc b)) rest h = refl

own_told : (number index : ℕ) (rest : List ℕ) → index < 2 ^ 16 → number ≤ index → own_at number (to_be_bytes w16 index ++ rest) ≡ failed (Value × List ℕ) (halt_at kinds.OwnIndex (to_be_bytes w16 index ++ rest))
unfolding own_at
own_told number index rest fits late =
    then_is (number_at w16 (to_be_bytes w16 index ++ rest)) _ (index, rest) _ (u16_again index rest fits)
    (judge_fails (ltb index number) kinds.OwnIndex (to_be_bytes w16 index ++ rest) _ (not_below index number late))

pub value_told : (number : ℕ) (front : List ℕ) (kind : CodecKind) (at : ℕ) → ValueFault number front kind at → (rest : List ℕ) → IsTold (value_at number (front ++ rest)) (length (front ++ rest)) kind at
unfolding value_at
value_told number front kind at (value_tag tag big) rest = record { left = length (tag ∷ rest); is = value_tag_told number tag rest big; place = omega arith }
value_told number front k at (in_text inner kind at_inner f) rest =
    let t = text_told 1024 (omega arith) inner kind at_inner f rest in
    record {
      left = t.left;
      is = fails_first (text_at 1024 (inner ++ rest)) _ (record { kind = kind; left = t.left }) t.is;
      place = next at_inner t.left (length (inner ++ rest)) t.place;
    }
  where
    next : (a l n : ℕ) → a + l ≡ n → (1 + a) + l ≡ suc n
    next a l n e = omega arith
value_told number front kind at (flag_tag flag big) rest = record { left = length (flag ∷ rest); is = flag_told flag rest big; place = omega arith }
value_told number front kind at (later_own index fits late) rest = record { left = length (to_be_bytes w16 index ++ rest); is = own_told number index rest fits late; place = omega arith }

-- a value that fails behind others
values_told : (number n : ℕ) (values : List Value) (bytes : List ℕ) (h : Halt) → number ≤ 256 → length values < n → AllByRecursion (IsValue number) values → value_at number bytes ≡ failed (Value × List ℕ) h
    → values_at number n (flat_map spell.value values ++ bytes) ≡ failed (List Value × List ℕ) h
unfolding values_at
values_told number zero values bytes h small few are e = absurd (omega arith)
values_told number (suc n) [] bytes h small few are e = fails_first (value_at number bytes) _ h e
values_told number (suc n) (value ∷ values) bytes h small few are e =
    rw (append_assoc (spell.value value) (flat_map spell.value values) bytes)
    (then_is (value_at number (spell.value value ++ (flat_map spell.value values ++ bytes))) _ (value, flat_map spell.value values ++ bytes) _ (value_again number value _ small are.0)
    (fails_first (values_at number n (flat_map spell.value values ++ bytes)) _ h (values_told number n values bytes h small (omega arith) are.1 e)))

-- an insert that has a faulty value behind others
insert_told : (number table n : ℕ) (values : List Value) (bytes : List ℕ) (h : Halt) → number ≤ 256 → IsValueCount n → length values < n → AllByRecursion (IsValue number) values → value_at number bytes ≡ failed (Value × List ℕ) h
    → insert_at number (table ∷ n ∷ (flat_map spell.value values ++ bytes)) ≡ failed (Op × List ℕ) h
unfolding insert_at
insert_told number table n values bytes h small count few are e =
    judge_is (leb 1 n && leb n 16) kinds.Count (n ∷ (flat_map spell.value values ++ bytes)) _ _ (within 1 n 16 count.0 count.1)
    (fails_first (values_at number n (flat_map spell.value values ++ bytes)) _ h (values_told number n values bytes h small few are e))

count_told : (number table n : ℕ) (rest : List ℕ) → ¬ (IsValueCount n) → insert_at number (table ∷ n ∷ rest) ≡ failed (Op × List ℕ) (halt_at kinds.Count (n ∷ rest))
unfolding insert_at
count_told number table n rest bad = judge_fails (leb 1 n && leb n 16) kinds.Count (n ∷ rest) _ (outside 1 n 16 bad)

pub op_told : (number : ℕ) → number ≤ 256 → (front : List ℕ) (kind : CodecKind) (at : ℕ) → OpFault number front kind at → (rest : List ℕ) → IsTold (op_at number (front ++ rest)) (length (front ++ rest)) kind at
unfolding op_at
op_told number small front kind at (op_tag tag not_1 not_2) rest = record { left = length (tag ∷ rest); is = op_tag_told number tag rest not_1 not_2; place = omega arith }
op_told number small front kind at (value_count table n bad) rest = record { left = length (n ∷ rest); is = count_told number table n rest bad; place = omega arith }
op_told number small front k at (in_value table n values inner kind at_inner count few are f) rest =
    let t = value_told number inner kind at_inner f rest in
    let flat : List ℕ = flat_map spell.value values in
    record {
      left = t.left;
      is = subst (λ (b : List ℕ). insert_at number (table ∷ n ∷ b) ≡ failed (Op × List ℕ) (record { kind = kind; left = t.left })) (sym (append_assoc flat inner rest))
          (insert_told number table n values (inner ++ rest) (record { kind = kind; left = t.left }) small count few are t.is);
      place = sums (length flat) at_inner t.left (length (inner ++ rest)) (length ((flat ++ inner) ++ rest)) t.place (ap length (append_assoc flat inner rest) ∙ length-append flat (inner ++ rest));
    }
  where
    sums : (f a l m b : ℕ) → a + l ≡ m → b ≡ f + m → (3 + f + a) + l ≡ suc (suc (suc b))
    sums f a l m b e g = omega arith

-- an operation that fails behind others
pub ops_told : (n number : ℕ) (ops : List Op) (bytes : List ℕ) (h : Halt) → number + length ops ≤ 256 → length ops < n → AreOps number ops → op_at (number + length ops) bytes ≡ failed (Op × List ℕ) h
    → ops_at n number (flat_map spell.op ops ++ bytes) ≡ failed (List Op × List ℕ) h
unfolding ops_at
ops_told zero number ops bytes h small few are e = absurd (omega arith)
ops_told (suc n) number [] bytes h small few are e = fails_first (op_at number bytes) _ h (subst (λ (k : ℕ). op_at k bytes ≡ failed (Op × List ℕ) h) (same number) e)
  where
    same : (n : ℕ) → n + 0 ≡ n
    same n = omega arith
ops_told (suc n) number (op ∷ ops) bytes h small few are e =
    rw (append_assoc (spell.op op) (flat_map spell.op ops) bytes)
    (then_is (op_at number (spell.op op ++ (flat_map spell.op ops ++ bytes))) _ (op, flat_map spell.op ops ++ bytes) _ (op_again number op _ (omega arith) are.0)
    (fails_first (ops_at n (number + 1) (flat_map spell.op ops ++ bytes)) _ h
    (ops_told n (number + 1) ops bytes h (omega arith) (omega arith) are.1 (subst (λ (k : ℕ). op_at k bytes ≡ failed (Op × List ℕ) h) (next number (length ops)) e))))
  where
    next : (a b : ℕ) → a + suc b ≡ a + 1 + b
    next a b = omega arith

-- A test of the bytes is the one of the definitions.
pub utf8_test : (b : Bool) (bytes : List ℕ) → IsTrue b ↔ IsUtf8 bytes → b ≡ is_utf8 bytes
utf8_test true bytes h = sym (is_utf8-from_IsUtf8 bytes (h.0 refl))
utf8_test false bytes h = sym (refuted (is_utf8 bytes) (λ e. let is = h.1 (IsUtf8-from_is_utf8 bytes e) in absurd cc))
