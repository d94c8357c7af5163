-- The operations of an entry are gone through from the first one on.
use Rattle.std.proofs.Common.{◌≡◌, ◌∙◌, ℕ, suc, ◌+◌, ◌<◌, false, cond, List, length, drop, get_or, ap, arith, bytes_eq}
use Rattle.std.proofs.Math.Seq.{drop-cons}
use Rattle.std.specs.Fmt.{decimal}
use Rattle.update_model.specs.declared.op.Op.{Op}
use Rattle.log_texts.specs.Finding.{inserting, inserts_so}

one_more : (digits : List ℕ) (ops : List Op) (number : ℕ) (d : Op) → number < length ops
    → inserts_so digits number (drop number ops) ≡ cond (bytes_eq (decimal number) digits) (inserting (get_or ops number d)) (inserts_so digits (number + 1) (drop (number + 1) ops))
one_more digits ops number d low =
    let next : suc number ≡ number + 1 = omega arith in
    let first = cond (bytes_eq (decimal number) digits) (inserting (get_or ops number d)) in
    ap (inserts_so digits number) (drop-cons ops number d low) ∙ ap (λ k. first (inserts_so digits (number + 1) (drop k ops))) next

-- the operation is none up to here
pub inserts_later : (digits : List ℕ) (ops : List Op) (number : ℕ) (d : Op) → number < length ops → bytes_eq (decimal number) digits ≡ false
    → inserts_so digits number (drop number ops) ≡ inserts_so digits (number + 1) (drop (number + 1) ops)
inserts_later digits ops number d low is = one_more digits ops number d low ∙ ap (λ b. cond b (inserting (get_or ops number d)) (inserts_so digits (number + 1) (drop (number + 1) ops))) is
