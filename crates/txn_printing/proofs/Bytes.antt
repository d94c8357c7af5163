-- Bytes that are printed.
use Rattle.std.proofs.Common.{◌≡◌, ℕ, ◌+◌, ◌/◌, ◌%◌, ◌<◌, ◌==◌, nat_lt, Bool, true, false, ◌||◌, List, [], ◌∷◌, cond, refl, arith}
use Rattle.std.specs.Char.{digit_char}
use Rattle.std.specs.List.{AllByRecursion, flat_map}
use Rattle.std.proofs.lemmas.Bool.Decides.{nat_tests}
use Rattle.text_words.specs.Printing.{escaped, quoted}
use Rattle.txn_printing.proofs.Values.{Stands, all_join}

-- no byte below a blank
abbrev pub IsPrinted : ℕ → Type 0
IsPrinted byte = 31 < byte

by_test : (P : List ℕ → Type 0) (b : Bool) (x y : List ℕ) → (b ≡ true → P x) → (b ≡ false → P y) → P (cond b x y)
by_test P true x y f g = f refl
by_test P false x y f g = g refl

digit_printed : (d : ℕ) → IsPrinted (digit_char d)
digit_printed d = by_size (nat_lt d 10)
  where
    by_size : (small : Bool) → IsPrinted (cond small (48 + d) (87 + d))
    by_size true = omega arith
    by_size false = omega arith

escaped_printed : (byte : ℕ) → AllByRecursion IsPrinted (escaped byte)
escaped_printed byte =
    let P : List ℕ → Type 0 = λ text. AllByRecursion IsPrinted text in
    by_test P (byte == 34) _ _ (λ is. (omega arith, (omega arith, tt)))
    (λ quote. by_test P (byte == 92) _ _ (λ is. (omega arith, (omega arith, tt)))
    (λ slash. by_test P (byte == 10) _ _ (λ is. (omega arith, (omega arith, tt)))
    (λ newline. by_test P (byte == 9) _ _ (λ is. (omega arith, (omega arith, tt)))
    (λ tab. by_test P (nat_lt byte 32 || byte == 127) _ _ (λ is. (omega arith, (omega arith, (digit_printed (byte / 16), (digit_printed (byte % 16), tt)))))
    (λ plain. (grind (arith, nat_tests, plain), tt))))))

text_printed : (text : List ℕ) → AllByRecursion IsPrinted (flat_map escaped text)
text_printed [] = tt
text_printed (b ∷ bs) = all_join IsPrinted (escaped b) (flat_map escaped bs) (escaped_printed b) (text_printed bs)

pub quoted_printed : (text : List ℕ) → AllByRecursion IsPrinted (quoted text)
quoted_printed text = (omega arith, all_join IsPrinted (flat_map escaped text) (34 ∷ []) (text_printed text) (omega arith, tt))

pub stands_printed : (text : List ℕ) → AllByRecursion Stands text → AllByRecursion IsPrinted text
stands_printed [] all = tt
stands_printed (b ∷ bs) all = let low = all.0 in (omega (arith, low), stands_printed bs all.1)
