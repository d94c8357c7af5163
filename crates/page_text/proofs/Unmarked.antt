-- What is written of a text has no marks.
use Rattle.std.proofs.Common.{◌≡◌, ℕ, ◌==◌, Bool, true, false, List, [], ◌∷◌, refl, sym, subst}
use Rattle.std.specs.List.{AllByRecursion}
use Rattle.std.proofs.lemmas.Bool.{eqb-false, eqb-true}
use Rattle.table_model.proofs.Each.{each-append}
use Rattle.page_text.specs.Marks.{IsNoMark, html_byte, html_text}

-- a byte of which no mark is told
plain : (n : ℕ) → (n == 60) ≡ false → (n == 62) ≡ false → (n == 34) ≡ false → (n == 0) ≡ false → IsNoMark n
plain n a b c d = record { begins_none = eqb-false n 60 a; ends_none = eqb-false n 62 b; ends_no_value = eqb-false n 34 c; may_stand = eqb-false n 0 d }

abbrev HasNoMark : ℕ → Type 0
HasNoMark n = AllByRecursion IsNoMark (html_byte n)

at_0 : HasNoMark 0
at_0 = (plain 92 refl refl refl refl, (plain 120 refl refl refl refl, (plain 48 refl refl refl refl, (plain 48 refl refl refl refl, tt))))

at_34 : HasNoMark 34
at_34 = (plain 38 refl refl refl refl, (plain 113 refl refl refl refl, (plain 117 refl refl refl refl, (plain 111 refl refl refl refl, (plain 116 refl refl refl refl, (plain 59 refl refl refl refl, tt))))))

at_38 : HasNoMark 38
at_38 = (plain 38 refl refl refl refl, (plain 97 refl refl refl refl, (plain 109 refl refl refl refl, (plain 112 refl refl refl refl, (plain 59 refl refl refl refl, tt)))))

at_60 : HasNoMark 60
at_60 = (plain 38 refl refl refl refl, (plain 108 refl refl refl refl, (plain 116 refl refl refl refl, (plain 59 refl refl refl refl, tt))))

at_62 : HasNoMark 62
at_62 = (plain 38 refl refl refl refl, (plain 103 refl refl refl refl, (plain 116 refl refl refl refl, (plain 59 refl refl refl refl, tt))))

module _ (byte : ℕ) where
  at_byte : (k : ℕ) → HasNoMark k → (byte == k) ≡ true → HasNoMark byte
  at_byte k h e = subst HasNoMark (sym (eqb-true byte k e)) h

  at_other : (byte == 0) ≡ false → (byte == 34) ≡ false → (byte == 38) ≡ false → (byte == 60) ≡ false → (byte == 62) ≡ false → HasNoMark byte
  at_other a b c d e = rw (a, b, c, d, e) (plain byte d e b a, tt)

unmarked : (byte : ℕ) → HasNoMark byte
unmarked byte = by_0 (byte == 0) refl
  where
    by_62 : (g : Bool) → (byte == 62) ≡ g → (byte == 0) ≡ false → (byte == 34) ≡ false → (byte == 38) ≡ false → (byte == 60) ≡ false → HasNoMark byte
    by_62 true e i j k l = at_byte byte 62 at_62 e
    by_62 false e i j k l = at_other byte i j k l e

    by_60 : (g : Bool) → (byte == 60) ≡ g → (byte == 0) ≡ false → (byte == 34) ≡ false → (byte == 38) ≡ false → HasNoMark byte
    by_60 true e i j k = at_byte byte 60 at_60 e
    by_60 false e i j k = by_62 (byte == 62) refl i j k e

    by_38 : (g : Bool) → (byte == 38) ≡ g → (byte == 0) ≡ false → (byte == 34) ≡ false → HasNoMark byte
    by_38 true e i j = at_byte byte 38 at_38 e
    by_38 false e i j = by_60 (byte == 60) refl i j e

    by_34 : (g : Bool) → (byte == 34) ≡ g → (byte == 0) ≡ false → HasNoMark byte
    by_34 true e i = at_byte byte 34 at_34 e
    by_34 false e i = by_38 (byte == 38) refl i e

    by_0 : (g : Bool) → (byte == 0) ≡ g → HasNoMark byte
    by_0 true e = at_byte byte 0 at_0 e
    by_0 false e = by_34 (byte == 34) refl e

pub no_marks : (text : List ℕ) → AllByRecursion IsNoMark (html_text text)
no_marks [] = tt
no_marks (byte ∷ text) = each-append IsNoMark (html_byte byte) (html_text text) (unmarked byte) (no_marks text)
