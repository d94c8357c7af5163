-- Lines one after another.
use Rattle.std.proofs.Common.{Option, length-drop, zero, suc, ◌≡◌, ◌≢◌, ℕ, ◌+◌, ◌≤◌, ◌<◌, Bool, true, false, ◌&&◌, ◌==◌, nat_lt, List, [], ◌∷◌, ◌++◌, length, take, drop, Some, None, cond, refl, sym, ap, subst, ◌∙◌, append_assoc, arith, inl, inr, not, ◌-◌, get_or}
use Rattle.std.specs.Prelude.{position}
use Rattle.std.specs.List.{AllByRecursion, position_or_len, before_first, after_first}
use Rattle.std.proofs.lemmas.List.Sums.{split_at_first, passes_at_first}
use Rattle.std.proofs.lemmas.Bool.Decides.{nat_tests}
use Rattle.std.proofs.lemmas.List.{append-nil, take_rest, take_all}
use Rattle.text_words.specs.Lines.{lines_of, with_byte, begins_with_lf, is_lf, EndsInNoCr, LosesCr, MayEnd, lf, cr_lf, text_end, Begins, AreLines, no_line, one_line}

abbrev NoLf : List ℕ → Type 0
NoLf line = AllByRecursion (λ byte. byte ≢ 10) line

-- a byte that is no LF, and is no CR before an LF, is the first of a line
joins : (b : ℕ) (rest : List ℕ) → b ≢ 10 → (b == 13 && begins_with_lf rest) ≡ false → lines_of (b ∷ rest) ≡ with_byte b (lines_of rest)
unfolding lines_of
joins b rest no_lf no_cr =
    let other : is_lf b ≡ false = grind (arith, nat_tests, no_lf) in
    rw (other, no_cr) refl

and_false : (b : Bool) → (b && false) ≡ false
and_false true = refl
and_false false = refl

-- no LF stands first in a line, or in what follows an empty one
starts : (line rest : List ℕ) → NoLf line → begins_with_lf rest ≡ false → begins_with_lf (line ++ rest) ≡ false
starts [] rest h e = e
starts (b ∷ bs) rest h e = let n = h.0 in grind (arith, nat_tests, n)

pub before_cr_lf : (line rest : List ℕ) → NoLf line → lines_of (line ++ (13 ∷ 10 ∷ rest)) ≡ line ∷ lines_of rest
unfolding lines_of
before_cr_lf [] rest h = refl
before_cr_lf (b ∷ bs) rest h =
    let s = starts bs (13 ∷ 10 ∷ rest) h.1 refl in
    joins b (bs ++ (13 ∷ 10 ∷ rest)) h.0 (ap (λ t. b == 13 && t) s ∙ and_false (b == 13)) ∙ ap (with_byte b) (before_cr_lf bs rest h.1)

no_cr_after : (b c : ℕ) (bs : List ℕ) → EndsInNoCr (b ∷ c ∷ bs) → EndsInNoCr (c ∷ bs)
no_cr_after b c bs h front e = h (b ∷ front) (ap (λ xs. b ∷ xs) e)

pub before_lf : (line rest : List ℕ) → NoLf line → EndsInNoCr line → lines_of (line ++ (10 ∷ rest)) ≡ line ∷ lines_of rest
unfolding lines_of
before_lf [] rest h no_cr = refl
before_lf (b ∷ []) rest h no_cr =
    let other : (b == 13) ≡ false = grind (arith, nat_tests, no_cr []) in
    joins b (10 ∷ rest) h.0 (rw other refl) ∙ refl
before_lf (b ∷ c ∷ bs) rest h no_cr =
    let s = starts (c ∷ bs) [] h.1 refl in
    let n : begins_with_lf (c ∷ (bs ++ (10 ∷ rest))) ≡ false = let m = h.1.0 in grind (arith, nat_tests, m) in
    joins b (c ∷ (bs ++ (10 ∷ rest))) h.0 (ap (λ t. b == 13 && t) n ∙ and_false (b == 13)) ∙ ap (with_byte b) (before_lf (c ∷ bs) rest h.1 (no_cr_after b c bs no_cr))

pub at_end : (b : ℕ) (bs : List ℕ) → NoLf (b ∷ bs) → lines_of (b ∷ bs) ≡ (b ∷ bs) ∷ []
unfolding lines_of
at_end b [] h = joins b [] h.0 (and_false (b == 13))
at_end b (c ∷ bs) h =
    let n : begins_with_lf (c ∷ bs) ≡ false = let m = h.1.0 in grind (arith, nat_tests, m) in
    joins b (c ∷ bs) h.0 (ap (λ t. b == 13 && t) n ∙ and_false (b == 13)) ∙ ap (with_byte b) (at_end c bs h.1)

last_line : (line : List ℕ) → NoLf line → 0 < length line → lines_of line ≡ line ∷ []
last_line [] h some = absurd (omega arith)
last_line (b ∷ bs) h some = at_end b bs h

ended : {line end rest : List ℕ} → NoLf line → MayEnd line end rest → lines_of (line ++ (end ++ rest)) ≡ line ∷ lines_of rest
unfolding lines_of
ended h (lf line rest no_cr) = before_lf line rest h no_cr
ended h (cr_lf line rest) = before_cr_lf line rest h
ended h (text_end line some) = ap lines_of (append-nil line) ∙ last_line line h some

-- the lines of a text are its first line and the lines of the rest
pub first_and_rest : (text line rest : List ℕ) → Begins text line rest → lines_of text ≡ line ∷ lines_of rest
first_and_rest text line rest b = ap lines_of b.parts ∙ ended b.no_lf b.may_end

-- where the first LF is
found_at : (b : Bool) (k n : ℕ) → cond b (Some k) None ≡ Some n → (b ≡ true) × (k ≡ n)
found_at true k n e = (refl, grind (arith, e))
found_at false k n e = absurd cc

no_lf_before : (text : List ℕ) → NoLf (take (position_or_len is_lf text) text)
no_lf_before [] = tt
no_lf_before (b ∷ bs) = by_first b bs (is_lf b) refl (no_lf_before bs)
  where
    by_first : (b : ℕ) (bs : List ℕ) (first : Bool) → is_lf b ≡ first → NoLf (take (position_or_len is_lf bs) bs) → NoLf (take (cond (not first) (1 + position_or_len is_lf bs) 0) (b ∷ bs))
    by_first b bs true e h = tt
    by_first b bs false e h =
        let one : 1 + position_or_len is_lf bs ≡ suc (position_or_len is_lf bs) = omega arith in
        rw one (λ same. grind (arith, nat_tests, same, e), h)

front_no_lf : (front back : List ℕ) → NoLf (front ++ back) → NoLf front
front_no_lf [] back h = tt
front_no_lf (b ∷ bs) back h = (h.0, front_no_lf bs back h.1)

-- a line before an LF, which may end in a CR
begins_by : (whole text line rest : List ℕ) → text ≡ whole ++ (10 ∷ rest) → NoLf whole → LosesCr whole line → Begins text line rest
begins_by whole text line rest parts no_lf (inl cr) = record {
  end = 13 ∷ 10 ∷ [];
  no_lf = front_no_lf line (13 ∷ []) (subst NoLf cr no_lf);
  may_end = cr_lf line rest;
  parts = parts ∙ (ap (λ w. w ++ (10 ∷ rest)) cr ∙ append_assoc line (13 ∷ []) (10 ∷ rest));
}
begins_by whole text line rest parts no_lf (inr same) = record {
  end = 10 ∷ [];
  no_lf = subst NoLf (sym same.0) no_lf;
  may_end = lf line rest (subst EndsInNoCr (sym same.0) same.1);
  parts = parts ∙ ap (λ w. w ++ (10 ∷ rest)) (sym same.0);
}

pub begins_at_lf : (text line : List ℕ) (n : ℕ) → Some n ≡ position is_lf text → LosesCr (take n text) line → Begins text line (take (length text - (n + 1)) (drop (n + 1) text))
begins_at_lf text line n at loses =
    let found = found_at (nat_lt (position_or_len is_lf text) (length text)) (position_or_len is_lf text) n (sym at) in
    let inside : position_or_len is_lf text < length text = let f = found.0 in grind (arith, nat_tests, f) in
    let split = split_at_first is_lf text 0 inside in
    let byte : get_or text (position_or_len is_lf text) 0 ≡ 10 = let p = passes_at_first is_lf text 0 inside in grind (arith, nat_tests, p) in
    let parts : text ≡ take n text ++ (10 ∷ drop (n + 1) text) = subst (λ k. text ≡ take k text ++ (10 ∷ drop (k + 1) text)) found.1 (split ∙ ap (λ b. before_first is_lf text ++ (b ∷ after_first is_lf text)) byte) in
    let no_lf : NoLf (take n text) = subst (λ k. NoLf (take k text)) found.1 (no_lf_before text) in
    rw (take_rest text (n + 1)) (begins_by (take n text) text line (drop (n + 1) text) parts no_lf loses)

no_lf_in : (text : List ℕ) → None ≡ position is_lf text → NoLf text
no_lf_in text none = by_test (nat_lt (position_or_len is_lf text) (length text)) refl (sym none)
  where
    by_test : (b : Bool) → nat_lt (position_or_len is_lf text) (length text) ≡ b → cond b (Some (position_or_len is_lf text)) None ≡ None → NoLf text
    by_test true is e = absurd cc
    by_test false is e =
        let far : length text ≤ position_or_len is_lf text = grind (arith, nat_tests, is) in
        subst NoLf (take_all (position_or_len is_lf text) text far) (no_lf_before text)

pub begins_at_end : (text : List ℕ) → 0 < length text → None ≡ position is_lf text → Begins text text []
begins_at_end text some none = record { end = []; no_lf = no_lf_in text none; may_end = text_end text some; parts = sym (append-nil text) }

-- each line before an LF has what is left without a CR
loses : (line : List ℕ) → (less : List ℕ) × LosesCr line less
loses [] = ([], inr (refl, λ front e. front_cr front e))
  where
    front_cr : (front : List ℕ) → [] ≡ front ++ 13 ∷ [] → ⊥
    front_cr [] e = cc
    front_cr (f ∷ fs) e = cc
loses (b ∷ bs) = loses_more b bs (loses bs)
  where
    tail_of : (b : ℕ) (bs front : List ℕ) → 0 < length bs → EndsInNoCr bs → b ∷ bs ≡ front ++ 13 ∷ [] → ⊥
    tail_of b bs [] some h e = let none : length bs ≡ 0 = ap (λ xs. length (drop 1 xs)) e in omega arith
    tail_of b bs (f ∷ fs) some h e = h fs (ap (drop 1) e)

    alone : (b : ℕ) (cr : Bool) → (b == 13) ≡ cr → (less : List ℕ) × LosesCr (b ∷ []) less
    alone b true is = ([], inl (ap (λ x. x ∷ []) (grind (arith, nat_tests, is))))
    alone b false is = (b ∷ [], inr (refl, λ front e. only_cr b is front e))
      where
        only_cr : (b : ℕ) → (b == 13) ≡ false → (front : List ℕ) → b ∷ [] ≡ front ++ 13 ∷ [] → ⊥
        only_cr b is [] e = let same : b ≡ 13 = ap (λ xs. get_or xs 0 0) e in grind (arith, nat_tests, is, same)
        only_cr b is (f ∷ []) e = cc
        only_cr b is (f ∷ g ∷ fs) e = cc

    loses_more : (b : ℕ) (bs : List ℕ) → (less : List ℕ) × LosesCr bs less → (less : List ℕ) × LosesCr (b ∷ bs) less
    loses_more b [] h = alone b (b == 13) refl
    loses_more b (c ∷ bs) (less, inl cr) = (b ∷ less, inl (ap (λ xs. b ∷ xs) cr))
    loses_more b (c ∷ bs) (less, inr same) = (b ∷ c ∷ bs, inr (refl, λ front e. tail_of b (c ∷ bs) front (omega arith) same.1 e))

pub lines_from_rules : {text : List ℕ} {lines : List (List ℕ)} → AreLines text lines → lines ≡ lines_of text
unfolding lines_of
lines_from_rules no_line = refl
lines_from_rules (one_line text line rest lines begins more) = ap (λ ls. line ∷ ls) (lines_from_rules more) ∙ sym (first_and_rest text line rest begins)

one_more : (text line rest : List ℕ) → Begins text line rest → AreLines rest (lines_of rest) → AreLines text (lines_of text)
one_more text line rest begins more = subst (AreLines text) (sym (first_and_rest text line rest begins)) (one_line text line rest (lines_of rest) begins more)

by_place : (text : List ℕ) (place : Option ℕ) → place ≡ position is_lf text → 0 < length text
    → ((rest : List ℕ) → length rest < length text → AreLines rest (lines_of rest)) → AreLines text (lines_of text)
by_place text None at some shorter = one_more text text [] (begins_at_end text some at) (shorter [] some)
by_place text (Some n) at some shorter =
    let less = loses (take n text) in
    let rest = drop (n + 1) text in
    let begins : Begins text less.0 rest = rw (take_rest text (n + 1)) at (begins_at_lf text less.0 n at less.1) in
    one_more text less.0 rest begins (shorter rest (omega (arith, length-drop (n + 1) text)))

lines_within : (n : ℕ) (text : List ℕ) → length text ≤ n → AreLines text (lines_of text)
unfolding lines_of
lines_within n [] le = no_line
lines_within zero (b ∷ bs) le = absurd (omega arith)
lines_within (suc n) (b ∷ bs) le = by_place (b ∷ bs) (position is_lf (b ∷ bs)) refl (omega arith) (λ rest low. lines_within n rest (omega arith))

pub lines_by_rules : (text : List ℕ) → AreLines text (lines_of text)
lines_by_rules text = lines_within (length text) text (omega arith)
