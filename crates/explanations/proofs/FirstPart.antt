-- The first part of a text.
use Rattle.std.proofs.Common.{◌≡◌, ◌∙◌, ℕ, suc, ◌+◌, ◌-◌, ◌<◌, ◌≤◌, Bool, true, false, not, cond, ◌==◌, nat_lt, List, [], ◌∷◌, length, take, drop, Some, None, refl, sym, ap, subst, arith}
use Rattle.std.specs.Prelude.{position}
use Rattle.std.specs.List.{position_or_len}
use Rattle.std.proofs.lemmas.Bool.Decides.{nat_tests}
use Rattle.std.proofs.lemmas.List.{take_rest}
use Rattle.text_words.specs.Lines.{with_byte}
use Rattle.std.specs.Prelude.{bytes_eq, ◌||◌}
use Rattle.explanations.specs.Parts.{parts_of, has_word}

abbrev place_in : ℕ → List ℕ → ℕ
place_in end text = position_or_len (λ byte. byte == end) text

ended : (end b : ℕ) (bs : List ℕ) (n : ℕ) (here : Bool) → (b == end) ≡ here → n ≡ cond (not here) (1 + place_in end bs) 0
    → (place_in end bs < length bs → parts_of end bs ≡ take (place_in end bs) bs ∷ parts_of end (drop (place_in end bs + 1) bs))
    → n < length (b ∷ bs) → parts_of end (b ∷ bs) ≡ take n (b ∷ bs) ∷ parts_of end (drop (n + 1) (b ∷ bs))
unfolding parts_of
ended end b bs n true is at more inside = rw (is, at) refl
ended end b bs n false is at more inside =
    let next : n ≡ suc (place_in end bs) = omega (arith, at) in
    let later : n + 1 ≡ suc (place_in end bs + 1) = omega (arith, at) in
    rw (is, later, next) (ap (with_byte b) (more (omega (arith, at))))

pub part_found : (end : ℕ) (text : List ℕ) → place_in end text < length text
    → parts_of end text ≡ take (place_in end text) text ∷ parts_of end (drop (place_in end text + 1) text)
part_found end [] inside = absurd (omega arith)
part_found end (b ∷ bs) inside = ended end b bs (place_in end (b ∷ bs)) (b == end) refl refl (part_found end bs) inside

whole : (end b : ℕ) (bs : List ℕ) (here : Bool) → (b == end) ≡ here → (length bs ≤ place_in end bs → 0 < length bs → parts_of end bs ≡ bs ∷ []) → length (b ∷ bs) ≤ cond (not here) (1 + place_in end bs) 0
    → parts_of end (b ∷ bs) ≡ (b ∷ bs) ∷ []
unfolding parts_of
whole end b bs true is more far = absurd (omega (arith, far))
whole end b [] false is more far = rw is refl
whole end b (c ∷ bs) false is more far = rw is (ap (with_byte b) (more (omega (arith, far)) (omega arith)))

pub part_alone : (end : ℕ) (text : List ℕ) → length text ≤ place_in end text → 0 < length text → parts_of end text ≡ text ∷ []
part_alone end [] far some = absurd (omega arith)
part_alone end (b ∷ bs) far some = whole end b bs (b == end) refl (part_alone end bs) far

no_part : (end : ℕ) → parts_of end [] ≡ []
unfolding parts_of
no_part end = refl

-- the empty text has no part
pub none_left : (end : ℕ) (text : List ℕ) → length text ≡ 0 → parts_of end text ≡ []
none_left end [] none = no_part end
none_left end (b ∷ bs) none = absurd (omega (arith, none))

-- where the first byte that ends one is
found_at : (b : Bool) (k n : ℕ) → cond b (Some k) None ≡ Some n → (b ≡ true) × (k ≡ n)
found_at true k n e = (refl, grind (arith, e))
found_at false k n e = absurd cc

pub part_at : (end : ℕ) (text : List ℕ) (n : ℕ) → Some n ≡ position (λ byte. byte == end) text
    → parts_of end text ≡ take n text ∷ parts_of end (take (length text - (n + 1)) (drop (n + 1) text))
part_at end text n at =
    let found = found_at (nat_lt (place_in end text) (length text)) (place_in end text) n (sym at) in
    let inside : place_in end text < length text = let f = found.0 in grind (arith, nat_tests, f) in
    rw (take_rest text (n + 1)) (subst (λ k. parts_of end text ≡ take k text ∷ parts_of end (drop (k + 1) text)) found.1 (part_found end text inside))

pub part_without : (end : ℕ) (text : List ℕ) → 0 < length text → None ≡ position (λ byte. byte == end) text → parts_of end text ≡ text ∷ parts_of end []
part_without end text some none = by_test (nat_lt (place_in end text) (length text)) refl (sym none)
  where
    by_test : (b : Bool) → nat_lt (place_in end text) (length text) ≡ b → cond b (Some (place_in end text)) None ≡ None → parts_of end text ≡ text ∷ parts_of end []
    by_test true is e = absurd cc
    by_test false is e =
        let far : length text ≤ place_in end text = grind (arith, nat_tests, is) in
        part_alone end text far some ∙ ap (λ (ps : List (List ℕ)). text ∷ ps) (sym (no_part end))

-- the first word is this one
pub word_first : (word other : List ℕ) (words more : List (List ℕ)) → words ≡ other ∷ more → bytes_eq other word ≡ true → has_word word words ≡ true
word_first word other words more first same = ap (has_word word) first ∙ ap (λ (b : Bool). b || has_word word more) same
