-- Fronts of what was given.
use Rattle.std.proofs.Common.{◌≡◌, ◌∙◌, ℕ, ◌-◌, ◌≤◌, Bool, true, false, List, [], ◌∷◌, ◌++◌, length, take, zero, suc, refl, sym, ap, subst, arith, length-take}
use Rattle.std.specs.Prelude.{Result, Ok, Err, is_err, is_ok, if◌then◌else◌}
use Rattle.std.proofs.lemmas.List.{take-append-le}
use Rattle.explanations.specs.Recorded.{IsFrontWithin}

-- a front of two texts is a front of the first, and of the second what there is room for
take_both : (n : ℕ) (given more : List ℕ) → take n (given ++ more) ≡ take n given ++ take (n - length (take n given)) more
take_both zero given more = refl
take_both (suc n) [] more = let whole : suc n ≡ suc n - 0 = omega arith in ap (λ (k : ℕ). take k more) whole
take_both (suc n) (b ∷ bs) more =
    let room : suc n - length (b ∷ take n bs) ≡ n - length (take n bs) = omega arith in
    ap (λ (xs : List ℕ). b ∷ xs) (take_both n bs more) ∙ ap (λ (k : ℕ). (b ∷ take n bs) ++ take k more) (sym room)

-- a front stays one
front_stays : (limit n : ℕ) (kept given more : List ℕ) → n ≤ limit → kept ≡ take n given → (m : ℕ) × (m ≤ limit) × (kept ≡ take m (given ++ more))
front_stays limit n kept given more within is =
    let low : length (take n given) ≤ length given = omega (arith, length-take n given) in
    let short : length (take n given) ≤ n = omega (arith, length-take n given) in
    (length (take n given), omega arith, is ∙ (whole n given ∙ sym (take-append-le (length (take n given)) given more low)))
  where
    whole : (n : ℕ) (given : List ℕ) → take n given ≡ take (length (take n given)) given
    whole zero given = refl
    whole (suc n) [] = refl
    whole (suc n) (b ∷ bs) = ap (λ (xs : List ℕ). b ∷ xs) (whole n bs)

pub front_after : {T E : Type 0} (r : Result T E) (limit : ℕ) (before after : Bool) (kept some new given more : List ℕ) → before ≡ false → after ≡ is_err r
    → some ≡ take (limit - length kept) more → new ≡ (if is_ok r then kept ++ some else kept) → IsFrontWithin limit before kept given → IsFrontWithin limit after new (given ++ more)
front_after r limit true after kept some new given more was now is_some is_new front = absurd cc
front_after (Ok x) limit false after kept some new given more was now is_some is_new front =
    subst (λ (b : Bool). IsFrontWithin limit b new (given ++ more)) (sym now)
    (is_new ∙ (ap (λ (s : List ℕ). kept ++ s) is_some ∙ (ap (λ (k : List ℕ). k ++ take (limit - length k) more) front ∙ sym (take_both limit given more))))
front_after (Err e) limit false after kept some new given more was now is_some is_new front =
    subst (λ (b : Bool). IsFrontWithin limit b new (given ++ more)) (sym now) (front_stays limit limit new given more (omega arith) (is_new ∙ front))
