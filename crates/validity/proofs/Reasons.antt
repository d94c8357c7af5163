-- The first of three reasons.
use Rattle.std.proofs.Common.{◌≡◌, Bool, true, false, not, ◌||◌, [], ◌∷◌, Some, None, refl, sym}
use Rattle.table_model.specs.Verdicts.{first_reason}

pub six_gone : (d m b c : Bool) → d ≡ false → Some 6 ≡ first_reason ((6, not d || m) ∷ (7, b) ∷ (8, c) ∷ [])
six_gone true m b c h = absurd (cc)
six_gone false m b c h = refl

pub six_twice : (d m b c : Bool) → m ≡ true → Some 6 ≡ first_reason ((6, not d || m) ∷ (7, b) ∷ (8, c) ∷ [])
six_twice true true b c h = refl
six_twice false true b c h = refl
six_twice d false b c h = absurd (cc)

pub seven : (d m b c : Bool) → d ≡ true → m ≡ false → b ≡ true → Some 7 ≡ first_reason ((6, not d || m) ∷ (7, b) ∷ (8, c) ∷ [])
seven d m b c d-is m-is b-is = sym (λ i. first_reason ((6, not (d-is i) || m-is i) ∷ (7, b-is i) ∷ (8, c) ∷ []))

pub eight : (d m b c : Bool) → d ≡ true → m ≡ false → b ≡ false → c ≡ true → Some 8 ≡ first_reason ((6, not d || m) ∷ (7, b) ∷ (8, c) ∷ [])
eight d m b c d-is m-is b-is c-is = sym (λ i. first_reason ((6, not (d-is i) || m-is i) ∷ (7, b-is i) ∷ (8, c-is i) ∷ []))

pub no_reason : (d m b c : Bool) → d ≡ true → m ≡ false → b ≡ false → c ≡ false → None ≡ first_reason ((6, not d || m) ∷ (7, b) ∷ (8, c) ∷ [])
no_reason d m b c d-is m-is b-is c-is = sym (λ i. first_reason ((6, not (d-is i) || m-is i) ∷ (7, b-is i) ∷ (8, c-is i) ∷ []))

-- where no reason applies, the name is not deleted yet
pub not_twice : (d m b c : Bool) → first_reason ((6, not d || m) ∷ (7, b) ∷ (8, c) ∷ []) ≡ None → m ≡ false
not_twice d false b c h = refl
not_twice true true b c h = absurd cc
not_twice false true b c h = absurd cc
