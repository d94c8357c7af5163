-- What the input is by what was read of it.
use Rattle.std.proofs.Common.{◌≡◌, ℕ, ◌+◌, ◌<◌, ◌≤◌, Bool, true, false, List, length, ap, ◌∙◌, take, length-take, Option, Some, None, arith, nat_lt, refl}
use Rattle.std.proofs.lemmas.List.{take_all}
use Rattle.std.proofs.lemmas.Bool.Decides.{nat_tests}
use Rattle.schema_verdict.specs.Inputs.{IsWholeText, ReadsText}
use Rattle.seal_commands.specs.Inputs.{IsLongText}

-- a front that is no longer than the limit is all
all_of : (limit : ℕ) (input : List ℕ) → length (take (limit + 1) input) ≤ limit → take (limit + 1) input ≡ input
all_of limit input fits = by_case (nat_lt limit (length input)) refl
  where
    by_case : (b : Bool) → nat_lt limit (length input) ≡ b → take (limit + 1) input ≡ input
    by_case true e =
        let many : limit < length input = grind (arith, nat_tests) in
        let taken : length (take (limit + 1) input) ≡ limit + 1 = simp length-take (omega arith) in
        absurd (omega (arith, taken, fits))
    by_case false e = take_all (limit + 1) input (grind (arith, nat_tests))

-- and one that is longer shows that there is more
more_of : (limit : ℕ) (input : List ℕ) → limit < length (take (limit + 1) input) → limit < length input
more_of limit input over = by_case (nat_lt limit (length input)) refl
  where
    by_case : (b : Bool) → nat_lt limit (length input) ≡ b → limit < length input
    by_case true e = grind (arith, nat_tests)
    by_case false e =
        let few : length input ≤ limit = grind (arith, nat_tests) in
        let all = ap length (take_all (limit + 1) input (omega arith)) in
        absurd (omega (arith, all, over, few))

pub whole_read : (limit : ℕ) (before after : Option (List ℕ)) (text : List ℕ) → ReadsText limit before after text → length text ≤ limit → IsWholeText limit before after text
whole_read limit None after text reads fits = tt
whole_read limit (Some input) after text reads fits =
    let front : length (take (limit + 1) input) ≤ limit = (let same = ap length reads.0 in omega (arith, same, fits)) in
    (reads.0 ∙ all_of limit input front, reads.1)

pub long_read : (limit : ℕ) (before after : Option (List ℕ)) (text : List ℕ) → ReadsText limit before after text → limit < length text → IsLongText limit before after
long_read limit None after text reads over = tt
long_read limit (Some input) after text reads over =
    let front : limit < length (take (limit + 1) input) = (let same = ap length reads.0 in omega (arith, same, over)) in
    (more_of limit input front, reads.1)
