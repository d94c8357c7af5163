-- What the version tells of the note, and the note of the version.
use Rattle.std.proofs.Common.{◌≡◌, ◌≢◌, ℕ, zero, suc, ◌≤◌, Bool, true, false, List, [], refl, sym, ap, subst, arith, eqb, ◌||◌}
use Rattle.std.proofs.lemmas.Bool.Decides.{nat_tests}
use Rattle.std.proofs.lemmas.Str.{IsUtf8-nil}
use Rattle.std.specs.Prelude.{Option, Some, None, if◌then◌else◌}
use Rattle.update_model.specs.Form.{IsNote, most_ops}
use Rattle.update_codec.specs.Reading.{first_note}
use Rattle.update_codec.specs.Spelling as spell

-- the note of a body of which this one is not read yet
abbrev pub unread : Option (List ℕ) → Option (List ℕ)
unread noted = first_note (spell.version noted)

pub version_known : (noted : Option (List ℕ)) → (eqb (spell.version noted) 1 || eqb (spell.version noted) 2) ≡ true
version_known None = refl
version_known (Some text) = refl

pub unread_most : (noted : Option (List ℕ)) → most_ops (unread noted) ≡ most_ops noted
unread_most None = refl
unread_most (Some text) = refl

pub unread_few : (noted : Option (List ℕ)) (n : ℕ) → n ≤ most_ops noted → n ≤ most_ops (unread noted)
unread_few noted n h = subst (λ (m : ℕ). n ≤ m) (sym (unread_most noted)) h

-- no body has more operations
pub few_of : (noted : Option (List ℕ)) (n : ℕ) → n ≤ most_ops noted → n ≤ 256
few_of None n h = omega arith
few_of (Some text) n h = omega arith

pub same_most : (a b : Option (List ℕ)) → spell.version a ≡ spell.version b → most_ops a ≡ most_ops b
same_most None None e = refl
same_most None (Some text) e = absurd (omega (arith, e))
same_most (Some text) None e = absurd (omega (arith, e))
same_most (Some text) (Some other) e = refl

-- A version that is known is the one of its note.
pub version_is : (v : ℕ) → (eqb v 1 || eqb v 2) ≡ true → spell.version (first_note v) ≡ v
version_is zero h = absurd cc
version_is (suc zero) h = refl
version_is (suc (suc zero)) h = refl
version_is (suc (suc (suc v))) h = absurd (let g = other v in cc)
  where
    other : (v : ℕ) → (eqb (suc (suc (suc v))) 1 || eqb (suc (suc (suc v))) 2) ≡ false
    other v = grind (arith, nat_tests)

pub version_unknown : (v : ℕ) → (eqb v 1 || eqb v 2) ≡ false → (v ≢ 1) × (v ≢ 2)
version_unknown v h = (λ e. absurd (let g = at 1 e in cc), λ e. absurd (let g = at 2 e in cc))
  where
    at : (k : ℕ) → v ≡ k → (eqb k 1 || eqb k 2) ≡ false
    at k e = subst (λ (n : ℕ). (eqb n 1 || eqb n 2) ≡ false) e h

pub version_refused : (v : ℕ) → v ≢ 1 → v ≢ 2 → (eqb v 1 || eqb v 2) ≡ false
version_refused v h g = grind (arith, nat_tests)

-- The note of a known version is one that is not read yet.
pub first_unread : (v : ℕ) → (eqb v 1 || eqb v 2) ≡ true → first_note v ≡ unread (first_note v)
first_unread v h = sym (ap first_note (version_is v h))

pub first_is_note : (v : ℕ) → IsNote (first_note v)
first_is_note v = either (eqb v 1)
  where
    either : (plain : Bool) → IsNote (if plain then None else Some [])
    either true = tt
    either false = (omega arith, IsUtf8-nil)
