-- Two updates that are signed and a pair are doubled.
use Rattle.std.proofs.Common.{◌≡◌, ℕ, List, sym, subst}
use Rattle.std.specs.Prelude.{Option, Some, None, MatchOption}
use Rattle.update_model.specs.declared.author_key.AuthorKey.{AuthorKey}
use Rattle.update_check.specs.Signed.{IsSigned}
use Rattle.key_audit.specs.Doubles.{AreDoubled, ArePair}

pub confirmed : (first second one two : List ℕ) (found : Option (AuthorKey × ℕ)) → one ≡ first → two ≡ second → IsSigned first → IsSigned second
    → MatchOption found ((key : AuthorKey) (index : ℕ) → ArePair one two key index → ⊥) (λ pair. ArePair one two pair.0 pair.1)
    → MatchOption found ((key : AuthorKey) (index : ℕ) → AreDoubled first second key index → ⊥) (λ pair. AreDoubled first second pair.0 pair.1)
confirmed first second one two None a b signed other none =
    λ key index doubled. none key index (subst (λ (x : List ℕ). ArePair x two key index) (sym a) (subst (λ (x : List ℕ). ArePair first x key index) (sym b) doubled.pair))
confirmed first second one two (Some pair) a b signed other is = record {
  first_signed = signed;
  second_signed = other;
  pair = subst (λ (x : List ℕ). ArePair first x pair.0 pair.1) b (subst (λ (x : List ℕ). ArePair x two pair.0 pair.1) a is);
}
