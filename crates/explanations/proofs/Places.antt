-- Where a word ends.
use Rattle.std.proofs.Common.{◌≡◌, ℕ, ◌≤◌, Bool, true, false, List, length, Some, None, cond, nat_lt, refl, arith}
use Rattle.std.specs.Prelude.{position, unwrap_or}
use Rattle.std.specs.List.{position_or_len}
use Rattle.std.proofs.lemmas.Bool.Decides.{nat_tests}
use Rattle.std.proofs.lemmas.List.Sums.{prefix_len-le-length}

by_test : (k n : ℕ) (b : Bool) → nat_lt k n ≡ b → k ≤ n → unwrap_or (cond b (Some k) None) n ≡ k
by_test k n true is le = refl
by_test k n false is le = grind (arith, nat_tests, is)

pub place_or_end : (p : ℕ → Bool) (bytes : List ℕ) → unwrap_or (position p bytes) (length bytes) ≡ position_or_len p bytes
place_or_end p bytes = by_test (position_or_len p bytes) (length bytes) (nat_lt (position_or_len p bytes) (length bytes)) refl (prefix_len-le-length _ bytes)
