-- Updates that are fetched in one turn.
use Rattle.std.specs.Prelude.{◌≡◌, ◌⊎◌, ◌||◌, ℕ, ◌+◌, ◌<◌, ◌≤◌, All, Bool, true, List, filter_map, length, nat_le, slice_get, sum_by, take}
use Rattle.update_codec.specs.declared.limits.TheConstants.{UPDATE_LIMIT}
use Rattle.shared_replica.specs.declared.limits.TheConstants.{PIECE_BYTES, PIECE_UPDATES}

-- whether so many updates, of so many bytes, make up a piece
abbrev pub is_full : ℕ → ℕ → Bool
is_full count size = nat_le PIECE_UPDATES count || nat_le PIECE_BYTES size

-- A piece is what stands among the updates at the first of these positions, in order. It ends where the positions end, or once it is full.
pub record IsPieceOf (us : List (List ℕ)) (positions : List ℕ) (piece : List (List ℕ)) : Type 0 where
  pub there : filter_map (slice_get us) (take (length piece) positions) ≡ piece
  pub within : length piece ≤ length positions
  pub ended : (length piece ≡ length positions) ⊎ (is_full (length piece) (sum_by length piece) ≡ true)
  pub few : length piece ≤ PIECE_UPDATES
  pub small : sum_by length piece < PIECE_BYTES + UPDATE_LIMIT
  pub short : All (λ u. length u ≤ UPDATE_LIMIT) piece
