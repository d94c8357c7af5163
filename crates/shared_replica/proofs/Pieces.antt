-- A piece of updates, one update after another.
use Rattle.std.proofs.Common.{◌≡◌, inr, ℕ, ◌+◌, ◌<◌, ◌≤◌, true, false, List, [], ◌∷◌, ◌++◌, All, filter_map, get_or, length, slice_get, take, Some, ap, ◌∙◌, sym, arith}
use Rattle.std.specs.Prelude.{sum_by}
use Rattle.std.specs.List.{cons_option}
use Rattle.std.proofs.lemmas.Bool.Decides.{nat_tests}
use Rattle.std.proofs.lemmas.List.{length-append, take_more}
use Rattle.std.proofs.lemmas.List.Elements.{All-append, All-cons, All-nil, All-same, filter_map-append}
use Rattle.std.proofs.lemmas.List.Sums.{sum_by_push}
use Rattle.update_codec.specs.declared.limits.TheConstants.{UPDATE_LIMIT}
use Rattle.shared_replica.specs.declared.limits.TheConstants.{PIECE_BYTES, PIECE_UPDATES}
use Rattle.shared_replica.specs.Pieces.{IsPieceOf, is_full}

-- A piece that is not full yet.
pub record IsOpen (us : List (List ℕ)) (positions : List ℕ) (i size : ℕ) (piece : List (List ℕ)) : Type 0 where
  pub there : filter_map (slice_get us) (take i positions) ≡ piece
  pub count : length piece ≡ i
  pub bytes : sum_by length piece ≡ size
  pub few : i < PIECE_UPDATES
  pub small : size < PIECE_BYTES
  pub short : All (λ u. length u ≤ UPDATE_LIMIT) piece

not_full : (count size : ℕ) → is_full count size ≡ false → (count < PIECE_UPDATES) × (size < PIECE_BYTES)
not_full count size is = (grind (arith, nat_tests), grind (arith, nat_tests))

-- one update more
module _ (us : List (List ℕ)) (positions : List ℕ) (i size : ℕ) (piece more : List (List ℕ)) (update : List ℕ) (count bytes : ℕ) (o : IsOpen us positions i size piece) (low : i < length positions)
    (is : slice_get us (get_or positions i 0) ≡ Some update) (length_is : length update ≤ UPDATE_LIMIT) (pushed : more ≡ piece ++ update ∷ []) (count_is : count ≡ length more) (bytes_are : bytes ≡ size + length update) where
  there_more : filter_map (slice_get us) (take (i + 1) positions) ≡ more
  there_more = ap (filter_map (slice_get us)) (take_more positions i 0 low) ∙ filter_map-append (slice_get us) (take i positions) (get_or positions i 0 ∷ [])
      ∙ (λ j. o.there j ++ cons_option (is j) []) ∙ sym pushed

  count_more : length more ≡ i + 1
  count_more = let c = o.count in let n = ap length pushed in omega (arith, n, length-append piece (update ∷ []))

  bytes_more : sum_by length more ≡ bytes
  bytes_more = let b = o.bytes in let n = ap (sum_by length) pushed in omega (arith, n, bytes_are, sum_by_push length piece update)

  short_more : All (λ u. length u ≤ UPDATE_LIMIT) more
  short_more = All-same (λ (u : List ℕ). length u ≤ UPDATE_LIMIT) more _ pushed
      (All-append (λ (u : List ℕ). length u ≤ UPDATE_LIMIT) piece (update ∷ []) o.short (All-cons (λ (u : List ℕ). length u ≤ UPDATE_LIMIT) update [] length_is (All-nil _)))

  pub open_more : is_full count bytes ≡ false → IsOpen us positions (i + 1) bytes more
  open_more less =
      let n = not_full count bytes less in
      record { there = there_more; count = count_more; bytes = bytes_more; few = let c = count_more in omega (arith, n.0, count_is); small = n.1; short = short_more }

  -- with which it is full
  pub full_now : is_full count bytes ≡ true → IsPieceOf us positions more
  full_now full = record {
    there = ap (λ (n : ℕ). filter_map (slice_get us) (take n positions)) count_more ∙ there_more;
    within = let c = count_more in omega arith;
    ended = inr ((λ j. is_full (sym count_is j) (bytes_more j)) ∙ full);
    few = let c = count_more in let f = o.few in omega arith;
    small = let b = bytes_more in let s = o.small in omega (arith, length_is, bytes_are);
    short = short_more;
  }
