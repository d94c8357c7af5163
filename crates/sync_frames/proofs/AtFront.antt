-- The frame that stands at the front.
use Rattle.std.proofs.Common.{◌≡◌, inr, ℕ, zero, suc, ◌+◌, ◌<◌, ◌≤◌, true, List, [], ◌∷◌, ◌++◌, length, take, drop, get_or, refl, sym, ap, ◌∙◌, arith, take_at, take-append-drop, length-take-le, length-drop}
use Rattle.std.specs.Prelude.{Some, None, Option}
use Rattle.std.specs.Int.{w32, to_be_bytes, from_be_bytes}
use Rattle.std.proofs.lemmas.Nat.{be_bytes_4}
use Rattle.update_model.specs.Block.{AreBytes}
use Rattle.sync_frames.specs.declared.frame.Frame.{Frame}
use Rattle.sync_frames.specs.Stream.{RawFrame, spelled, is_head, kind_of, length_of, front_of, Spells, IsBroken}
use Rattle.sync_frames.specs.Reading.{frame_in}
use Rattle.sync_frames.proofs.Takes.{take_fits, drop_fits}
use Rattle.sync_frames.proofs.Telling.{frame_says, frame_again}

-- kind, length and payload make up the front
front_spelled : (bytes : List ℕ) → AreBytes bytes → 5 + length_of bytes ≤ length bytes → bytes ≡ spelled (front_of bytes) ++ drop (length_of bytes) (drop 5 bytes)
front_spelled [] fits long = absurd (omega arith)
front_spelled (b0 ∷ []) fits long = absurd (omega arith)
front_spelled (b0 ∷ b1 ∷ []) fits long = absurd (omega arith)
front_spelled (b0 ∷ b1 ∷ b2 ∷ []) fits long = absurd (omega arith)
front_spelled (b0 ∷ b1 ∷ b2 ∷ b3 ∷ []) fits long = absurd (omega arith)
front_spelled (b0 ∷ b1 ∷ b2 ∷ b3 ∷ b4 ∷ tail) fits long =
    let n = from_be_bytes w32 (b1 ∷ b2 ∷ b3 ∷ b4 ∷ []) in
    let whole : length (take n tail) ≡ n = length-take-le n tail (omega arith) in
    let spells : to_be_bytes w32 (length (take n tail)) ≡ b1 ∷ b2 ∷ b3 ∷ b4 ∷ [] = be_bytes_4 (b1 ∷ b2 ∷ b3 ∷ b4 ∷ []) (length (take n tail)) refl four whole in
    ap (λ (t : List ℕ). b0 ∷ b1 ∷ b2 ∷ b3 ∷ b4 ∷ t) (sym (take-append-drop n tail)) ∙ ap (λ (be : List ℕ). b0 ∷ (be ++ take n tail) ++ drop n tail) (sym spells)
  where
    four : (i : ℕ) → get_or (b1 ∷ b2 ∷ b3 ∷ b4 ∷ []) i 0 < 256
    four zero = fits 1
    four (suc zero) = fits 2
    four (suc (suc zero)) = fits 3
    four (suc (suc (suc zero))) = fits 4
    four (suc (suc (suc (suc i)))) = omega arith

front_long : (bytes : List ℕ) → AreBytes bytes → 5 + length_of bytes ≤ length bytes → length (front_of bytes).payload ≡ length_of bytes
front_long bytes fits long = length-take-le (length_of bytes) (drop 5 bytes) (simp length-drop (omega arith))

spelled_long : (raw : RawFrame) → length (spelled raw) ≡ 5 + length raw.payload
spelled_long raw = omega arith

-- A payload that is read makes a frame.
pub whole_found : (bytes : List ℕ) (frame : Frame) (len : ℕ) → AreBytes bytes → len ≡ length_of bytes → 5 + len ≤ length bytes → is_head (kind_of bytes) len ≡ true
    → frame_in (kind_of bytes) (take len (drop 5 bytes)) ≡ Some frame → Spells frame (take (5 + len) bytes)
whole_found bytes frame len fits is long head read =
    let length_is : 5 + length_of bytes ≤ length bytes = omega arith in
    let whole = front_spelled bytes fits length_is in
    let size : length (spelled (front_of bytes)) ≡ 5 + len = spelled_long (front_of bytes) ∙ ap (λ n. 5 + n) (front_long bytes fits length_is ∙ sym is) in
    record {
      raw = front_of bytes;
      whole = ap (λ (w : List ℕ). take (5 + len) w) whole ∙ take_at (spelled (front_of bytes)) (drop (length_of bytes) (drop 5 bytes)) (5 + len) size;
      head = ap (is_head (kind_of bytes)) (front_long bytes fits length_is ∙ sym is) ∙ head;
      says = frame_says (kind_of bytes) len (take (length_of bytes) (drop 5 bytes)) frame head (take_fits (length_of bytes) (drop 5 bytes) (drop_fits 5 bytes fits))
          (ap (λ n. frame_in (kind_of bytes) (take n (drop 5 bytes))) (sym is) ∙ read);
    }

-- A payload that says nothing is none.
pub none_found : (bytes : List ℕ) (len : ℕ) → len ≡ length_of bytes → 5 + len ≤ length bytes → frame_in (kind_of bytes) (take len (drop 5 bytes)) ≡ None → IsBroken bytes
none_found bytes len is long read = record {
  enough = omega arith;
  wrong = inr (omega arith, λ frame says. nothing frame (sym read ∙ ap (λ n. frame_in (kind_of bytes) (take n (drop 5 bytes))) is ∙ frame_again (front_of bytes) frame says));
}
  where
    nothing : (frame : Frame) → (let x : Option Frame = None in x) ≡ Some frame → ⊥
    nothing frame e = cc
