-- The frames of a piece.
use Rattle.std.proofs.Common.{◌≡◌, ◌⊎◌, inl, inr, ℕ, ◌+◌, ◌-◌, ◌^◌, ◌≤◌, min, Bool, true, false, List, [], ◌∷◌, ◌++◌, length, take, drop, refl, sym, ap, subst, ◌∙◌, arith, take_all, take-append-drop, length-take-le, length-drop}
use Rattle.std.proofs.Math.Seq.{take-add}
use Rattle.std.proofs.lemmas.List.{append-nil}
use Rattle.sync_frames.specs.declared.frame.Frame.{Frame}
use Rattle.sync_frames.specs.Stream.{AreSpelled, Spells, IsBegun, IsBroken}
use Rattle.sync_frames.specs.Fed.{FedData, Feeds, IsFed, Fronts}
use Rattle.std.specs.Prelude.{Option, None}
use Rattle.sync_frames.specs.declared.fields.PayloadError.{PayloadError}
use Rattle.sync_frames.specs.declared.fields.PayloadError.TheVariants.{NoForm}
use Rattle.sync_frames.specs.declared.finding.FoundFrame.{FoundFrame}
use Rattle.sync_frames.specs.declared.finding.FoundFrame.TheVariants.{Broken, Whole}
use Rattle.sync_frames.specs.Reading.{Finds, Stops}
use Rattle.sync_frames.proofs.Splitting.{AreSpelled-append}

-- a slice from a place on
pub from_place : (bytes : List ℕ) (at : ℕ) → take (length bytes - at) (drop at bytes) ≡ drop at bytes
from_place bytes at = take_all (length bytes - at) (drop at bytes) (omega (arith, length-drop at bytes))

-- the frames so far
pub record SoFar (bytes : List ℕ) (frames : List Frame) (len : ℕ) : Type 0 where
  pub within : len ≤ length bytes
  pub each : AreSpelled frames (take len bytes)

-- one more frame
pub one_more : (bytes : List ℕ) (frames : List Frame) (len : ℕ) (frame : Frame) (more : ℕ) → SoFar bytes frames len → more ≤ length (drop len bytes) → Spells frame (take more (drop len bytes))
    → SoFar bytes (frames ++ frame ∷ []) (len + more)
one_more bytes frames len frame more so_far fits spells = record {
  within = let within = so_far.within in omega (arith, length-drop len bytes);
  each =
      subst (λ (w : List ℕ). AreSpelled (frames ++ frame ∷ []) w) (sym (take-add len more bytes))
      (AreSpelled-append frames (frame ∷ []) (take len bytes) (take more (drop len bytes)) so_far.each (take more (drop len bytes), [], spells, refl, sym (append-nil (take more (drop len bytes)))));
}

pub fronts_broken : (bytes : List ℕ) (frames : List Frame) (len : ℕ) → SoFar bytes frames len → IsBroken (drop len bytes) → Fronts bytes frames len true
fronts_broken bytes frames len so_far broken = record { within = so_far.within; each = so_far.each; rest = record { none = λ h. broken; begun = λ e. absurd cc } }

-- what is begun is not broken
pub not_broken : (bytes : List ℕ) → IsBegun bytes → IsBroken bytes → ⊥
not_broken bytes (inl short) broken = let enough = broken.enough in omega arith
not_broken bytes (inr begun) broken = elim broken.wrong [
  | inl head ↦ let good = begun.0 in cc
  | inr body ↦ omega (arith, begun.1, body.0)
]

either : (rest : List ℕ) (broken : Bool) → IsFed rest broken → IsBegun rest ⊎ IsBroken rest
either rest true fed = inr (fed.none refl)
either rest false fed = inl (fed.begun refl)

-- what a piece gives
pub feeds_from : (old : FedData) (piece bytes rest : List ℕ) (frames : List Frame) (len place : ℕ) (broken : Bool) → bytes ≡ old.rest ++ piece → Fronts bytes frames len broken
    → rest ≡ drop len bytes → place ≡ min (old.place + len) (2 ^ 64 - 1) → IsBegun old.rest → Feeds old (record { place = place; rest = rest }) piece frames
feeds_from old piece bytes rest frames len place broken joined fronts is says begun = record {
  splits = record {
    front = take len bytes;
    each = fronts.each;
    whole = sym joined ∙ sym (take-append-drop len bytes) ∙ ap (λ (w : List ℕ). take len bytes ++ w) (sym is);
    last = subst (λ (w : List ℕ). IsBegun w ⊎ IsBroken w) (sym is) (either (drop len bytes) broken fronts.rest);
  };
  place = says ∙ ap (λ n. min (old.place + n) (2 ^ 64 - 1)) (sym (length-take-le len bytes fronts.within));
  fine = not_broken old.rest begun;
}

-- ---- what was found behind the frames so far

pub whole_behind : (bytes : List ℕ) (frames : List Frame) (len : ℕ) (found : FoundFrame) (frame : Frame) (more : ℕ) → found ≡ Whole frame more
    → Finds found (take (length bytes - len) (drop len bytes)) → SoFar bytes frames len → SoFar bytes (frames ++ frame ∷ []) (len + more)
whole_behind bytes frames len found frame more is finds so_far =
    let whole : Finds (Whole frame more) (drop len bytes) = subst (λ (f : FoundFrame). Finds f (drop len bytes)) is (subst (λ (w : List ℕ). Finds found w) (from_place bytes len) finds) in
    one_more bytes frames len frame more so_far whole.0 whole.2

pub broken_behind : (bytes : List ℕ) (frames : List Frame) (len : ℕ) (found : FoundFrame) → found ≡ Broken
    → Finds found (take (length bytes - len) (drop len bytes)) → SoFar bytes frames len → Fronts bytes frames len true
broken_behind bytes frames len found is finds so_far =
    fronts_broken bytes frames len so_far (subst (λ (f : FoundFrame). Finds f (drop len bytes)) is (subst (λ (w : List ℕ). Finds found w) (from_place bytes len) finds))

-- a reader that found no form
pub no_form : (error : PayloadError) (read : Option Frame) → error ≡ NoForm → Stops error read → read ≡ None
no_form error read is stops = subst (λ (e : PayloadError). Stops e read) is stops
