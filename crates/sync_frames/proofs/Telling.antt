-- What a payload says is what is read in it.
use Rattle.std.proofs.Common.{◌≡◌, ◌⊎◌, inl, inr, ℕ, suc, true, ◌&&◌, ◌||◌, ◌==◌, List, [], ◌∷◌, refl, sym, ap, subst, ◌∙◌, ne_eqb, eqb}
use Rattle.std.proofs.lemmas.Bool.{eqb-true, eqb-false, cases_Bool, or_cases, and_parts, cond-true, cond-false}
use Rattle.std.specs.Prelude.{Some, Option, nat_le}
use Rattle.update_model.specs.Block.{AreBytes}
use Rattle.sync_frames.specs.declared.frame.Frame.{Frame}
use Rattle.sync_frames.specs.declared.frame.Frame.TheVariants as frames
use Rattle.sync_frames.specs.Payload.{turn_payload}
use Rattle.sync_frames.specs.Reading.{◌>>=◌, hello_in, turn_in, greeting_in, frame_in}
use Rattle.sync_frames.specs.Stream.{RawFrame, Says, is_head}
use Rattle.sync_frames.proofs.Steps.{bind_some, some_is, then_is}
use Rattle.sync_frames.proofs.Takes.{hello_takes, turn_takes}
use Rattle.sync_frames.proofs.Again.{hello_again, turn_again, behind_version}

abbrev pub raw_of : ℕ → List ℕ → RawFrame
raw_of kind payload = record { kind = kind; payload = payload }

-- the three kinds
pub three_kinds : (kind len : ℕ) → is_head kind len ≡ true → (kind ≡ 1) ⊎ ((kind ≡ 2) ⊎ (kind ≡ 3))
three_kinds kind len h = elim (or_cases (((kind == 1) || (kind == 3)) && nat_le len 8388608) ((kind == 2) && nat_le len 262144) h) [
  | inl one ↦ elim (or_cases (kind == 1) (kind == 3) (and_parts ((kind == 1) || (kind == 3)) (nat_le len 8388608) one).0) [ inl a ↦ inl (eqb-true kind 1 a) | inr b ↦ inr (inr (eqb-true kind 3 b)) ]
  | inr two ↦ inr (inl (eqb-true kind 2 (and_parts (kind == 2) (nat_le len 262144) two).0))
]

greeting_says : (payload : List ℕ) (frame : Frame) → AreBytes payload → greeting_in payload ≡ Some frame → Says (raw_of 1 payload) frame
unfolding greeting_in
greeting_says [] frame fits e = absurd cc
greeting_says (version ∷ rest) frame fits e = elim (cases_Bool (eqb version 2)) [
  | inl one ↦
      let is : (hello_in rest >>= λ hello. Some (frames.Hello hello)) ≡ Some frame = sym (cond-true (eqb version 2) _ _ one) ∙ e in
      let a = bind_some (hello_in rest) _ frame is in
      let t = hello_takes rest a.0 (λ i. fits (suc i)) a.1 in
      rw (← some_is _ frame a.2) (refl, ap (λ v. v ∷ rest) (eqb-true version 2 one) ∙ t.0, t.1, t.2)
  | inr other ↦
      let is : (let x : Option Frame = Some (frames.OtherVersion version) in x) ≡ Some frame = sym (cond-false (eqb version 2) _ _ other) ∙ e in
      rw (← some_is _ frame is) (refl, eqb-false version 2 other, (rest, refl))
]

-- What is read in a payload of one of the three kinds is what it says.
pub frame_says : (kind len : ℕ) (payload : List ℕ) (frame : Frame) → is_head kind len ≡ true → AreBytes payload → frame_in kind payload ≡ Some frame → Says (raw_of kind payload) frame
unfolding frame_in
frame_says kind len payload frame head fits e = elim (three_kinds kind len head) [
  | inl one ↦ subst (λ (k : ℕ). Says (raw_of k payload) frame) (sym one) (greeting_says payload frame fits (subst (λ (k : ℕ). frame_in k payload ≡ Some frame) one e))
  | inr (inl two) ↦
      let is : (let x : Option Frame = Some (frames.Item payload) in x) ≡ Some frame = subst (λ (k : ℕ). frame_in k payload ≡ Some frame) two e in
      rw (← some_is _ frame is) (two, refl)
  | inr (inr three) ↦
      let is : (turn_in payload >>= λ turn. Some (frames.Turn turn)) ≡ Some frame = subst (λ (k : ℕ). frame_in k payload ≡ Some frame) three e in
      let a = bind_some (turn_in payload) _ frame is in
      let t = turn_takes payload a.0 fits a.1 in
      rw (← some_is _ frame a.2) (three, t.0, t.1, t.2)
]

-- What a payload says is read in it.
pub frame_again : (raw : RawFrame) (frame : Frame) → Says raw frame → frame_in raw.kind raw.payload ≡ Some frame
unfolding frame_in greeting_in
frame_again raw (frames.Hello hello) (kind, payload, is, blocks) =
    ap (λ (k : ℕ). frame_in k raw.payload) kind ∙ ap (λ (p : List ℕ). frame_in 1 p) payload ∙ then_is (hello_in (behind_version hello)) _ hello _ (hello_again hello is blocks) refl
frame_again raw (frames.OtherVersion version) (kind, other, behind) =
    ap (λ (k : ℕ). frame_in k raw.payload) kind ∙ ap (λ (p : List ℕ). frame_in 1 p) behind.1 ∙ cond-false (eqb version 2) _ _ (ne_eqb version 2 other)
frame_again raw (frames.Item bytes) (kind, payload) = ap (λ (k : ℕ). frame_in k raw.payload) kind ∙ ap (λ (p : List ℕ). frame_in 2 p) payload
frame_again raw (frames.Turn turn) (kind, payload, is, are) =
    ap (λ (k : ℕ). frame_in k raw.payload) kind ∙ ap (λ (p : List ℕ). frame_in 3 p) payload ∙ then_is (turn_in (turn_payload turn)) _ turn _ (turn_again turn is are) refl

-- a raw frame says one thing
pub one_meaning : (raw : RawFrame) (frame other : Frame) → Says raw frame → Says raw other → frame ≡ other
one_meaning raw frame other a b = some_is frame other (sym (frame_again raw frame a) ∙ frame_again raw other b)
