-- A fault that reading met, with what stands before it, and a fault that reading has to meet.
use Rattle.std.proofs.Common.{◌≡◌, ◌⊎◌, ℕ, ◌+◌, ◌≤◌, false, List, ◌++◌, length, sym, ap, subst, ◌∙◌, arith, append_assoc, leb, ◌&&◌, inl, inr}
use Rattle.std.proofs.lemmas.List.{length-append}
use Rattle.std.specs.Prelude.{Result}
use Rattle.update_codec.specs.declared.codec_fault.CodecKind.{CodecKind}
use Rattle.update_codec.specs.declared.halt.Halt.{Halt}
use Rattle.update_codec.proofs.Steps.{failed, short_halt, halt_at}
use Rattle.update_codec.proofs.AgainFields.{within}
use Rattle.update_codec.proofs.TakesFields.{Takes, Takes-then}

-- The bytes begin with a field that has a fault, and the halt tells it.
pub record Tells (Faulty : List ℕ → CodecKind → ℕ → Type 0) (bytes : List ℕ) (h : Halt) : Type 0 where
  pub front : List ℕ
  pub rest : List ℕ
  pub at : ℕ
  pub is_fault : Faulty front h.kind at
  pub parts : bytes ≡ front ++ rest
  pub place : at + h.left ≡ length bytes

-- Reading met the end of the bytes, or a fault.
abbrev pub Ends : (List ℕ → CodecKind → ℕ → Type 0) → List ℕ → Halt → Type 0
Ends Faulty bytes h = (h ≡ short_halt) ⊎ Tells Faulty bytes h

parts_len : (bytes pre mid : List ℕ) → bytes ≡ pre ++ mid → length bytes ≡ length pre + length mid
parts_len bytes pre mid e = ap length e ∙ length-append pre mid

tell : (F : List ℕ → CodecKind → ℕ → Type 0) (bytes front rest : List ℕ) (kind : CodecKind) (at left : ℕ) (h : Halt) → h ≡ record { kind = kind; left = left }
    → F front kind at → bytes ≡ front ++ rest → at + left ≡ length bytes → Ends F bytes h
tell F bytes front rest kind at left h is faulty parts place = subst (λ (k : Halt). Ends F bytes k) (sym is) (inr (record { front = front; rest = rest; at = at; is_fault = faulty; parts = parts; place = place }))

-- a field that is judged, behind what stands before it
pub tell_at : (F : List ℕ → CodecKind → ℕ → Type 0) (bytes before here field rest : List ℕ) (kind : CodecKind) (at : ℕ) (h : Halt) → h ≡ halt_at kind here
    → Takes bytes before here → Takes here field rest → at ≡ length before → F (before ++ field) kind at → Ends F bytes h
tell_at F bytes before here field rest kind at h is first second size faulty =
    tell F bytes (before ++ field) rest kind at (length here) h is faulty (Takes-then first second).parts (sums at (length before) (length here) (length bytes) size (parts_len bytes before here first.parts))
  where
    sums : (a p m b : ℕ) → a ≡ p → b ≡ p + m → a + m ≡ b
    sums a p m b x z = omega arith

-- a fault of a part, behind what stands before the part
pub nested : (F G : List ℕ → CodecKind → ℕ → Type 0) (bytes pre mid : List ℕ) (shift : ℕ) (h : Halt) → bytes ≡ pre ++ mid → shift ≡ length pre
    → ((front : List ℕ) (kind : CodecKind) (at : ℕ) → F front kind at → G (pre ++ front) kind (shift + at)) → Ends F mid h → Ends G bytes h
nested F G bytes pre mid shift h parts size lift (inl e) = inl e
nested F G bytes pre mid shift h parts size lift (inr t) =
    let all = parts_len bytes pre mid parts in
    let placed = t.place in
    inr (record { front = pre ++ t.front; rest = t.rest; at = shift + t.at; is_fault = lift t.front h.kind t.at t.is_fault; parts = parts ∙ ap (λ (x : List ℕ). pre ++ x) t.parts ∙ sym (append_assoc pre t.front t.rest); place = sums shift t.at h.left (length pre) (length mid) (length bytes) size placed all })
  where
    sums : (s a l p m b : ℕ) → s ≡ p → a + l ≡ m → b ≡ p + m → (s + a) + l ≡ b
    sums s a l p m b x y z = omega arith

-- a fault of the first part
pub widened : (F G : List ℕ → CodecKind → ℕ → Type 0) (bytes : List ℕ) (h : Halt) → ((front : List ℕ) (kind : CodecKind) (at : ℕ) → F front kind at → G front kind at) → Ends F bytes h → Ends G bytes h
widened F G bytes h lift (inl e) = inl e
widened F G bytes h lift (inr t) = inr (record { front = t.front; rest = t.rest; at = t.at; is_fault = lift t.front h.kind t.at t.is_fault; parts = t.parts; place = t.place })

-- Reading of this many bytes meets a fault of this kind at this place.
pub record IsTold {A : Type 0} (r : Result A Halt) (len : ℕ) (kind : CodecKind) (at : ℕ) : Type 0 where
  pub left : ℕ
  pub is : r ≡ failed A (record { kind = kind; left = left })
  pub place : at + left ≡ len

pub not_within : (a b c : ℕ) → (leb a b && leb b c) ≡ false → ¬ ((a ≤ b) × (b ≤ c))
not_within a b c h = λ w. let is = within a b c w.0 w.1 in absurd (let g = sym is ∙ h in cc)
