-- What is said, piece after piece.
use Rattle.std.proofs.Common.{inl, inr, ℕ, List, [], ◌∷◌, ◌++◌, refl, sym, ap, subst, ◌∙◌, append_assoc, append-nil, Option, Result, Ok, Err}
use Rattle.std.proofs.KnownBytes.{Appends-trans}
use mathlib.Core.List.{IsPrefix}
use Rattle.session_rules.specs.State.{FrameData}
use Rattle.sync_frames.specs.declared.frame.Frame.{Frame}
use Rattle.sync_frames.specs.Stream.{Spells}
use Rattle.link_frames.specs.Hearing.{AreFrontOf, AreSaid, Begins, said_by}
use Rattle.link_frames.specs.Saying.{Says}
use Rattle.link_frames.specs.declared.saying.Halt.{Halt}

pub said_append : (xs ys : List FrameData) (a b : List ℕ) → AreSaid xs a → AreSaid ys b → AreSaid (xs ++ ys) (a ++ b)
said_append [] ys a b p q = subst (λ (l : List ℕ). AreSaid ys (l ++ b)) (sym p) q
said_append (x ∷ xs) ys a b p q =
    let rest = said_append xs ys p.1 b p.3 q in
    (p.0, p.1 ++ b, p.2, rest, ap (λ (l : List ℕ). l ++ b) p.4 ∙ append_assoc p.0 p.1 b)

-- a front of the first frame
pub front_one : (frame : Frame) (bytes front : List ℕ) → Spells frame bytes → IsPrefix front bytes → AreFrontOf (said_by frame ∷ []) front
front_one frame bytes front spells p =
    record { done = []; left = said_by frame ∷ []; whole = []; begun = front; all = refl; each = refl; begins = inr (bytes, (frame, spells, refl), p); bytes_are = refl }

-- all of it, and maybe more to come
pub front_whole : (said more : List FrameData) (bytes : List ℕ) → AreSaid said bytes → AreFrontOf (said ++ more) bytes
front_whole said more bytes p = record { done = said; left = more; whole = bytes; begun = []; all = refl; each = p; begins = begins_none more; bytes_are = sym (append-nil bytes) }
  where
    begins_none : (said : List FrameData) → Begins said []
    begins_none [] = refl
    begins_none (x ∷ xs) = inl refl

-- all of the one, and a front of the other
pub front_behind : (said more : List FrameData) (a b : List ℕ) → AreSaid said a → AreFrontOf more b → AreFrontOf (said ++ more) (a ++ b)
front_behind said more a b p q = record {
  done = said ++ q.done;
  left = q.left;
  whole = a ++ q.whole;
  begun = q.begun;
  all = ap (λ (l : List FrameData). said ++ l) q.all ∙ sym (append_assoc said q.done q.left);
  each = said_append said q.done a q.whole p q.each;
  begins = q.begins;
  bytes_are = ap (λ (l : List ℕ). a ++ l) q.bytes_are ∙ sym (append_assoc a q.whole q.begun);
}

-- a front, where more is to be said behind
pub front_of_more : (said more : List FrameData) (bytes : List ℕ) → AreFrontOf said bytes → AreFrontOf (said ++ more) bytes
front_of_more said more bytes q = record {
  done = q.done;
  left = q.left ++ more;
  whole = q.whole;
  begun = q.begun;
  all = ap (λ (l : List FrameData). l ++ more) q.all ∙ append_assoc q.done q.left more;
  each = q.each;
  begins = more_left q.left more q.begun q.begins;
  bytes_are = q.bytes_are;
}
  where
    more_left : (left more : List FrameData) (begun : List ℕ) → Begins left begun → Begins (left ++ more) begun
    more_left [] [] begun b = b
    more_left [] (x ∷ xs) begun b = inl b
    more_left (x ∷ left) more begun b = b

-- ---- with what the link holds

-- one thing after the other
pub says_then : {T U : Type 0} (a b c : Option (List ℕ)) (t : T) (r : Result U Halt) (said more : List FrameData) → Says a b (Ok t) said → Says b c r more → Says a c r (said ++ more)
says_then a b c t (Ok u) said more p q = (p.0 ++ q.0, Appends-trans a b c p.0 q.0 p.1 q.1, said_append said more p.0 q.0 p.2 q.2)
says_then a b c t (Err e) said more p q = (p.0 ++ q.0, Appends-trans a b c p.0 q.0 p.1 q.1, front_behind said more p.0 q.0 p.2 q.2)

-- where it halted, what was to come was not said
pub says_halted : (T U : Type 0) (a b : Option (List ℕ)) (e : Halt) (said more : List FrameData) → Says {T = T} a b (Err e) said → Says {T = U} a b (Err e) (said ++ more)
says_halted T U a b e said more p = (p.0, p.1, front_of_more said more p.0 p.2)
