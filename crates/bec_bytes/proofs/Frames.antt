-- Pieces behind their lengths, at the front of bytes.
use Rattle.std.proofs.Common.{◌≡◌, ℕ, ◌<◌, ◌+◌, ◌^◌, List, [], ◌∷◌, ◌++◌, length, refl, ap, sym, ◌∙◌, append-nil, append_assoc, length-append, ◌⊎◌, inl, inr, subst, All, arith}
use Rattle.std.proofs.lemmas.List.Elements.{All-head, All-tail}
use Rattle.std.specs.List.{flat_map}
use Rattle.std.specs.Int.{w32, to_be_bytes}
use Rattle.std.proofs.lemmas.List.Concat.{flat_map-append}
use Rattle.std.proofs.lemmas.Nat.{from_be_bytes-to_be_bytes_4}
use Rattle.bec_bytes.specs.Framed.{framed, stream_of, length_at, HoldsPiece, IsCut, in_length, in_piece, IsTooLong}

pub length-framed : (piece : List ℕ) → length (framed piece) ≡ 4 + length piece
unfolding framed
length-framed piece = omega arith

pub stream_of-push : (pieces : List (List ℕ)) (piece : List ℕ) → stream_of (pieces ++ piece ∷ []) ≡ stream_of pieces ++ framed piece
unfolding stream_of
stream_of-push pieces piece = flat_map-append framed pieces (piece ∷ []) ∙ ap (λ (t : List ℕ). flat_map framed pieces ++ t) (append-nil (framed piece))

pub stream_of-cons : (piece : List ℕ) (pieces : List (List ℕ)) → stream_of (piece ∷ pieces) ≡ framed piece ++ stream_of pieces
unfolding stream_of
stream_of-cons piece pieces = refl

pub stream_of-nil : stream_of [] ≡ []
unfolding stream_of
stream_of-nil = refl

-- no piece is empty in a stream
pub framed_some : (piece more : List ℕ) → [] ≡ framed piece ++ more → ⊥
framed_some piece more e = let size = ap length e in let has = length-framed piece in omega (arith, length-append (framed piece) more)

pub length_at-number : (n : ℕ) (rest : List ℕ) → n < 2 ^ 32 → length_at (to_be_bytes w32 n ++ rest) ≡ n
length_at-number n rest fits = from_be_bytes-to_be_bytes_4 n fits

-- the length that stands before a piece is its own
pub length_at-framed : (piece more : List ℕ) → length piece < 2 ^ 32 → length_at (framed piece ++ more) ≡ length piece
unfolding framed
length_at-framed piece more fits = from_be_bytes-to_be_bytes_4 (length piece) fits

-- a front of a known length
fronts : (a b more others : List ℕ) → length a ≡ length b → a ++ more ≡ b ++ others → (a ≡ b) × (more ≡ others)
fronts [] [] more others h e = (refl, e)
fronts [] (y ∷ b) more others h e = absurd (omega arith)
fronts (x ∷ a) [] more others h e = absurd (omega arith)
fronts (x ∷ a) (y ∷ b) more others h e =
    let head : x ≡ y = cc in
    let tail : a ++ more ≡ b ++ others = cc in
    let same = fronts a b more others (omega arith) tail in
    (let front = same.0 in cc, same.1)

-- two pieces at the front of the same bytes are one
pub one_front : (piece other rest more : List ℕ) → length piece < 2 ^ 32 → length other < 2 ^ 32 → framed piece ++ rest ≡ framed other ++ more
    → (piece ≡ other) × (rest ≡ more)
unfolding framed
one_front piece other rest more h k e =
    let size : length piece ≡ length other = sym (length_at-framed piece rest h) ∙ ap length_at e ∙ length_at-framed other more k in
    let behind = fronts (to_be_bytes w32 (length piece)) (to_be_bytes w32 (length other)) (piece ++ rest) (other ++ more) refl e in
    fronts piece other rest more size behind.1

-- ---- bytes begin with a piece, or are cut in it, or it is too long: one of these, in one way

pub length-held : (limit : ℕ) (bytes piece rest : List ℕ) → HoldsPiece limit bytes piece rest → length bytes ≡ (4 + length piece) + length rest
length-held limit bytes piece rest h = ap length h.parts ∙ length-append (framed piece) rest ∙ ap (λ (k : ℕ). k + length rest) (length-framed piece)

pub length_at-held : (limit : ℕ) (bytes piece rest : List ℕ) → limit < 2 ^ 32 → HoldsPiece limit bytes piece rest → length_at bytes ≡ length piece
length_at-held limit bytes piece rest fits h =
    let short = h.short in ap length_at h.parts ∙ length_at-framed piece rest (omega (arith, short, fits))

pub one_piece : (limit : ℕ) (bytes piece other rest more : List ℕ) → limit < 2 ^ 32 → HoldsPiece limit bytes piece rest → HoldsPiece limit bytes other more → (piece ≡ other) × (rest ≡ more)
one_piece limit bytes piece other rest more fits a b =
    let low = a.short in let less = b.short in
    one_front piece other rest more (omega (arith, low, fits)) (omega (arith, less, fits)) (sym a.parts ∙ b.parts)

pub cut_or_held : (limit : ℕ) (bytes piece rest : List ℕ) → limit < 2 ^ 32 → IsCut limit bytes → HoldsPiece limit bytes piece rest → ⊥
cut_or_held limit bytes piece rest fits (in_length some few) h = let all = length-held limit bytes piece rest h in absurd (omega (arith, all, few))
cut_or_held limit bytes piece rest fits (in_piece four short less) h =
    let all = length-held limit bytes piece rest h in let at = length_at-held limit bytes piece rest fits h in absurd (omega (arith, all, at, less))

-- no bytes are cut where there are none
pub no_cut : {limit : ℕ} → IsCut limit [] → ⊥
no_cut (in_length some few) = absurd (omega (arith, some))
no_cut (in_piece four short less) = absurd (omega (arith, four))

pub long_or_held : (limit : ℕ) (bytes piece rest : List ℕ) → limit < 2 ^ 32 → IsTooLong limit bytes → HoldsPiece limit bytes piece rest → ⊥
long_or_held limit bytes piece rest fits long h =
    let at = length_at-held limit bytes piece rest fits h in let short = h.short in let over = long.over in absurd (omega (arith, at, short, over))

pub cut_or_long : (limit : ℕ) (bytes : List ℕ) → IsCut limit bytes → IsTooLong limit bytes → ⊥
cut_or_long limit bytes (in_length some few) long = let four = long.whole in absurd (omega (arith, few, four))
cut_or_long limit bytes (in_piece four short less) long = let over = long.over in absurd (omega (arith, short, over))

-- ---- two lists of pieces at the front of the same bytes

abbrev pub Fit : List (List ℕ) → Type 0
Fit pieces = All (λ piece. length piece < 2 ^ 32) pieces

-- After these pieces the others go on with one that stands at the front of the rest.
pub record GoesOn (pieces others : List (List ℕ)) (rest : List ℕ) : Type 0 where
  pub next : List ℕ
  pub more : List (List ℕ)
  pub tail : List ℕ
  pub parts : others ≡ pieces ++ next ∷ more
  pub begins : rest ≡ framed next ++ tail

one_more : (x : List ℕ) (xs ys : List (List ℕ)) (rest : List ℕ) → GoesOn xs ys rest → GoesOn (x ∷ xs) (x ∷ ys) rest
one_more x xs ys rest g = record { next = g.next; more = g.more; tail = g.tail; parts = ap (λ (t : List (List ℕ)). x ∷ t) g.parts; begins = g.begins }

-- one of the lists goes on where the other ends, or they are equal
pub lines_up : (xs ys : List (List ℕ)) (rest other : List ℕ) → Fit xs → Fit ys → stream_of xs ++ rest ≡ stream_of ys ++ other
    → GoesOn xs ys rest ⊎ (GoesOn ys xs other ⊎ ((xs ≡ ys) × (rest ≡ other)))
lines_up [] [] rest other s t e = inr (inr (refl, rw stream_of-nil at e))
lines_up [] (y ∷ ys) rest other s t e =
    let begins : rest ≡ framed y ++ (stream_of ys ++ other) = rw stream_of-nil at (e ∙ ap (λ (w : List ℕ). w ++ other) (stream_of-cons y ys) ∙ append_assoc (framed y) (stream_of ys) other) in
    inl (record { next = y; more = ys; tail = stream_of ys ++ other; parts = refl; begins = begins })
lines_up (x ∷ xs) [] rest other s t e =
    let begins : other ≡ framed x ++ (stream_of xs ++ rest) = rw stream_of-nil at (sym e ∙ ap (λ (w : List ℕ). w ++ rest) (stream_of-cons x xs) ∙ append_assoc (framed x) (stream_of xs) rest) in
    inr (inl (record { next = x; more = xs; tail = stream_of xs ++ rest; parts = refl; begins = begins }))
lines_up (x ∷ xs) (y ∷ ys) rest other s t e =
    let begins : framed x ++ (stream_of xs ++ rest) ≡ framed y ++ (stream_of ys ++ other) =
    sym (append_assoc (framed x) (stream_of xs) rest) ∙ ap (λ (w : List ℕ). w ++ rest) (sym (stream_of-cons x xs)) ∙ e
    ∙ ap (λ (w : List ℕ). w ++ other) (stream_of-cons y ys) ∙ append_assoc (framed y) (stream_of ys) other in
    let P : List ℕ → Type 0 = λ piece. length piece < 2 ^ 32 in
    let first = one_front x y (stream_of xs ++ rest) (stream_of ys ++ other) (All-head P x xs s) (All-head P y ys t) begins in
    elim (lines_up xs ys rest other (All-tail P x xs s) (All-tail P y ys t) first.1) [
      | inl g ↦ inl (let Q : List ℕ → Type 0 = λ w. GoesOn (x ∷ xs) (w ∷ ys) rest in subst Q first.0 (one_more x xs ys rest g))
      | inr more ↦ elim more [
        | inl g ↦ inr (inl (let Q : List ℕ → Type 0 = λ w. GoesOn (w ∷ ys) (x ∷ xs) other in subst Q first.0 (one_more x ys xs other g)))
        | inr same ↦ inr (inr (let heads = first.0 in let tails = same.0 in cc, same.1))
      ]
    ]
