-- Lists that move in pieces.
use Rattle.std.proofs.Common.{◌≡◌, ℕ, ◌+◌, ◌-◌, ◌<◌, ◌≤◌, min, List, [], ◌++◌, length, take, drop, sym, ap, ◌∙◌, subst, arith}
use Rattle.std.proofs.lemmas.List.{length-take, take_at, drop_at, take-append-le, take_rest, length-append, length-drop, drop_all, take-append-drop, drop-drop}
use Rattle.std.proofs.Math.Seq.{take-add}
use Rattle.std.proofs.KnownBytes.{Consumes-trans, Appends-trans}
use Rattle.std.specs.declared.option.Option.{Option}
use Rattle.std.specs.Io.KnownBytes.{Consumes, Appends}
use borrow.Rule.Slice.PartMut.{put_mid, post_of}

-- the front of a buffer, and then the front of the piece that was read behind it
pub take-put_mid_front : (f n k : ℕ) (buf piece : List ℕ) → f ≤ length buf → n ≤ length piece → take (f + n) (put_mid f k buf piece) ≡ take f buf ++ take n piece
take-put_mid_front f n k buf piece within fits =
    let front : length (take f buf) ≡ f = omega (arith, length-take {A = ℕ}) in
    let rest = piece ++ post_of f k buf in
    take-add f n (take f buf ++ rest)
    ∙ ap (λ (xs : List ℕ). xs ++ take n (drop f (take f buf ++ rest))) (take_at (take f buf) rest f front)
    ∙ ap (λ (xs : List ℕ). take f buf ++ take n xs) (drop_at (take f buf) rest f front)
    ∙ ap (λ (xs : List ℕ). take f buf ++ xs) (rw take-append-le)

-- the front of a buffer and the front of the piece behind it lie within the buffer
pub within-put_mid : (f n k : ℕ) (buf piece : List ℕ) → f ≤ length buf → n ≤ length piece → f + n ≤ length (put_mid f k buf piece)
within-put_mid f n k buf piece within fits =
    omega (arith, length-append (take f buf) (piece ++ post_of f k buf), length-append piece (post_of f k buf), length-take f buf)

-- what was consumed into the front of a buffer, and then into the piece behind it
pub Consumes-more : (a b c : Option (List ℕ)) (f n k : ℕ) (buf piece : List ℕ) → f ≤ length buf → n ≤ length piece
    → Consumes a b (take f buf) → Consumes b c (take n piece) → Consumes a c (take (f + n) (put_mid f k buf piece))
Consumes-more a b c f n k buf piece within fits first second =
    subst (Consumes a c) (sym (take-put_mid_front f n k buf piece within fits)) (Consumes-trans a b c _ _ first second)

-- what was appended of the front of a list, and then of the rest of it
pub Appends-more : (a b c : Option (List ℕ)) (w n : ℕ) (bytes : List ℕ) → Appends a b (take w bytes) → Appends b c (take n (take (length bytes - w) (drop w bytes)))
    → Appends a c (take (w + n) bytes)
Appends-more a b c w n bytes first second =
    let rest = ap (λ (xs : List ℕ). take n xs) (take_rest bytes w) in
    subst (Appends a c) (sym (take-add w n bytes)) (Appends-trans a b c _ _ first (subst (Appends b c) rest second))

-- a piece of the bytes that are left was copied to the front of a buffer, and the rest is left
pub given_front : (left bytes lent piece buf : List ℕ) (place n : ℕ) → lent ≡ bytes → drop place bytes ≡ left
    → n ≡ min (length buf) (length (take (length lent - place) (drop place lent))) → piece ≡ take n (take (length lent - place) (drop place lent))
    → (left ≡ take n (piece ++ drop n buf) ++ drop (place + n) bytes) × (n ≡ 0 → 0 < length (piece ++ drop n buf) → drop (place + n) bytes ≡ [])
given_front left bytes lent piece buf place n same view count copied =
    let whole : take (length lent - place) (drop place lent) ≡ left = take_rest lent place ∙ ap (drop place) same ∙ view in
    let count_left : n ≡ min (length buf) (length left) = count ∙ ap (λ (xs : List ℕ). min (length buf) (length xs)) whole in
    let front : piece ≡ take n left = copied ∙ ap (take n) whole in
    let long : length piece ≡ n = omega (arith, ap length front, length-take n left) in
    let rest : drop (place + n) bytes ≡ drop n left = sym (drop-drop n place bytes) ∙ ap (drop n) view in
    let joined = ap (λ (xs : List ℕ). xs ++ drop n left) (take_at piece (drop n buf) n long ∙ front) in (
      sym (take-append-drop n left) ∙ sym joined ∙ ap (λ (xs : List ℕ). take n (piece ++ drop n buf) ++ xs) (sym rest),
      λ none some. rest ∙ drop_all n left (omega (arith, length-append piece (drop n buf), length-drop n buf)),
    )
