-- What was read of a piece, and what is left.
use Rattle.std.proofs.Common.{◌≡◌, ℕ, ◌≤◌, ◌<◌, ◌+◌, ◌^◌, List, ◌++◌, length, refl, sym, ap, subst, ◌∙◌, append_assoc, length-append, length-take, take, drop, Bool, true, false, nat_le, if◌then◌else◌, Option, Some, None, arith}
use Rattle.std.specs.Io.KnownBytes.{Consumes}
use Rattle.std.specs.Int.{w32, to_be_bytes}
use Rattle.std.proofs.KnownBytes.{Consumes-trans}
use Rattle.std.proofs.lemmas.Bool.{le-leb}
use Rattle.std.proofs.lemmas.List.{take_all, drop_at}
use Rattle.std.proofs.Math.Seq.{take-append_seam}
use Rattle.bec_bytes.specs.Framed.{framed, length_at, HoldsPiece, span_of, IsLeft, StaysWithin}
use Rattle.bec_bytes.specs.Moved.{IfTold}
use Rattle.bec_bytes.specs.declared.read_error.ReadError.TheVariants.{Failed, Memory}
use Rattle.bec_bytes.specs.declared.read_error.ReadError.{ReadError}
use Rattle.bec_bytes.proofs.Frames.{length-framed, length_at-held, length_at-number}

-- what holds of all bytes with this front holds of those that were left
pub told : (a b : Option (List ℕ)) (front : List ℕ) (P : List ℕ → List ℕ → Type 0) → Consumes a b front → ((rest : List ℕ) → P (front ++ rest) rest) → IfTold a b P
told None b front P came each = tt
told (Some xs) None front P came each = absurd came
told (Some xs) (Some ys) front P came each = (ys, refl, subst (λ (w : List ℕ). P w ys) (sym came) (each ys))

-- and what holds of those that were left behind a front, with the front
pub behind : (a b c : Option (List ℕ)) (front : List ℕ) (P Q : List ℕ → List ℕ → Type 0) → Consumes a b front → IfTold b c P → ((bytes rest : List ℕ) → P bytes rest → Q (front ++ bytes) rest) → IfTold a c Q
behind None b c front P Q came found each = tt
behind (Some xs) None c front P Q came found each = absurd came
behind (Some xs) (Some ys) c front P Q came found each = (found.0, found.1, subst (λ (w : List ℕ). Q w found.0) (sym came) (each ys found.0 found.2))

-- a whole piece is what stands there
pub held_within : (limit : ℕ) (bytes piece rest : List ℕ) → limit < 2 ^ 32 → HoldsPiece limit bytes piece rest → StaysWithin limit bytes rest
held_within limit bytes piece rest fits h =
    let at = length_at-held limit bytes piece rest fits h in
    let short = h.short in
    let span : span_of limit bytes ≡ 4 + length piece = rw at (rw (le-leb (length piece) limit short) refl) in
    let parts : drop (length (framed piece)) bytes ≡ rest = ap (drop (length (framed piece))) h.parts ∙ drop_at (framed piece) rest (length (framed piece)) refl in
    (length (framed piece), omega (arith, span, length-framed piece), sym parts)

-- a reading that failed read no more than the piece
pub left_within : (limit : ℕ) (bytes rest : List ℕ) (error : ReadError) → IsLeft limit bytes rest error → StaysWithin limit bytes rest
left_within limit bytes rest Failed left = left
left_within limit bytes rest Memory left = (4, four (nat_le (length_at bytes) limit), left.1)
  where
    four : (b : Bool) → 4 ≤ (if b then 4 + length_at bytes else 4)
    four true = omega arith
    four false = omega arith

-- the four bytes of a length, of which all were taken
pub prefix_taken : (a b : Option (List ℕ)) (n count : ℕ) (buf : List ℕ) → to_be_bytes w32 n ≡ buf → 4 ≤ count → Consumes a b (take count buf) → Consumes a b (to_be_bytes w32 n)
prefix_taken a b n count buf is all came =
    let size = ap length is in
    let whole : take count buf ≡ to_be_bytes w32 n = take_all count buf (omega (arith, size)) ∙ sym is in
    subst (Consumes a b) whole came

-- a fault behind the length, where a front of the piece was taken
pub left_in_piece : (limit : ℕ) (a b c : Option (List ℕ)) (n k : ℕ) (buf : List ℕ) → n < 2 ^ 32 → n ≤ limit → Consumes a b (to_be_bytes w32 n) → length buf ≡ n → Consumes b c (take k buf)
    → IfTold a c (λ bytes rest. IsLeft limit bytes rest Failed)
left_in_piece limit a b c n k buf fits low first size second =
    told a c (to_be_bytes w32 n ++ take k buf) (λ bytes rest. IsLeft limit bytes rest Failed) (Consumes-trans a b c (to_be_bytes w32 n) (take k buf) first second) each
  where
    each : (rest : List ℕ) → IsLeft limit ((to_be_bytes w32 n ++ take k buf) ++ rest) rest Failed
    each rest =
        let front = to_be_bytes w32 n ++ take k buf in
        let at : length_at (front ++ rest) ≡ n = ap length_at (append_assoc (to_be_bytes w32 n) (take k buf) rest) ∙ length_at-number n (take k buf ++ rest) fits in
        let span : span_of limit (front ++ rest) ≡ 4 + n = rw at (rw (le-leb n limit low) refl) in
        (length front, omega (arith, span, size, length-append (to_be_bytes w32 n) (take k buf), length-take {A = ℕ}), sym (drop_at front rest (length front) refl))

-- a piece that came whole
pub piece_held : (limit : ℕ) (a b c : Option (List ℕ)) (n came : ℕ) (buf : List ℕ) → n ≤ limit → Consumes a b (to_be_bytes w32 n) → length buf ≡ n → n ≤ came → Consumes b c (take came buf)
    → IfTold a c (λ bytes rest. HoldsPiece limit bytes buf rest)
unfolding framed
piece_held limit a b c n came buf low first size all second =
    let whole : take came buf ≡ buf = take_all came buf (omega (arith, size, all)) in
    let P : List ℕ → Type 0 = λ w. Consumes a c w in
    let parts : Consumes a c (framed buf) = subst P (ap (λ (k : ℕ). to_be_bytes w32 k ++ take came buf) (sym size) ∙ ap (λ (w : List ℕ). to_be_bytes w32 (length buf) ++ w) whole) (Consumes-trans a b c (to_be_bytes w32 n) (take came buf) first second) in
    told a c (framed buf) (λ bytes rest. HoldsPiece limit bytes buf rest) parts (λ rest. record { short = omega (arith, size, low); parts = refl })

-- the buffer that was written whole
pub rewritten : (n : ℕ) (buf items : List ℕ) → length buf ≡ n → take n (buf ++ drop (length buf) items) ≡ buf
rewritten n buf items size = rw (← size) (take-append_seam buf (drop (length buf) items))
