-- Reading a quoted text one piece after another, as a loop does.
use Rattle.std.proofs.Common.{◌≡◌, ℕ, zero, suc, ◌≤◌, ◌<◌, Bool, true, false, ◌==◌, nat_lt, List, [], ◌∷◌, ◌++◌, length, Option, Some, None, option_map, cond, refl, sym, ap, ◌∙◌, append_assoc, arith, IfSome}
use Rattle.std.specs.Option.{option_map_or}
use Rattle.text_words.specs.Quoted.{text_within, text_at, piece_at, escape_at, hex_escape, byte_of, closing, with_byte}

-- what was read before, and what is still read
abbrev pub with_front : List ℕ → Option (List ℕ × List ℕ) → Option (List ℕ × List ℕ)
with_front front read = option_map (λ text. (front ++ text.0, text.1)) read

-- a choice of what satisfies P does
chosen : {A : Type 0} (P : A → Type 0) (b : Bool) (x y : A) → P x → P y → P (cond b x y)
chosen P true x y p q = p
chosen P false x y p q = q

-- what is read is followed by fewer bytes than these
abbrev Shortens : ℕ → Option (ℕ × List ℕ) → Type 0
Shortens n read = IfSome read (λ piece. length piece.1 < n)

map_shortens : (n : ℕ) (rest : List ℕ) (byte : Option ℕ) → length rest < n → Shortens n (option_map (λ b. (b, rest)) byte)
map_shortens n rest None low = tt
map_shortens n rest (Some b) low = low

hex_shortens : (n : ℕ) (bytes : List ℕ) → length bytes ≤ n → Shortens n (hex_escape bytes)
hex_shortens n [] le = tt
hex_shortens n (high ∷ []) le = tt
hex_shortens n (high ∷ low ∷ rest) le = map_shortens n rest (byte_of high low) (omega arith)

escape_shortens : (n : ℕ) (bytes : List ℕ) → length bytes ≤ n → Shortens n (escape_at bytes)
escape_shortens n [] le = tt
escape_shortens n (byte ∷ rest) le =
    let low : length rest < n = omega arith in
    let P = Shortens n in
    chosen P (byte == 34) _ _ low
    (chosen P (byte == 92) _ _ low
    (chosen P (byte == 110) _ _ low
    (chosen P (byte == 116) _ _ low
    (chosen P (byte == 120) _ _ (hex_shortens n rest (omega arith)) tt))))

-- a piece takes at least one byte
piece_shortens : (bytes : List ℕ) → Shortens (length bytes) (piece_at bytes)
piece_shortens [] = tt
piece_shortens (byte ∷ rest) =
    let n = length (byte ∷ rest) in
    let P = Shortens n in
    chosen P (byte == 34) _ _ tt
    (chosen P (byte == 92) _ _ (escape_shortens n rest (omega arith))
    (chosen P (nat_lt byte 32) _ _ tt (omega arith)))

-- the text that a piece begins, or else the quote
abbrev pub onward : (List ℕ → Option (List ℕ × List ℕ)) → List ℕ → Option (ℕ × List ℕ) → Option (List ℕ × List ℕ)
onward read bytes piece = option_map_or (λ p. with_byte p.0 (read p.1)) piece (closing bytes)

-- what goes on alike after a piece reads alike
alike : (f g : List ℕ → Option (List ℕ × List ℕ)) (bytes : List ℕ) (piece : Option (ℕ × List ℕ)) → Shortens (length bytes) piece
    → ((rest : List ℕ) → length rest < length bytes → f rest ≡ g rest) → onward f bytes piece ≡ onward g bytes piece
alike f g bytes None h same = refl
alike f g bytes (Some p) h same = ap (with_byte p.0) (same p.1 h)

-- any bound that is not below the number of bytes reads the same
same_within : (n m : ℕ) (bytes : List ℕ) → length bytes ≤ n → length bytes ≤ m → text_within n bytes ≡ text_within m bytes
unfolding text_within
same_within zero zero bytes le_n le_m = refl
same_within zero (suc m) [] le_n le_m = refl
same_within zero (suc m) (b ∷ rest) le_n le_m = absurd (omega arith)
same_within (suc n) zero [] le_n le_m = refl
same_within (suc n) zero (b ∷ rest) le_n le_m = absurd (omega arith)
same_within (suc n) (suc m) bytes le_n le_m =
    alike (text_within n) (text_within m) bytes (piece_at bytes) (piece_shortens bytes) (λ rest low. same_within n m rest (omega arith) (omega arith))

-- a text is its first piece and the text after that, or ends here
pub text_step : (bytes : List ℕ) → text_at bytes ≡ onward text_at bytes (piece_at bytes)
unfolding text_within
text_step [] = refl
text_step (b ∷ rest) =
    alike (text_within (length rest)) text_at (b ∷ rest) (piece_at (b ∷ rest)) (piece_shortens (b ∷ rest)) (λ more low. same_within (length rest) (length more) more (omega arith) (omega arith))

regroup : (front : List ℕ) (byte : ℕ) (read : Option (List ℕ × List ℕ)) → with_front front (with_byte byte read) ≡ with_front (front ++ byte ∷ []) read
regroup front byte None = refl
regroup front byte (Some text) = ap (λ (bytes : List ℕ). Some (bytes, text.1)) (simp append_assoc)

pub text_more : (front rest after : List ℕ) (byte : ℕ) (total : Option (List ℕ × List ℕ)) → piece_at rest ≡ Some (byte, after)
    → with_front front (text_at rest) ≡ total → with_front (front ++ byte ∷ []) (text_at after) ≡ total
text_more front rest after byte total piece so_far =
    let step : text_at rest ≡ with_byte byte (text_at after) = text_step rest ∙ ap (onward text_at rest) piece in
    sym (regroup front byte (text_at after)) ∙ (sym (ap (with_front front) step) ∙ so_far)

pub text_ends : (front rest : List ℕ) (total : Option (List ℕ × List ℕ)) → piece_at rest ≡ None → with_front front (text_at rest) ≡ total → with_front front (closing rest) ≡ total
text_ends front rest total none so_far =
    let step : text_at rest ≡ closing rest = text_step rest ∙ ap (onward text_at rest) none in
    sym (ap (with_front front) step) ∙ so_far

-- what is read is followed by fewer bytes than these
abbrev pub Leaves : ℕ → Option (List ℕ × List ℕ) → Type 0
Leaves n read = IfSome read (λ text. length text.1 < n)

closing_leaves : (bytes : List ℕ) → Leaves (length bytes) (closing bytes)
closing_leaves [] = tt
closing_leaves (byte ∷ rest) = chosen (Leaves (length (byte ∷ rest))) (byte == 34) _ _ (omega arith) tt

leaves_more : (n m byte : ℕ) (read : Option (List ℕ × List ℕ)) → n < m → Leaves n read → Leaves m (with_byte byte read)
leaves_more n m byte None low h = tt
leaves_more n m byte (Some text) low h = omega arith

onward_leaves : (read : List ℕ → Option (List ℕ × List ℕ)) (bytes : List ℕ) (piece : Option (ℕ × List ℕ)) → Shortens (length bytes) piece
    → ((rest : List ℕ) → Leaves (length rest) (read rest)) → Leaves (length bytes) (onward read bytes piece)
onward_leaves read bytes None h leaves = closing_leaves bytes
onward_leaves read bytes (Some p) h leaves = leaves_more (length p.1) (length bytes) p.0 (read p.1) h (leaves p.1)

within_leaves : (n : ℕ) (bytes : List ℕ) → Leaves (length bytes) (text_within n bytes)
unfolding text_within
within_leaves zero bytes = closing_leaves bytes
within_leaves (suc n) bytes = onward_leaves (text_within n) bytes (piece_at bytes) (piece_shortens bytes) (within_leaves n)

pub text_leaves : (bytes : List ℕ) → Leaves (length bytes) (text_at bytes)
text_leaves bytes = within_leaves (length bytes) bytes
