-- Parts of lists, and writes to them, as to a buffer of fixed length.
use Rattle.std.proofs.Common.{◌≡◌, ◌≤◌, ℕ, ◌+◌, List, [], ◌++◌, length, take, drop, sym, ap, ◌∙◌, arith, append-nil, append_assoc, length-append}
use Rattle.std.proofs.lemmas.List.{drop_all, drop_at, length-take-le, length-drop, take_all, take_at, take-take}
use borrow.Rule.Slice.PartMut.{put_mid, mid_of}

-- a write from place a to the end
pub put_end : (a k : ℕ) (xs ys : List ℕ) → length xs ≡ a + k → put_mid a k xs ys ≡ take a xs ++ ys
put_end a k xs ys len =
    let short : length (drop a xs) ≤ k = omega (arith, length-drop a xs) in
    let rest : drop k (drop a xs) ≡ [] = drop_all k (drop a xs) short in
    ap (λ (zs : List ℕ). take a xs ++ (ys ++ zs)) rest ∙ ap (λ (zs : List ℕ). take a xs ++ zs) (append-nil ys)

-- what was written there
pub drop_put : (a k : ℕ) (xs ys : List ℕ) → length xs ≡ a + k → drop a (put_mid a k xs ys) ≡ ys
drop_put a k xs ys len =
    ap (drop a) (put_end a k xs ys len) ∙ drop_at (take a xs) ys a (length-take-le a xs (omega arith))

-- the part from place a to the end
pub mid_to_end : (a k : ℕ) (xs : List ℕ) → length xs ≡ a + k → mid_of a k xs ≡ drop a xs
mid_to_end a k xs len = take_all k (drop a xs) (omega (arith, length-drop a xs))

-- the front up to the end of what was written at place a, of which bs is the beginning
pub take_put : (a m n k : ℕ) (xs bs rest : List ℕ) → n ≡ a + m → length bs ≡ m → a ≤ length xs → take n (put_mid a k xs (bs ++ rest)) ≡ take a xs ++ bs
take_put a m n k xs bs rest sum size room =
    let front : length (take a xs) ≡ a = length-take-le a xs room in
    let both : length (take a xs ++ bs) ≡ n = omega (arith, length-append (take a xs) bs) in
    let post : List ℕ = drop k (drop a xs) in
    ap (take n) (ap (λ (zs : List ℕ). take a xs ++ zs) (append_assoc bs rest post) ∙ sym (append_assoc (take a xs) bs (rest ++ post)))
    ∙ take_at (take a xs ++ bs) (rest ++ post) n both

-- lists with one front have one shorter front
pub shorter_front : (m n : ℕ) (xs ys : List ℕ) → m ≤ n → take n xs ≡ take n ys → take m xs ≡ take m ys
shorter_front m n xs ys h e = sym (take-take m n xs h) ∙ ap (take m) e ∙ take-take m n ys h
