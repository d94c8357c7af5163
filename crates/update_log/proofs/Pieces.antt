-- What stands in the room for a piece, and what is left of a disk that is read.
use Rattle.std.proofs.Common.{◌≡◌, ◌⊎◌, inl, inr, ℕ, ◌+◌, ◌-◌, ◌<◌, ◌≤◌, ◌^◌, List, ◌++◌, length, take, drop, refl, sym, ap, ◌∙◌, append_assoc, length-append, length-take, length-drop, zero-add, arith}
use Rattle.std.proofs.lemmas.List.{take-append-drop, take-append-le, take-take, take_all, take_at, drop-take, drop-drop}
use Rattle.std.proofs.lemmas.List.Edits.{take-paste, length-paste}
use Rattle.std.proofs.lemmas.Slice.{put_mid-paste}
use Rattle.std.proofs.lemmas.Nat.{from_be_bytes-to_be_bytes_4}
use Rattle.std.proofs.Math.Seq.{paste}
use Rattle.std.specs.Int.{w32, to_be_bytes, from_be_bytes}
use borrow.Rule.Slice.PartMut.{put_mid}
use Rattle.update_codec.specs.declared.limits.TheConstants.{UPDATE_LIMIT}
use Rattle.bec_bytes.specs.Framed.{framed, HoldsPiece}
use Rattle.bec_bytes.proofs.Frames.{length-held, length_at-held}
use Rattle.update_log.specs.Reading.{ReaderState, left_of, count_left}

-- ---- the room

-- a part of a part
pub part_of_part : (n m h k : ℕ) (s : List ℕ) → n + m ≤ h → k ≡ m → take k (drop n s) ≡ take m (drop n (take h s))
part_of_part n m h k s le is =
    let whole : h ≡ n + (h - n) = omega arith in
    let short : m ≤ h - n = omega arith in
    ap (λ (i : ℕ). take i (drop n s)) is ∙ sym (ap (λ (i : ℕ). take m (drop n (take i s))) whole ∙ ap (take m) (drop-take n (h - n) s) ∙ take-take m (h - n) (drop n s) short)

-- what is left of a part, without its front
pub part_behind : (items : List ℕ) (from to n k : ℕ) → k ≤ to - from → n ≡ from + k → take (to - n) (drop n items) ≡ drop k (take (to - from) (drop from items))
part_behind items from to n k le is =
    let whole : to - from ≡ k + (to - n) = omega arith in
    ap (λ (i : ℕ). take (to - n) (drop i items)) is ∙ ap (take (to - n)) (sym (drop-drop k from items))
    ∙ sym (ap (λ (i : ℕ). drop k (take i (drop from items))) whole ∙ drop-take k (to - n) (drop from items))

-- what stood ready, moved to the front of the room, and what was read behind it
pub read_more : (items moved room read seen : List ℕ) (from h more k front end at len : ℕ) → from + h ≤ length items → length room ≡ len → moved ≡ paste items 0 (drop from items) h → room ≡ moved
    → h + more ≤ length room → k ≡ more → front ≡ 0 → end ≡ h + more → length read ≡ length (take k (drop h room)) → read ≡ take (length (take k (drop h room))) (drop at seen)
    → take (end - front) (drop front (take len (put_mid h k room read ++ drop (length (put_mid h k room read)) moved))) ++ drop (at + more) seen ≡ take h (drop from items) ++ drop at seen
read_more items moved room read seen from h more k front end at len there is_len is_moved is_room fits is_k is_front is_end size is_read =
    let len_read : length read ≡ more = omega (arith, size, length-take k (drop h room), length-drop h room) in
    let ready : take h room ≡ take h (drop from items) =
    ap (take h) (is_room ∙ is_moved) ∙ ap (λ (i : ℕ). take i (paste items 0 (drop from items) h)) (sym (zero-add h))
    ∙ take-paste items 0 (drop from items) h (omega arith) (omega (arith, length-drop from items)) in
    let came : take more read ≡ take more (drop at seen) = take_all more read (omega arith) ∙ is_read ∙ ap (λ (i : ℕ). take i (drop at seen)) (sym size ∙ len_read) in
    let whole : end - front ≡ h + more = omega (arith, is_front, is_end) in
    let after : put_mid h k room read ≡ paste room h read more = put_mid-paste h k room read read more refl (sym is_k) (sym len_read) in
    let size_after : length (put_mid h k room read) ≡ len = ap length after ∙ length-paste room h read more fits (omega arith) ∙ is_len in
    let shown : take len (put_mid h k room read ++ drop (length (put_mid h k room read)) moved) ≡ put_mid h k room read = take_at (put_mid h k room read) (drop (length (put_mid h k room read)) moved) len size_after in
    let both : take (end - front) (drop front (take len (put_mid h k room read ++ drop (length (put_mid h k room read)) moved))) ≡ take h (drop from items) ++ take more (drop at seen) =
    ap (λ (l : List ℕ). take (end - front) (drop front l)) shown ∙ ap (λ (i : ℕ). take (end - front) (drop i (put_mid h k room read))) is_front ∙ ap (λ (i : ℕ). take i (put_mid h k room read)) whole ∙ ap (take (h + more)) after
    ∙ take-paste room h read more (omega arith) (omega arith) ∙ ap (λ (l : List ℕ). l ++ take more read) ready ∙ ap (λ (l : List ℕ). take h (drop from items) ++ l) came in
    ap (λ (l : List ℕ). l ++ drop (at + more) seen) both ∙ append_assoc (take h (drop from items)) (take more (drop at seen)) (drop (at + more) seen)
    ∙ ap (λ (l : List ℕ). take h (drop from items) ++ l) (ap (λ (l : List ℕ). take more (drop at seen) ++ l) (sym (drop-drop more at seen)) ∙ take-append-drop more (drop at seen))

-- how much stands ready then
pub length_ready : (moved room read : List ℕ) (h more k front end len : ℕ) → length room ≡ len → h + more ≤ length room → k ≡ more → front ≡ 0 → end ≡ h + more → length read ≡ length (take k (drop h room))
    → length (take (end - front) (drop front (take len (put_mid h k room read ++ drop (length (put_mid h k room read)) moved)))) ≡ h + more
length_ready moved room read h more k front end len is_len fits is_k is_front is_end size =
    let len_read : length read ≡ more = omega (arith, size, length-take k (drop h room), length-drop h room) in
    let after : put_mid h k room read ≡ paste room h read more = put_mid-paste h k room read read more refl (sym is_k) (sym len_read) in
    let size_after : length (put_mid h k room read) ≡ len = ap length after ∙ length-paste room h read more fits (omega arith) ∙ is_len in
    let all : List ℕ = take len (put_mid h k room read ++ drop (length (put_mid h k room read)) moved) in
    let long : length all ≡ len = ap length (take_at (put_mid h k room read) (drop (length (put_mid h k room read)) moved) len size_after) ∙ size_after in
    omega (arith, length-take (end - front) (drop front all), length-drop front all, long, is_front, is_end, fits, is_len)

-- ---- what is left

pub length-left : (reader : ReaderState) (seen : List ℕ) → reader.at + reader.unread ≡ length seen → length (left_of reader seen) ≡ count_left reader
length-left reader seen over = omega (arith, length-append reader.ahead (drop reader.at seen), length-drop reader.at seen, over)

-- fewer than four bytes begin with no record
pub too_few : (reader : ReaderState) (seen r rest : List ℕ) → reader.at + reader.unread ≡ length seen → count_left reader < 4 → HoldsPiece UPDATE_LIMIT (left_of reader seen) r rest → ⊥
too_few reader seen r rest over few h = omega (arith, few, length-left reader seen over, length-held UPDATE_LIMIT (left_of reader seen) r rest h)

first_four : (reader : ReaderState) (seen : List ℕ) → 4 ≤ length reader.ahead → take 4 (left_of reader seen) ≡ take 4 reader.ahead
first_four reader seen ready = take-append-le 4 reader.ahead (drop reader.at seen) ready

-- a record that is too long, or longer than what is left
pub too_long : (old reader : ReaderState) (seen r rest : List ℕ) (n : ℕ) → n < 2 ^ 32 → reader.at + reader.unread ≡ length seen → left_of reader seen ≡ left_of old seen → 4 ≤ length reader.ahead
    → to_be_bytes w32 n ≡ take 4 reader.ahead → (UPDATE_LIMIT < n) ⊎ (count_left reader < 4 + n) → HoldsPiece UPDATE_LIMIT (left_of old seen) r rest → ⊥
too_long old reader seen r rest n fits over same ready prefix out h =
    let size : n ≡ length r = sym (from_be_bytes-to_be_bytes_4 n fits) ∙ ap (λ (w : List ℕ). from_be_bytes w32 w) (prefix ∙ sym (first_four reader seen ready) ∙ ap (take 4) same)
    ∙ length_at-held UPDATE_LIMIT (left_of old seen) r rest (omega arith) h in
    let all = length-held UPDATE_LIMIT (left_of old seen) r rest h in
    let left = sym (ap length same) ∙ length-left reader seen over in
    let short = h.short in
    elim out [
      | inl long ↦ omega (arith, size, short, long)
      | inr cut ↦ omega (arith, size, all, left, cut)
    ]

-- a length, and behind it as many bytes
whole_record : (s body : List ℕ) (n : ℕ) → to_be_bytes w32 n ≡ take 4 s → body ≡ take n (drop 4 s) → length body ≡ n → s ≡ framed body ++ drop (4 + n) s
unfolding framed
whole_record s body n head is size =
    let front : s ≡ take 4 s ++ drop 4 s = sym (take-append-drop 4 s) in
    let back : drop 4 s ≡ body ++ drop n (drop 4 s) = sym (take-append-drop n (drop 4 s)) ∙ ap (λ (w : List ℕ). w ++ drop n (drop 4 s)) (sym is) in
    let named : take 4 s ≡ to_be_bytes w32 (length body) = sym head ∙ ap (to_be_bytes w32) (sym size) in
    front ∙ ap (λ (w : List ℕ). w ++ drop 4 s) named ∙ ap (λ (w : List ℕ). to_be_bytes w32 (length body) ++ w) (back ∙ ap (λ (w : List ℕ). body ++ w) (drop-drop n 4 s))
    ∙ sym (append_assoc (to_be_bytes w32 (length body)) body (drop (4 + n) s))

-- the record that is taken
pub whole : (old first ready new : ReaderState) (seen body : List ℕ) (n : ℕ) → n ≤ UPDATE_LIMIT → left_of first seen ≡ left_of old seen → left_of ready seen ≡ left_of first seen
    → 4 ≤ length first.ahead → 4 + n ≤ length ready.ahead → to_be_bytes w32 n ≡ take 4 first.ahead → body ≡ take n (drop 4 ready.ahead)
    → new ≡ record { ahead = drop (4 + n) ready.ahead; at = ready.at; unread = ready.unread } → HoldsPiece UPDATE_LIMIT (left_of old seen) body (left_of new seen)
whole old first ready new seen body n short same again four all prefix is is_new =
    let size : length body ≡ n = ap length is ∙ omega (arith, length-take n (drop 4 ready.ahead), length-drop 4 ready.ahead) in
    let four_too : 4 ≤ length ready.ahead = omega arith in
    let head = prefix ∙ sym (first_four first seen four) ∙ ap (take 4) (sym again) ∙ first_four ready seen four_too in
    record {
      short = omega (arith, size, short);
      parts = sym same ∙ sym again ∙ ap (λ (w : List ℕ). w ++ drop ready.at seen) (whole_record ready.ahead body n head is size)
          ∙ append_assoc (framed body) (drop (4 + n) ready.ahead) (drop ready.at seen) ∙ ap (λ (k : ReaderState). framed body ++ left_of k seen) (sym is_new);
    }
