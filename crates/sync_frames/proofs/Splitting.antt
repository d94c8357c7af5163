-- A stream splits in one way.
use Rattle.std.proofs.Common.{◌≡◌, ◌⊎◌, inl, inr, ℕ, ◌+◌, ◌<◌, ◌≤◌, ◌^◌, true, false, ◌&&◌, ◌||◌, ◌==◌, List, [], ◌∷◌, ◌++◌, length, take, drop, refl, sym, ap, ap₂, subst, ◌∙◌, arith, append_assoc, length-append, leb-true, take_at, drop_at}
use Rattle.std.proofs.lemmas.List.{take-append-le}
use Rattle.std.proofs.lemmas.Bool.{or_cases, and_parts}
use Rattle.std.specs.Prelude.{nat_le}
use Rattle.std.specs.Int.{w32, from_be_bytes}
use Rattle.std.proofs.lemmas.Nat.{from_be_bytes-to_be_bytes_4}
use Rattle.sync_frames.specs.declared.frame.Frame.{Frame}
use Rattle.sync_frames.specs.Stream.{RawFrame, spelled, is_head, kind_of, length_of, front_of, Says, Spells, AreSpelled, IsBegun, IsBroken, Splits}
use Rattle.sync_frames.proofs.Telling.{one_meaning}

pub small_head : (kind len : ℕ) → is_head kind len ≡ true → len < 2 ^ 32
small_head kind len h = elim (or_cases (((kind == 1) || (kind == 3)) && nat_le len 8388608) ((kind == 2) && nat_le len 262144) h) [
  | inl one ↦ let low = leb-true len 8388608 (and_parts ((kind == 1) || (kind == 3)) (nat_le len 8388608) one).1 in omega arith
  | inr two ↦ let low = leb-true len 262144 (and_parts (kind == 2) (nat_le len 262144) two).1 in omega arith
]

length_front : (raw : RawFrame) (x : List ℕ) → is_head raw.kind (length raw.payload) ≡ true → length_of (spelled raw ++ x) ≡ length raw.payload
length_front raw x h = from_be_bytes-to_be_bytes_4 (length raw.payload) (small_head raw.kind (length raw.payload) h)

payload_front : (raw : RawFrame) (x : List ℕ) (n : ℕ) → length raw.payload ≡ n → take n (drop 5 (spelled raw ++ x)) ≡ raw.payload
payload_front raw x n e = take_at raw.payload x n e

rest_front : (raw : RawFrame) (x : List ℕ) (n : ℕ) → length raw.payload ≡ n → drop n (drop 5 (spelled raw ++ x)) ≡ x
rest_front raw x n e = drop_at raw.payload x n e

long_front : (raw : RawFrame) (x : List ℕ) → length (spelled raw ++ x) ≡ 5 + length raw.payload + length x
long_front raw x = omega (arith, length-append raw.payload x)

-- what stands at the front is the frame
raw_front : (raw : RawFrame) (x : List ℕ) → is_head raw.kind (length raw.payload) ≡ true → front_of (spelled raw ++ x) ≡ raw
raw_front raw x h = ap (λ (p : List ℕ). let r : RawFrame = record { kind = raw.kind; payload = p } in r) (payload_front raw x (length_of (spelled raw ++ x)) (sym (length_front raw x h)))

not_raw_rest : (raw : RawFrame) (frame : Frame) (x : List ℕ) → is_head raw.kind (length raw.payload) ≡ true → Says raw frame → IsBegun (spelled raw ++ x) ⊎ IsBroken (spelled raw ++ x) → ⊥
not_raw_rest raw frame x h says (inl (inl short)) = let long = long_front raw x in omega arith
not_raw_rest raw frame x h says (inl (inr begun)) = let long = long_front raw x in let n = length_front raw x h in omega (arith, begun.1)
not_raw_rest raw frame x h says (inr broken) = elim broken.wrong [
  | inl head ↦ let n = length_front raw x h in let bad : is_head raw.kind (length raw.payload) ≡ false = subst (λ (k : ℕ). is_head raw.kind k ≡ false) n head in cc
  | inr body ↦ body.1 frame (subst (λ (r : RawFrame). Says r frame) (sym (raw_front raw x h)) says)
]

-- a whole frame is no rest
not_rest : (frame : Frame) (bytes x : List ℕ) → Spells frame bytes → IsBegun (bytes ++ x) ⊎ IsBroken (bytes ++ x) → ⊥
not_rest frame bytes x s last = not_raw_rest s.raw frame x s.head s.says (subst (λ (b : List ℕ). IsBegun (b ++ x) ⊎ IsBroken (b ++ x)) s.whole last)

same_raw : (r q : RawFrame) (x y : List ℕ) → is_head r.kind (length r.payload) ≡ true → is_head q.kind (length q.payload) ≡ true → spelled r ++ x ≡ spelled q ++ y → (r ≡ q) × (x ≡ y)
same_raw r q x y hr hq e =
    let kinds : r.kind ≡ q.kind = ap kind_of e in
    let lengths : length r.payload ≡ length q.payload = sym (length_front r x hr) ∙ ap length_of e ∙ length_front q y hq in
    let payloads : r.payload ≡ q.payload = sym (payload_front r x (length r.payload) refl) ∙ ap (λ s. take (length r.payload) (drop 5 s)) e ∙ payload_front q y (length r.payload) (sym lengths) in
    let rests : x ≡ y = sym (rest_front r x (length r.payload) refl) ∙ ap (λ s. drop (length r.payload) (drop 5 s)) e ∙ rest_front q y (length r.payload) (sym lengths) in
    (ap₂ (λ k p. record { kind = k; payload = p }) kinds payloads, rests)

same_front : (f g : Frame) (a b x y : List ℕ) → Spells f a → Spells g b → a ++ x ≡ b ++ y → (f ≡ g) × (x ≡ y)
same_front f g a b x y s t e =
    let same = same_raw s.raw t.raw x y s.head t.head (ap (λ (w : List ℕ). w ++ x) (sym s.whole) ∙ e ∙ ap (λ (w : List ℕ). w ++ y) t.whole) in
    (one_meaning s.raw f g s.says (subst (λ (r : RawFrame). Says r g) (sym same.0) t.says), same.1)

one_way : (frames others : List Frame) (a b rest other : List ℕ) → AreSpelled frames a → AreSpelled others b
    → IsBegun rest ⊎ IsBroken rest → IsBegun other ⊎ IsBroken other → a ++ rest ≡ b ++ other → (frames ≡ others) × (rest ≡ other)
one_way [] [] a b rest other sa sb last last_too e = (refl, ap (λ (w : List ℕ). w ++ rest) (sym sa) ∙ e ∙ ap (λ (w : List ℕ). w ++ other) sb)
one_way [] (g ∷ gs) a b rest other sa (first, later, spells, others_are, is) last last_too e =
    let front : rest ≡ first ++ (later ++ other) = ap (λ (w : List ℕ). w ++ rest) (sym sa) ∙ e ∙ ap (λ (w : List ℕ). w ++ other) is ∙ append_assoc first later other in
    absurd (not_rest g first (later ++ other) spells (subst (λ (w : List ℕ). IsBegun w ⊎ IsBroken w) front last))
one_way (f ∷ fs) [] a b rest other (first, later, spells, others_are, is) sb last last_too e =
    let front : other ≡ first ++ (later ++ rest) = ap (λ (w : List ℕ). w ++ other) (sym sb) ∙ sym e ∙ ap (λ (w : List ℕ). w ++ rest) is ∙ append_assoc first later rest in
    absurd (not_rest f first (later ++ rest) spells (subst (λ (w : List ℕ). IsBegun w ⊎ IsBroken w) front last_too))
one_way (f ∷ fs) (g ∷ gs) a b rest other (first, later, spells, others_are, is) (first_too, later_too, spells_too, others_too, is_too) last last_too e =
    let step = same_front f g first first_too (later ++ rest) (later_too ++ other) spells spells_too
    (sym (append_assoc first later rest) ∙ ap (λ (w : List ℕ). w ++ rest) (sym is) ∙ e ∙ ap (λ (w : List ℕ). w ++ other) is_too ∙ append_assoc first_too later_too other) in
    let others = one_way fs gs later later_too rest other others_are others_too last last_too step.1 in
    (ap₂ (λ (h : Frame) (hs : List Frame). h ∷ hs) step.0 others.0, others.1)

pub one_split : (stream : List ℕ) (frames others : List Frame) (rest other : List ℕ) → Splits stream frames rest → Splits stream others other → (frames ≡ others) × (rest ≡ other)
one_split stream frames others rest other s t = one_way frames others s.front t.front rest other s.each t.each s.last t.last (sym s.whole ∙ t.whole)

pub AreSpelled-append : (fs gs : List Frame) (a b : List ℕ) → AreSpelled fs a → AreSpelled gs b → AreSpelled (fs ++ gs) (a ++ b)
AreSpelled-append [] gs a b sa sb = subst (λ (w : List ℕ). AreSpelled gs (w ++ b)) (sym sa) sb
AreSpelled-append (f ∷ fs) gs a b (first, later, spells, others_are, is) sb =
    (first, later ++ b, spells, AreSpelled-append fs gs later b others_are sb, ap (λ (w : List ℕ). w ++ b) is ∙ append_assoc first later b)

-- one more piece
pub pieces_join : (stream piece : List ℕ) (frames more : List Frame) (rest last : List ℕ) → Splits stream frames rest → Splits (rest ++ piece) more last → Splits (stream ++ piece) (frames ++ more) last
pieces_join stream piece frames more rest last s t = record {
  front = s.front ++ t.front;
  each = AreSpelled-append frames more s.front t.front s.each t.each;
  whole = ap (λ (w : List ℕ). w ++ piece) s.whole ∙ append_assoc s.front rest piece ∙ ap (λ (w : List ℕ). s.front ++ w) t.whole ∙ sym (append_assoc s.front t.front last);
  last = t.last;
}

-- one more frame in front
pub read_again : (frame : Frame) (bytes stream : List ℕ) (frames : List Frame) (rest : List ℕ) → Spells frame bytes → Splits stream frames rest → Splits (bytes ++ stream) (frame ∷ frames) rest
read_again frame bytes stream frames rest spells s = record {
  front = bytes ++ s.front;
  each = (bytes, s.front, spells, s.each, refl);
  whole = ap (λ (w : List ℕ). bytes ++ w) s.whole ∙ sym (append_assoc bytes s.front rest);
  last = s.last;
}

-- what is no frame stays none
pub faults_stay : (bytes more : List ℕ) → IsBroken bytes → IsBroken (bytes ++ more)
faults_stay [] more broken = absurd (let enough = broken.enough in omega arith)
faults_stay (b0 ∷ []) more broken = absurd (let enough = broken.enough in omega arith)
faults_stay (b0 ∷ b1 ∷ []) more broken = absurd (let enough = broken.enough in omega arith)
faults_stay (b0 ∷ b1 ∷ b2 ∷ []) more broken = absurd (let enough = broken.enough in omega arith)
faults_stay (b0 ∷ b1 ∷ b2 ∷ b3 ∷ []) more broken = absurd (let enough = broken.enough in omega arith)
faults_stay (b0 ∷ b1 ∷ b2 ∷ b3 ∷ b4 ∷ tail) more broken = record { enough = omega arith; wrong = still broken.wrong }
  where
    still : (is_head b0 (from_be_bytes w32 (b1 ∷ b2 ∷ b3 ∷ b4 ∷ [])) ≡ false)
        ⊎ ((5 + from_be_bytes w32 (b1 ∷ b2 ∷ b3 ∷ b4 ∷ []) ≤ length (b0 ∷ b1 ∷ b2 ∷ b3 ∷ b4 ∷ tail)) × ((frame : Frame) → Says (record { kind = b0; payload = take (from_be_bytes w32 (b1 ∷ b2 ∷ b3 ∷ b4 ∷ [])) tail }) frame → ⊥))
        → (is_head b0 (from_be_bytes w32 (b1 ∷ b2 ∷ b3 ∷ b4 ∷ [])) ≡ false)
        ⊎ ((5 + from_be_bytes w32 (b1 ∷ b2 ∷ b3 ∷ b4 ∷ []) ≤ length (b0 ∷ b1 ∷ b2 ∷ b3 ∷ b4 ∷ (tail ++ more))) × ((frame : Frame) → Says (record { kind = b0; payload = take (from_be_bytes w32 (b1 ∷ b2 ∷ b3 ∷ b4 ∷ [])) (tail ++ more) }) frame → ⊥))
    still (inl head) = inl head
    still (inr body) =
        let long : from_be_bytes w32 (b1 ∷ b2 ∷ b3 ∷ b4 ∷ []) ≤ length tail = let whole = body.0 in omega arith in
        inr (
          let whole = body.0 in omega (arith, length-append tail more),
          λ frame says. body.1 frame (subst (λ (p : List ℕ). Says (record { kind = b0; payload = p }) frame) (take-append-le (from_be_bytes w32 (b1 ∷ b2 ∷ b3 ∷ b4 ∷ [])) tail more long) says),
        )
