-- Two records at the front of bytes.
use Rattle.std.proofs.Common.{◌≡◌, ◌∙◌, ℕ, ◌+◌, ◌<◌, ◌≤◌, ◌^◌, Bool, true, false, List, [], ◌∷◌, ◌++◌, length, refl, sym, ap, subst, append-nil, append_assoc, length-append, take, drop, Option, None, Some, Result, Ok, Err, IfOk, arith}
use Rattle.std.specs.Prelude.{◌==◌, MatchOption}
use Rattle.std.specs.List.{IsSplitAt}
use Rattle.std.specs.Int.{w32, to_be_bytes}
use Rattle.std.proofs.lemmas.Bool.{eqb-true, true≢false}
use Rattle.std.proofs.lemmas.List.{take-append-drop}
use Rattle.bec_bytes.specs.Framed.{framed, length_at, stream_of}
use Rattle.bec_bytes.proofs.Frames.{length-framed, length_at-framed, length_at-number, one_front, stream_of-cons, stream_of-nil}
use Rattle.update_model.specs.declared.author_key.AuthorKey.{AuthorKey}
use Rattle.update_check.specs.Signed.{IsSigned}
use Rattle.key_audit.specs.Doubles.{AreDoubled}
use Rattle.audit_text.specs.Certificates.{AreNotTwo, AreTwo, HasNoRecord, HoldsDoubled, HoldsNone, HoldsRecord}

-- two records, one behind the other
pub two_framed : (first second : List ℕ) → stream_of (first ∷ second ∷ []) ≡ framed first ++ (framed second ++ [])
two_framed first second = stream_of-cons first (second ∷ []) ∙ ap (λ (w : List ℕ). framed first ++ w) (stream_of-cons second [] ∙ ap (λ (w : List ℕ). framed second ++ w) stream_of-nil)

length-two : (first second : List ℕ) → length (stream_of (first ∷ second ∷ [])) ≡ (4 + length first) + (4 + length second)
length-two first second =
    ap length (two_framed first second) ∙ length-append (framed first) (framed second ++ []) ∙ (λ i. length-framed first i + length (append-nil (framed second) i)) ∙ ap (λ (n : ℕ). (4 + length first) + n) (length-framed second)

-- ---- one record

pub too_short : (bytes : List ℕ) → length bytes < 4 → HasNoRecord bytes
too_short bytes few piece rest held =
    let size = ap length held.parts ∙ length-append (framed piece) rest in let four = length-framed piece in omega (arith, size, four, few)

cut_short : (bytes prefix behind : List ℕ) (size : ℕ) → bytes ≡ prefix ++ behind → length prefix ≡ 4 → to_be_bytes w32 size ≡ prefix → size < 2 ^ 32 → length behind < size → HasNoRecord bytes
cut_short bytes prefix behind size parts four spells small few piece rest held =
    let own : length_at bytes ≡ size = ap length_at (parts ∙ ap (λ (w : List ℕ). w ++ behind) (sym spells)) ∙ length_at-number size behind small in
    let there : length_at bytes ≡ length piece = ap length_at held.parts ∙ length_at-framed piece rest held.fits in
    let all = ap length parts ∙ length-append prefix behind in
    let same = ap length held.parts ∙ length-append (framed piece) rest in
    let whole = length-framed piece in
    omega (arith, own, there, all, same, whole, four, few)

one_record : (bytes prefix behind piece rest : List ℕ) (size : ℕ) → bytes ≡ prefix ++ behind → to_be_bytes w32 size ≡ prefix → size < 2 ^ 32 → behind ≡ piece ++ rest → length piece ≡ size → HoldsRecord bytes piece rest
unfolding framed
one_record bytes prefix behind piece rest size parts spells small split is = record {
  fits = omega (arith, small, is);
  parts = parts ∙ (λ i. sym spells i ++ split i) ∙ ap (λ (n : ℕ). to_be_bytes w32 n ++ (piece ++ rest)) (sym is) ∙ sym (append_assoc (to_be_bytes w32 (length piece)) piece rest);
}

-- what stands behind a length, cut at it
pub first_split : {P : Type 0} (bytes prefix behind : List ℕ) (size : ℕ) (found : Option P) (front back : P → List ℕ) → prefix ≡ take 4 bytes → behind ≡ drop 4 bytes → length prefix ≡ 4
    → to_be_bytes w32 size ≡ prefix → size < 2 ^ 32 → MatchOption found (length behind < size) (λ p. IsSplitAt behind size (front p) (back p))
    → MatchOption found (HasNoRecord bytes) (λ p. HoldsRecord bytes (front p) (back p))
first_split bytes prefix behind size None front back a b four spells small few = cut_short bytes prefix behind size (sym (take-append-drop 4 bytes) ∙ (λ i. sym a i ++ sym b i)) four spells small few
first_split bytes prefix behind size (Some p) front back a b four spells small split =
    one_record bytes prefix behind (front p) (back p) size (sym (take-append-drop 4 bytes) ∙ (λ i. sym a i ++ sym b i)) spells small
    (sym (take-append-drop size behind) ∙ (λ i. sym split.1 i ++ sym split.2 i)) split.3

-- ---- two records

-- where the bytes do not begin with a record, or what is behind it does not, or more follows, they are not two
pub none_first : (bytes : List ℕ) → HasNoRecord bytes → AreNotTwo bytes
none_first bytes none first second are = none first (framed second ++ []) (record { fits = are.first_fits; parts = are.records ∙ two_framed first second })

pub none_second : (bytes piece behind : List ℕ) → HoldsRecord bytes piece behind → HasNoRecord behind → AreNotTwo bytes
none_second bytes piece behind held none first second are =
    let same = one_front piece first behind (framed second ++ []) held.fits are.first_fits (sym held.parts ∙ are.records ∙ two_framed first second) in
    none second [] (record { fits = are.second_fits; parts = same.1 })

pub more_behind : (bytes piece other behind rest : List ℕ) → HoldsRecord bytes piece behind → HoldsRecord behind other rest → 0 < length rest → AreNotTwo bytes
more_behind bytes piece other behind rest held last some first second are =
    let same = one_front piece first behind (framed second ++ []) held.fits are.first_fits (sym held.parts ∙ are.records ∙ two_framed first second) in
    let end = one_front other second rest [] last.fits are.second_fits (sym last.parts ∙ same.1) in
    let none = ap length end.1 in omega (arith, none, some)

pub two_are : (bytes piece other behind rest : List ℕ) → HoldsRecord bytes piece behind → HoldsRecord behind other rest → rest ≡ [] → AreTwo bytes piece other
two_are bytes piece other behind rest held last none = record {
  first_fits = held.fits;
  second_fits = last.fits;
  records = held.parts ∙ ap (λ (w : List ℕ). framed piece ++ w) (last.parts ∙ ap (λ (w : List ℕ). framed other ++ w) none) ∙ sym (two_framed piece other);
}

-- what a test of the length says
pub empty_is : (l : List ℕ) (b : Bool) → b ≡ (length l == 0) → b ≡ true → l ≡ []
empty_is [] b e is = refl
empty_is (x ∷ l) b e is = absurd (let none = eqb-true (length (x ∷ l)) 0 (sym e ∙ is) in omega (arith, none))

pub some_is : (l : List ℕ) (b : Bool) → b ≡ (length l == 0) → b ≡ false → 0 < length l
some_is [] b e is = absurd (true≢false (sym e ∙ is))
some_is (x ∷ l) b e is = omega arith

-- ---- updates that are doubled

fits : (bytes : List ℕ) → IsSigned bytes → length bytes < 2 ^ 32
fits bytes signed = let short = signed.1.spells.short in omega (arith, short)

-- bytes that are not two records hold no two updates
pub none_held : (bytes : List ℕ) → AreNotTwo bytes → HoldsNone bytes
none_held bytes none key index held = none held.first held.second (record {
  first_fits = fits held.first held.doubled.first_signed;
  second_fits = fits held.second held.doubled.second_signed;
  records = held.records;
})

same_two : (first second third fourth : List ℕ) → length first < 2 ^ 32 → length second < 2 ^ 32 → length third < 2 ^ 32 → length fourth < 2 ^ 32
    → stream_of (first ∷ second ∷ []) ≡ stream_of (third ∷ fourth ∷ []) → (first ≡ third) × (second ≡ fourth)
same_two first second third fourth a b c d is =
    let front = one_front first third (framed second ++ []) (framed fourth ++ []) a c (sym (two_framed first second) ∙ is ∙ two_framed third fourth) in
    (front.0, (one_front second fourth [] [] b d front.1).0)

unconfirmed : (bytes first second : List ℕ) → AreTwo bytes first second → ((key : AuthorKey) (index : ℕ) → AreDoubled first second key index → ⊥) → HoldsNone bytes
unconfirmed bytes first second are none key index held =
    let same = same_two held.first held.second first second (fits held.first held.doubled.first_signed) (fits held.second held.doubled.second_signed) are.first_fits are.second_fits (sym held.records ∙ are.records) in
    none key index (subst (λ (x : List ℕ). AreDoubled x second key index) same.0 (subst (λ (x : List ℕ). AreDoubled held.first x key index) same.1 held.doubled))

-- what is found of two records is found of the bytes
pub certified_by : {E : Type 0} (bytes first second : List ℕ) (result : Result (Option (AuthorKey × ℕ)) E) → AreTwo bytes first second
    → IfOk result (λ found. MatchOption found ((key : AuthorKey) (index : ℕ) → AreDoubled first second key index → ⊥) (λ pair. AreDoubled first second pair.0 pair.1))
    → IfOk result (λ found. MatchOption found (HoldsNone bytes) (λ pair. HoldsDoubled bytes pair.0 pair.1))
certified_by bytes first second (Ok None) are none = unconfirmed bytes first second are none
certified_by bytes first second (Ok (Some pair)) are is = record { first = first; second = second; records = are.records; doubled = is }
certified_by bytes first second (Err e) are is = tt

-- bytes hold one key and index
pub one_double : (bytes : List ℕ) (key other : AuthorKey) (index number : ℕ) → HoldsDoubled bytes key index → HoldsDoubled bytes other number → (key ≡ other) × (index ≡ number)
one_double bytes key other index number one two =
    let same = same_two one.first one.second two.first two.second (fits one.first one.doubled.first_signed) (fits one.second one.doubled.second_signed) (fits two.first two.doubled.first_signed) (fits two.second two.doubled.second_signed)
    (sym one.records ∙ two.records) in
    let moved = subst (λ (x : List ℕ). AreDoubled x one.second key index) same.0 one.doubled in
    (sym moved.pair.one.author ∙ two.doubled.pair.one.author, sym moved.pair.one.number ∙ two.doubled.pair.one.number)

-- bytes that hold two updates are no longer than two records may be
pub held_short : (bytes : List ℕ) (key : AuthorKey) (index : ℕ) → HoldsDoubled bytes key index → length bytes ≤ 524296
held_short bytes key index held =
    let size = ap length held.records ∙ length-two held.first held.second in
    let one = held.doubled.first_signed.1.spells.short in
    let two = held.doubled.second_signed.1.spells.short in
    omega (arith, size, one, two)
