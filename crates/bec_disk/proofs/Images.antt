-- What a crash may leave after a sync, a write and a cut comes from what it might have left before.
use Rattle.std.proofs.Common.{◌≡◌, ◌⊎◌, inl, inr, ℕ, zero, suc, ◌+◌, ◌<◌, ◌≤◌, List, [], ◌∷◌, length, take, get_or, refl, sym, ◌∙◌, ap, subst, arith, Bool, true, false, cond}
use Rattle.std.specs.Prelude.{nat_le, nat_lt, ◌&&◌, min, max}
use Rattle.std.proofs.lemmas.List.{same_lists, get_or_default, get_or-take, length-take-le, take_all}
use Rattle.std.proofs.lemmas.Bool.Decides.{nat_tests}
use Rattle.bec_disk.specs.Disk.{Moment, DiskState, IsImage, EveryImage, IsSettled, synced_at, written_at, cut_at}
use Rattle.bec_disk.specs.Images.{IsTorn, IsCut, IsTornFrom, IsCutFrom}

-- two lists of one length with the same numbers
pub same_numbers : (xs ys : List ℕ) → length xs ≡ length ys → ((i : ℕ) → i < length xs → get_or xs i 0 ≡ get_or ys i 0) → xs ≡ ys
same_numbers xs ys len each =
    same_lists xs ys len (λ k d lt. let lt' : k < length ys = omega (arith, len) in get_or_default xs k d 0 lt ∙ each k lt ∙ get_or_default ys k 0 d lt')

-- after a sync a crash leaves what was synced
pub image-synced : (bytes c : List ℕ) → IsImage (synced_at bytes) c → c ≡ bytes
image-synced bytes c image =
    let len : length c ≡ length bytes = omega (arith, image.no_shorter, image.no_longer) in
    same_numbers c bytes len (λ i lt. image.kept i (omega (arith, len)) lt tt)

-- and it may leave that
pub synced-image : (bytes : List ℕ) → IsImage (synced_at bytes) bytes
synced-image bytes = record { no_shorter = omega arith; no_longer = omega arith; kept = λ i lt lt' out. refl }

-- a settled disk is left as it reads
pub settled_image : (disk : DiskState) (P : List ℕ → Type 0) → IsSettled disk → P disk.seen → EveryImage disk.now P
settled_image disk P settled here c image = subst P (sym (image-synced disk.seen c (subst (λ (m : Moment). IsImage m c) settled image))) here

pub torn-none : (at end : ℕ) (bytes : List ℕ) → IsTorn at end bytes bytes
torn-none at end bytes = record { no_shorter = omega arith; no_longer = omega arith; kept = λ i lt out. refl }

pub cut-none : (len : ℕ) (bytes : List ℕ) → IsCut len bytes bytes
cut-none len bytes = record { no_shorter = omega arith; front = sym (take_all (length bytes) bytes (omega arith)) }

-- of a settled disk, what it reads as is what might have been left
pub torn_settled : (disk : DiskState) (at end : ℕ) (c : List ℕ) → IsSettled disk → IsTornFrom disk.now at end c → IsTorn at end disk.seen c
torn_settled disk at end c settled torn = subst (λ (b : List ℕ). IsTorn at end b c) (settled_image disk (λ b. b ≡ disk.seen) settled refl torn.0 torn.1) torn.2

pub cut_settled : (disk : DiskState) (len : ℕ) (c : List ℕ) → IsSettled disk → IsCutFrom disk.now len c → IsCut len disk.seen c
cut_settled disk len c settled cut = subst (λ (b : List ℕ). IsCut len b c) (settled_image disk (λ b. b ≡ disk.seen) settled refl cut.0 cut.1) cut.2

-- the numbers of a function from i on
listed : (ℕ → ℕ) → ℕ → ℕ → List ℕ
listed f i zero = []
listed f i (suc n) = f i ∷ listed f (suc i) n

length-listed : (f : ℕ → ℕ) (i n : ℕ) → length (listed f i n) ≡ n
unfolding listed
length-listed f i zero = refl
length-listed f i (suc n) = ap suc (length-listed f (suc i) n)

get_or-listed : (f : ℕ → ℕ) (i n k j : ℕ) → k < n → j ≡ i + k → get_or (listed f i n) k 0 ≡ f j
unfolding listed
get_or-listed f i zero k j lt is = absurd (omega arith)
get_or-listed f i (suc n) zero j lt is = let same : i ≡ j = omega arith in ap f same
get_or-listed f i (suc n) (suc k) j lt is = get_or-listed f (suc i) n k j (omega arith) (omega arith)

-- the byte of one list where the test holds, and else of the other
picked : (ℕ → Bool) → List ℕ → List ℕ → ℕ → ℕ
picked test xs ys i = cond (test i) (get_or xs i 0) (get_or ys i 0)

picked-first : (test : ℕ → Bool) (xs ys : List ℕ) (n i : ℕ) → i < n → test i ≡ true → get_or (listed (picked test xs ys) 0 n) i 0 ≡ get_or xs i 0
unfolding picked
picked-first test xs ys n i lt is = get_or-listed (picked test xs ys) 0 n i i lt (omega arith) ∙ ap (λ (b : Bool). cond b (get_or xs i 0) (get_or ys i 0)) is

picked-second : (test : ℕ → Bool) (xs ys : List ℕ) (n i : ℕ) → i < n → test i ≡ false → get_or (listed (picked test xs ys) 0 n) i 0 ≡ get_or ys i 0
unfolding picked
picked-second test xs ys n i lt is = get_or-listed (picked test xs ys) 0 n i i lt (omega arith) ∙ ap (λ (b : Bool). cond b (get_or xs i 0) (get_or ys i 0)) is

-- the place is in the range
in_range : ℕ → ℕ → ℕ → Bool
in_range at end i = nat_le at i && nat_lt i end

inside : (at end i : ℕ) → at ≤ i → i < end → in_range at end i ≡ true
unfolding in_range
inside at end i a b = grind (arith, nat_tests)

outside : (at end i : ℕ) → (i < at) ⊎ (end ≤ i) → in_range at end i ≡ false
unfolding in_range
outside at end i (inl a) = grind (arith, nat_tests)
outside at end i (inr a) = grind (arith, nat_tests)

where_is : (at end i : ℕ) → (at ≤ i × i < end) ⊎ ((i < at) ⊎ (end ≤ i))
where_is at end i = grind (arith, nat_tests)

-- an image after a write is one from before, but for the range
pub image-before_write : (m : Moment) (at n : ℕ) (c : List ℕ) → m.least ≤ m.greatest → IsImage (written_at at n m) c → IsTornFrom m at (at + n) c
image-before_write m at n c sane image =
    let within = in_range at (at + n) in
    let len = min (length c) m.greatest in
    let before = listed (picked within m.synced c) 0 len in
    let long : length before ≡ len = length-listed (picked within m.synced c) 0 len in (
      before,
      record {
        no_shorter = omega (arith, long, image.no_shorter);
        no_longer = omega (arith, long);
        kept = λ i lt lt' unwritten. elim (where_is at (at + n) i) [
          | inl is ↦ picked-first within m.synced c len i (omega (arith, long)) (inside at (at + n) i is.0 is.1)
          | inr out ↦ picked-second within m.synced c len i (omega (arith, long)) (outside at (at + n) i out) ∙ image.kept i lt (omega (arith, long)) (out, unwritten)
        ];
      },
      record {
        no_shorter = omega (arith, long);
        no_longer = omega (arith, long, image.no_longer);
        kept = λ i lt out. sym (picked-second within m.synced c len i (omega (arith, long)) (outside at (at + n) i out));
      },
    )

-- an image after a cut is a front of one from before
pub image-before_cut : (m : Moment) (len : ℕ) (c : List ℕ) → m.least ≤ m.greatest → IsImage (cut_at len m) c → IsCutFrom m len c
image-before_cut m len c sane image =
    let behind = λ (i : ℕ). nat_le (length c) i in
    let all = max (length c) m.least in
    let before = listed (picked behind m.synced c) 0 all in
    let long : length before ≡ all = length-listed (picked behind m.synced c) 0 all in
    let front : (i : ℕ) → i < length c → get_or before i 0 ≡ get_or c i 0 = λ i lt. picked-second behind m.synced c all i (omega arith) (is_front (length c) i lt) in (
      before,
      record {
        no_shorter = omega (arith, long);
        no_longer = omega (arith, long, image.no_longer);
        kept = λ i lt lt' unwritten. elim (where_is (length c) (length before) i) [
          | inl is ↦ picked-first behind m.synced c all i (omega (arith, long)) (is_behind (length c) i is.0)
          | inr out ↦ let lt2 : i < length c = omega (arith, out, lt') in front i lt2 ∙ image.kept i lt lt2 unwritten
        ];
      },
      record {
        no_shorter = omega (arith, long, image.no_shorter);
        front =
            let le : length c ≤ length before = omega (arith, long) in
            same_numbers c (take (length c) before) (sym (length-take-le (length c) before le)) (λ i lt. sym (get_or-take (length c) before i 0 lt ∙ front i lt));
      },
    )
  where
    is_front : (n i : ℕ) → i < n → nat_le n i ≡ false
    is_front n i lt = grind (arith, nat_tests)

    is_behind : (n i : ℕ) → n ≤ i → nat_le n i ≡ true
    is_behind n i le = grind (arith, nat_tests)
