-- Two parts read as one key, as none, or as a bad one.
use Rattle.std.proofs.Common.{◌≡◌, ℕ, ◌<◌, ◌^◌, zero, suc, List, [], ◌++◌, length, take, refl, sym, ◌∙◌, ap, subst, arith, Some, None, Option}
use Rattle.std.proofs.Math.Seq.{take-append_seam}
use Rattle.std.proofs.lemmas.List.{append_cancel_left}
use Rattle.std.proofs.lemmas.Nat.{from_be_bytes-to_be_bytes_4}
use Rattle.std.specs.Int.{w32, to_be_bytes, from_be_bytes}
use Rattle.bec_disk.specs.Gated.{gated_of}
use Rattle.bec_disk.specs.declared.gated.Gated.{Gated}
use Rattle.bec_disk.specs.declared.gated.Gated.TheVariants.{Absent, Damaged, Whole}
use Rattle.lm_ots.specs.OtsKind as ots_kind
use Rattle.lm_ots.specs.declared.ots_type.OtsType.{OtsType}
use Rattle.lm_ots.specs.declared.ots_type.OtsType.TheVariants.{W1, W2, W4, W8}
use Rattle.lms_tree.specs.LmsKind.{type_word}
use Rattle.lms_tree.specs.SecretKey.{SecretData}
use Rattle.lms_tree.specs.declared.lms_type.LmsType.{LmsType}
use Rattle.lms_tree.specs.declared.lms_type.LmsType.TheVariants.{H5, H10, H15}
use Rattle.key_index.specs.Payload.{payload_of}
use Rattle.key_index.specs.Opening.{Holds}
use Rattle.key_directory.specs.Keys.{IsBadKey, IsNoKey, ReadsAsKey}

payload_in : Gated → List ℕ
payload_in Absent = []
payload_in Damaged = []
payload_in (Whole payload) = payload

-- a part has one payload
pub same_payload : (part one two : List ℕ) → gated_of part ≡ Whole one → gated_of part ≡ Whole two → one ≡ two
unfolding payload_in
same_payload part one two a b = ap payload_in (sym a ∙ b)

is_absent : Gated → Type 0
is_absent Absent = Unit {0}
is_absent Damaged = ⊥
is_absent (Whole payload) = ⊥

pub whole-not-absent : (part payload : List ℕ) → gated_of part ≡ Whole payload → gated_of part ≡ Absent → ⊥
unfolding is_absent
whole-not-absent part payload whole gone = subst is_absent (sym gone ∙ whole) (tt {0})

pub same_fronts : (n : ℕ) (a b c d : List ℕ) → length a ≡ n → length c ≡ n → a ++ b ≡ c ++ d → a ≡ c
same_fronts n a b c d long long' e =
    sym (take-append_seam a b) ∙ ap (λ (k : ℕ). take k (a ++ b)) (long ∙ sym long') ∙ ap (take (length c)) e ∙ take-append_seam c d

pub same_rests : (a b c d : List ℕ) → a ≡ c → a ++ b ≡ c ++ d → b ≡ d
same_rests a b c d same e = append_cancel_left a b d (e ∙ ap (λ (l : List ℕ). l ++ d) (sym same))

lms_with : ℕ → LmsType
lms_with (suc (suc (suc (suc (suc zero))))) = H5
lms_with (suc (suc (suc (suc (suc (suc zero)))))) = H10
lms_with _ = H15

lms-back : (lms : LmsType) → lms_with (type_word lms) ≡ lms
unfolding lms_with
lms-back H5 = refl
lms-back H10 = refl
lms-back H15 = refl

ots_with : ℕ → OtsType
ots_with (suc zero) = W1
ots_with (suc (suc zero)) = W2
ots_with (suc (suc (suc zero))) = W4
ots_with _ = W8

ots-back : (ots : OtsType) → ots_with (ots_kind.type_word ots) ≡ ots
unfolding ots_with
ots-back W1 = refl
ots-back W2 = refl
ots-back W4 = refl
ots-back W8 = refl

small_lms : (lms : LmsType) → type_word lms < 2 ^ 32
small_lms H5 = omega arith
small_lms H10 = omega arith
small_lms H15 = omega arith

small_ots : (ots : OtsType) → ots_kind.type_word ots < 2 ^ 32
small_ots W1 = omega arith
small_ots W2 = omega arith
small_ots W4 = omega arith
small_ots W8 = omega arith

same_words : (m n : ℕ) → m < 2 ^ 32 → n < 2 ^ 32 → to_be_bytes w32 m ≡ to_be_bytes w32 n → m ≡ n
same_words m n small small' e = sym (from_be_bytes-to_be_bytes_4 m small) ∙ ap (from_be_bytes w32) e ∙ from_be_bytes-to_be_bytes_4 n small'

key_same : (a b : SecretData) → a.lms ≡ b.lms → a.ots ≡ b.ots → a.ident ≡ b.ident → a.start ≡ b.start → a ≡ b
key_same a b lms ots ident start =
    ap (λ (x : LmsType). let s : SecretData = record { lms = x; ots = a.ots; ident = a.ident; start = a.start } in s) lms
    ∙ ap (λ (x : OtsType). let s : SecretData = record { lms = b.lms; ots = x; ident = a.ident; start = a.start } in s) ots
    ∙ ap (λ (x : List ℕ). let s : SecretData = record { lms = b.lms; ots = b.ots; ident = x; start = a.start } in s) ident
    ∙ ap (λ (x : List ℕ). let s : SecretData = record { lms = b.lms; ots = b.ots; ident = b.ident; start = x } in s) start

-- a part Key holds one key
pub same_held : (part : List ℕ) (a b : SecretData) → Holds part a → Holds part b → a ≡ b
same_held part a b h k =
    let whole : payload_of a ≡ payload_of b = sym h.is_payload.spelled ∙ same_payload part h.payload k.payload h.whole k.whole ∙ k.is_payload.spelled in
    let la = to_be_bytes w32 (type_word a.lms) in
    let lb = to_be_bytes w32 (type_word b.lms) in
    let oa = to_be_bytes w32 (ots_kind.type_word a.ots) in
    let ob = to_be_bytes w32 (ots_kind.type_word b.ots) in
    let starts : length (la ++ oa ++ a.ident) ≡ 24 = length-three la oa a.ident refl refl h.is_payload.ident in
    let starts' : length (lb ++ ob ++ b.ident) ≡ 24 = length-three lb ob b.ident refl refl k.is_payload.ident in
    let three : la ++ oa ++ a.ident ≡ lb ++ ob ++ b.ident = same_fronts 24 (la ++ oa ++ a.ident) a.start (lb ++ ob ++ b.ident) b.start starts starts' whole in
    let two : la ++ oa ≡ lb ++ ob = same_fronts 8 (la ++ oa) a.ident (lb ++ ob) b.ident refl refl three in
    let one : la ≡ lb = same_fronts 4 la oa lb ob refl refl two in
    let second : oa ≡ ob = same_rests la oa lb ob one two in
    key_same a b
    (sym (lms-back a.lms) ∙ ap lms_with (same_words (type_word a.lms) (type_word b.lms) (small_lms a.lms) (small_lms b.lms) one) ∙ lms-back b.lms)
    (sym (ots-back a.ots) ∙ ap ots_with (same_words (ots_kind.type_word a.ots) (ots_kind.type_word b.ots) (small_ots a.ots) (small_ots b.ots) second) ∙ ots-back b.ots)
    (same_rests (la ++ oa) a.ident (lb ++ ob) b.ident two three)
    (same_rests (la ++ oa ++ a.ident) a.start (lb ++ ob ++ b.ident) b.start three whole)
  where
    length-three : (x y z : List ℕ) → length x ≡ 4 → length y ≡ 4 → length z ≡ 16 → length (x ++ y ++ z) ≡ 24
    length-three x y z e f h = grind (arith, Rattle.std.proofs.lemmas.Grind.common_steps)

-- Two parts read as one key.
pub same_key : (key used : Option (List ℕ)) (secret other : SecretData) → ReadsAsKey key used secret → ReadsAsKey key used other → secret ≡ other
same_key None used secret other a b = absurd a
same_key (Some key) None secret other a b = absurd a
same_key (Some key) (Some used) secret other a b = same_held key secret other a.holds b.holds

pub no_key-not-bad : (key used : Option (List ℕ)) → IsNoKey key → IsBadKey key used → ⊥
no_key-not-bad None used without bad = bad
no_key-not-bad (Some key) None without bad = bad without
no_key-not-bad (Some key) (Some used) without bad = bad.there without

pub no_key-not-read : (key used : Option (List ℕ)) (secret : SecretData) → IsNoKey key → ReadsAsKey key used secret → ⊥
no_key-not-read None used secret without is = is
no_key-not-read (Some key) None secret without is = is
no_key-not-read (Some key) (Some used) secret without is = whole-not-absent key is.holds.payload is.holds.whole without

pub bad_key-not-read : (key used : Option (List ℕ)) (secret : SecretData) → IsBadKey key used → ReadsAsKey key used secret → ⊥
bad_key-not-read None used secret bad is = bad
bad_key-not-read (Some key) None secret bad is = is
bad_key-not-read (Some key) (Some used) secret bad is = bad.no_key secret is
