-- The part Key holds one key.
use Rattle.std.proofs.Common.{◌≡◌, ℕ, List, ◌++◌, length, take, drop, sym, ap, ap₂, ◌∙◌, refl}
use Rattle.std.specs.Int.{w32, to_be_bytes}
use Rattle.std.proofs.Math.Seq.{take-append_seam, drop-append_seam}
use Rattle.bec_disk.specs.declared.gated.Gated.{Gated}
use Rattle.bec_disk.specs.declared.gated.Gated.TheVariants.{Whole}
use Rattle.key_index.specs.Opening.{Holds}
use Rattle.key_index.specs.Payload.{payload_of}
use Rattle.lm_ots.specs.OtsKind as ots_kind
use Rattle.lm_ots.specs.declared.ots_type.OtsType.{OtsType}
use Rattle.lm_ots.specs.declared.ots_type.OtsType.TheVariants.{W1, W2, W4, W8}
use Rattle.lms_tree.specs.LmsKind.{type_word}
use Rattle.lms_tree.specs.SecretKey.{SecretData}
use Rattle.lms_tree.specs.declared.lms_type.LmsType.{LmsType}
use Rattle.lms_tree.specs.declared.lms_type.LmsType.TheVariants.{H5, H10, H15}

same_lms : (a b : LmsType) (xs ys : List ℕ) → to_be_bytes w32 (type_word a) ++ xs ≡ to_be_bytes w32 (type_word b) ++ ys → (a ≡ b) × (xs ≡ ys)
same_lms H5 H5 xs ys e = (refl, cc)
same_lms H5 H10 xs ys e = absurd cc
same_lms H5 H15 xs ys e = absurd cc
same_lms H10 H5 xs ys e = absurd cc
same_lms H10 H10 xs ys e = (refl, cc)
same_lms H10 H15 xs ys e = absurd cc
same_lms H15 H5 xs ys e = absurd cc
same_lms H15 H10 xs ys e = absurd cc
same_lms H15 H15 xs ys e = (refl, cc)

same_ots : (a b : OtsType) (xs ys : List ℕ) → to_be_bytes w32 (ots_kind.type_word a) ++ xs ≡ to_be_bytes w32 (ots_kind.type_word b) ++ ys → (a ≡ b) × (xs ≡ ys)
same_ots W1 W1 xs ys e = (refl, cc)
same_ots W1 W2 xs ys e = absurd cc
same_ots W1 W4 xs ys e = absurd cc
same_ots W1 W8 xs ys e = absurd cc
same_ots W2 W1 xs ys e = absurd cc
same_ots W2 W2 xs ys e = (refl, cc)
same_ots W2 W4 xs ys e = absurd cc
same_ots W2 W8 xs ys e = absurd cc
same_ots W4 W1 xs ys e = absurd cc
same_ots W4 W2 xs ys e = absurd cc
same_ots W4 W4 xs ys e = (refl, cc)
same_ots W4 W8 xs ys e = absurd cc
same_ots W8 W1 xs ys e = absurd cc
same_ots W8 W2 xs ys e = absurd cc
same_ots W8 W4 xs ys e = absurd cc
same_ots W8 W8 xs ys e = (refl, cc)

front : (xs ys us vs : List ℕ) → length xs ≡ 16 → length ys ≡ 16 → xs ++ us ≡ ys ++ vs → xs ≡ ys
front xs ys us vs a b e = sym (take-append_seam xs us) ∙ ap (λ k. take k (xs ++ us)) (a ∙ sym b) ∙ ap (take (length ys)) e ∙ take-append_seam ys vs

back : (xs ys us vs : List ℕ) → xs ≡ ys → xs ++ us ≡ ys ++ vs → us ≡ vs
back xs ys us vs same e = sym (drop-append_seam xs us) ∙ ap (λ k. drop k (xs ++ us)) (ap length same) ∙ ap (drop (length ys)) e ∙ drop-append_seam ys vs

whole_one : (a b : List ℕ) → ◌≡◌ {A = Gated} (Whole a) (Whole b) → a ≡ b
whole_one a b e = cc

made : LmsType → OtsType → List ℕ → List ℕ → SecretData
made lms ots ident start = record { lms = lms; ots = ots; ident = ident; start = start }

-- The bytes of a part Key hold one key at most.
pub one_secret : (bytes : List ℕ) (a b : SecretData) → Holds bytes a → Holds bytes b → a ≡ b
unfolding made
one_secret bytes a b h k =
    let same : payload_of a ≡ payload_of b = sym h.is_payload.spelled ∙ whole_one h.payload k.payload (sym h.whole ∙ k.whole) ∙ k.is_payload.spelled in
    let lms = same_lms a.lms b.lms (to_be_bytes w32 (ots_kind.type_word a.ots) ++ a.ident ++ a.start) (to_be_bytes w32 (ots_kind.type_word b.ots) ++ b.ident ++ b.start) same in
    let ots = same_ots a.ots b.ots (a.ident ++ a.start) (b.ident ++ b.start) lms.1 in
    let ident = front a.ident b.ident a.start b.start h.is_payload.ident k.is_payload.ident ots.1 in
    let start = back a.ident b.ident a.start b.start ident ots.1 in
    ap (λ (l : LmsType). made l a.ots a.ident a.start) lms.0 ∙ ap (λ (o : OtsType). made b.lms o a.ident a.start) ots.0 ∙ ap₂ (made b.lms b.ots) ident start
