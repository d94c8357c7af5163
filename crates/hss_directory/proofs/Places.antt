-- Directories of lower keys are apart from one another and from that of the top key, so that what is done to one leaves the others alone.
use Rattle.std.proofs.Common.{◌≡◌, ◌≢◌, ◌⊎◌, inl, inr, ℕ, ◌+◌, ◌<◌, ◌^◌, Bool, true, false, List, [], ◌∷◌, ◌++◌, length, refl, sym, ◌∙◌, ap, subst, arith, IsTrue, length-append}
use Rattle.std.specs.Prelude.{◌||◌, codes}
use Rattle.std.specs.Fmt.{decimal}
use Rattle.std.specs.Str.{bytes_eq}
use Rattle.std.proofs.lemmas.Bool.{true≢false}
use Rattle.std.proofs.lemmas.Slice.Eq.{bytes_eq-Decides}
use Rattle.bec_disk.specs.declared.part.Part.{Part}
use Rattle.bec_disk.specs.declared.part.Part.TheVariants.{Key, Used, Peers}
use Rattle.bec_disk.specs.Shelf.{PartState, ShelfState, out}
use Rattle.bec_disk.specs.Slot.{Slot, same_slot, slot}
use Rattle.key_index.specs.KeyState.{KeyState}
use Rattle.key_directory.specs.Parts.{KeepsAllBut, part_in}
use Rattle.key_directory.proofs.Places.{neither_of, same_place}
use Rattle.hss_directory.specs.Places.{AreIn, AreLowersIn, AreOthersIn, HoldsKey, IsOff, KeepsElse}
use Rattle.hss_directory.specs.Values.{low_dir}

pub low-ne : (dir : List ℕ) (n : ℕ) → dir ≢ low_dir dir n
unfolding low_dir
low-ne dir n e =
    let whole = length-append dir (codes "." ++ decimal n) in
    let behind = length-append (codes ".") (decimal n) in
    let dot : length (codes ".") ≡ 1 = refl in
    let same : length dir ≡ length (dir ++ (codes "." ++ decimal n)) = ap length e in
    absurd (omega (arith, whole, behind, dot, same))

pub one_false : (x : Bool) → x ≡ false → x || false ≡ false
one_false true e = absurd (true≢false e)
one_false false e = refl

pub false_of : (x : Bool) → x || false ≡ false → x ≡ false
false_of true e = absurd (true≢false e)
false_of false e = refl

-- what is done to the key of a directory leaves the part Peers alone, and the other way round
pub key_not_peers : (before after : ShelfState) (dir : List ℕ) → KeepsAllBut (Key ∷ Used ∷ []) dir before after → part_in after dir Peers ≡ part_in before dir Peers
key_not_peers before after dir keeps = keeps (slot dir Peers) refl

pub peers_not_key : (before after : ShelfState) (dir : List ℕ) → KeepsAllBut (Peers ∷ []) dir before after → (part_in after dir Key ≡ part_in before dir Key) × (part_in after dir Used ≡ part_in before dir Used)
peers_not_key before after dir keeps = (keeps (slot dir Key) refl, keeps (slot dir Used) refl)

pub in_by : (old new : PartState) → new ≡ old → old ≢ out → new ≢ out
in_by old new same not_out is = not_out (sym same ∙ is)

pub are_in_by : (before after : ShelfState) (dir : List ℕ) → part_in after dir Key ≡ part_in before dir Key → part_in after dir Used ≡ part_in before dir Used → part_in after dir Peers ≡ part_in before dir Peers
    → AreIn before dir → AreIn after dir
are_in_by before after dir key used peers are = record {
  key_in = in_by (part_in before dir Key) (part_in after dir Key) key are.key_in;
  used_in = in_by (part_in before dir Used) (part_in after dir Used) used are.used_in;
  peers_in = in_by (part_in before dir Peers) (part_in after dir Peers) peers are.peers_in;
}

-- Every part but those of a lower key in this directory is as it was.
abbrev pub ElseSame : List ℕ → ShelfState → ShelfState → Type 0
ElseSame low before after = (place : Slot) → IsOff low place → after.parts place ≡ before.parts place

-- a place that is not this one
pub off_place : (a b : Slot) → b ≢ a → same_slot a b ≡ false
off_place a b ne = by (same_slot a b) refl
  where
    by : (x : Bool) → same_slot a b ≡ x → same_slot a b ≡ false
    by false e = e
    by true e = absurd (ne (sym (same_place a b e)))

pub else_key : (low : List ℕ) (before after : ShelfState) → KeepsAllBut (Key ∷ Used ∷ []) low before after → ElseSame low before after
else_key low before after keeps place off = keeps place (neither_of (same_slot (slot low Key) place) (same_slot (slot low Used) place) (off_place (slot low Key) place off.key) (off_place (slot low Used) place off.used))

pub else_peers : (low : List ℕ) (before after : ShelfState) → KeepsAllBut (Peers ∷ []) low before after → ElseSame low before after
else_peers low before after keeps place off = keeps place (one_false (same_slot (slot low Peers) place) (off_place (slot low Peers) place off.peers))

pub else_through : (low : List ℕ) (before mid after : ShelfState) → ElseSame low before mid → ElseSame low mid after → ElseSame low before after
else_through low before mid after a b place off = b place off ∙ a place off

off_dir : (low dir : List ℕ) (part other : Part) → low ≢ dir → slot dir part ≢ slot low other
off_dir low dir part other ne same = ne (sym (ap (λ (s : Slot). s.dir) same))

-- the parts of another directory
pub else_at : (low dir : List ℕ) (before after : ShelfState) (part : Part) → ElseSame low before after → low ≢ dir → part_in after dir part ≡ part_in before dir part
else_at low dir before after part same ne = same (slot dir part) (record { key = off_dir low dir part Key ne; used = off_dir low dir part Used ne; peers = off_dir low dir part Peers ne })

pub in_else : (low dir : List ℕ) (before after : ShelfState) → ElseSame low before after → low ≢ dir → AreIn before dir → AreIn after dir
in_else low dir before after same ne are =
    are_in_by before after dir (else_at low dir before after Key same ne) (else_at low dir before after Used same ne) (else_at low dir before after Peers same ne) are

-- what is held of a directory, through what is done elsewhere
pub holds_by : (before after : ShelfState) (dir : List ℕ) (key : KeyState) → part_in after dir Key ≡ part_in before dir Key → part_in after dir Used ≡ part_in before dir Used → HoldsKey before dir key → HoldsKey after dir key
holds_by before after dir key same_key same_used holds = record {
  key_slot = holds.key_slot;
  key_out = same_key ∙ holds.key_out;
  used_slot = holds.used_slot;
  used_out = same_used ∙ holds.used_out;
}

pub holds_else : (low dir : List ℕ) (before after : ShelfState) (key : KeyState) → ElseSame low before after → low ≢ dir → HoldsKey before dir key → HoldsKey after dir key
holds_else low dir before after key same ne holds = holds_by before after dir key (else_at low dir before after Key same ne) (else_at low dir before after Used same ne) holds

-- a directory is this one or another
pub this_or : (low dir : List ℕ) → (low ≡ dir) ⊎ (low ≢ dir)
this_or low dir = by (bytes_eq low dir) refl
  where
    by : (x : Bool) → bytes_eq low dir ≡ x → (low ≡ dir) ⊎ (low ≢ dir)
    by true e = inl ((bytes_eq-Decides low dir).0 e)
    by false e = inr (λ same. true≢false (sym ((bytes_eq-Decides low dir).1 same) ∙ e))

-- where a directory's parts are in their places, and nothing is done elsewhere
pub lowers_in : (low dir : List ℕ) (before after : ShelfState) → AreIn after low → ElseSame low before after → AreOthersIn before dir low → AreLowersIn after dir
lowers_in low dir before after are same lowers n = by (this_or low (low_dir dir n))
  where
    by : (low ≡ low_dir dir n) ⊎ (low ≢ low_dir dir n) → AreIn after (low_dir dir n)
    by (inl is) = subst (λ (d : List ℕ). AreIn after d) is are
    by (inr ne) = in_else low (low_dir dir n) before after same ne (lowers n (λ is. ne (sym is)))

pub others_in : (low dir : List ℕ) (before after : ShelfState) → ElseSame low before after → AreLowersIn before dir → AreOthersIn after dir low
others_in low dir before after same lowers n ne = in_else low (low_dir dir n) before after same (λ is. ne (sym is)) (lowers n)

pub but_one : (low dir : List ℕ) (shelf : ShelfState) → AreLowersIn shelf dir → AreOthersIn shelf dir low
but_one low dir shelf lowers n ne = lowers n

-- ---- elsewhere

pub keeps_lower : (dir low : List ℕ) (n : ℕ) (before after : ShelfState) → low ≡ low_dir dir n → ElseSame low before after → KeepsElse dir before after
keeps_lower dir low n before after is same place off = same place (subst (λ (d : List ℕ). IsOff d place) (sym is) (off.lowers n))

pub keeps_top : (dir : List ℕ) (before after : ShelfState) → KeepsAllBut (Key ∷ Used ∷ []) dir before after → KeepsElse dir before after
keeps_top dir before after keeps place off = keeps place (neither_of (same_slot (slot dir Key) place) (same_slot (slot dir Used) place) (off_place (slot dir Key) place off.key) (off_place (slot dir Used) place off.used))

pub keeps_same : (dir : List ℕ) (before after : ShelfState) → after ≡ before → KeepsElse dir before after
keeps_same dir before after same place off = ap (λ (s : ShelfState). s.parts place) same

pub keeps_both : (dir : List ℕ) (before mid after : ShelfState) → KeepsElse dir before mid → KeepsElse dir mid after → KeepsElse dir before after
keeps_both dir before mid after a b place off = b place off ∙ a place off
