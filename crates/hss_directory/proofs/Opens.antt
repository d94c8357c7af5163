-- What an opening finds, holds and leaves.
use Rattle.std.proofs.Common.{◌≡◌, ◌≢◌, ◌⊎◌, inl, inr, ℕ, ◌<◌, Bool, true, false, List, [], ◌∷◌, ◌++◌, length, map, refl, sym, ◌∙◌, ap, subst, arith, IsTrue, Some, None, Option, get_or}
use Rattle.std.specs.Prelude.{IfSome, MatchOption, not, ◌==◌, slice_index}
use Rattle.std.proofs.lemmas.Bool.{true≢false}
use Rattle.std.proofs.lemmas.List.{get_or-map, length-map}
use Rattle.bec_disk.specs.declared.gated.Gated.{Gated}
use Rattle.bec_disk.specs.declared.gated.Gated.TheVariants.{Absent, Damaged, Whole}
use Rattle.bec_disk.specs.declared.part.Part.TheVariants.{Key, Used, Peers}
use Rattle.bec_disk.specs.Disk.{DiskState, EveryImage, IsSettled, handed_out}
use Rattle.bec_disk.specs.Shelf.{PartState, ShelfState, out}
use Rattle.bec_disk.specs.Slot.{Slot, same_slot, slot}
use Rattle.bec_disk.proofs.Images.{settled_image}
use Rattle.lms_tree.specs.SecretKey.{SecretData, public_key}
use Rattle.key_index.specs.KeyState.{IsLast, KeyState}
use Rattle.key_index.specs.Used.{IsGreatest, IsGreatestUsed, IsUsed, used_in}
use Rattle.key_directory.specs.Keys.{TakesKey}
use Rattle.key_directory.specs.Parts.{IsUntouched, part_in, reading}
use Rattle.key_directory.proofs.Handing.{untouched_by}
use Rattle.key_directory.proofs.Places.{same_place}
use Rattle.key_directory.proofs.Putting.{told}
use Rattle.hss_directory.specs.Opening.{FindsLower, none_used, recorded, unrecorded}
use Rattle.hss_directory.specs.Peers.{ReadsPeers}
use Rattle.hss_directory.specs.Places.{AreIn, AreLowersIn, HoldsKey, HoldsLower, KeepsElse, OnlyReads}
use Rattle.hss_directory.specs.Values.{IsCurrent, LowerState, low_dir}
use Rattle.hss_directory.proofs.Keys.{holds_taken, untouched_in, untouched_out}
use Rattle.hss_directory.proofs.Places.{ElseSame, but_one, else_key, else_peers, else_through, holds_else, in_by, in_else, keeps_lower, keeps_same, key_not_peers, low-ne, lowers_in, one_false, others_in, peers_not_key}

-- ---- the part Peers was read

pub peers_only : (before after : ShelfState) (dir : List ℕ) → ReadsPeers before dir after → OnlyReads before after
peers_only before after dir reads = record {
  tells = reads.tells;
  parts = λ tells place. by tells place (same_slot (slot dir Peers) place) refl;
}
  where
    by : IsTrue before.tells → (place : Slot) (x : Bool) → same_slot (slot dir Peers) place ≡ x → IsUntouched (before.parts place) (after.parts place)
    by tells place true e = subst (λ (p : Slot). IsUntouched (before.parts p) (after.parts p)) (same_place (slot dir Peers) place e) (reads.part tells)
    by tells place false e = untouched_by (before.parts place) (after.parts place) (reads.others tells place (one_false (same_slot (slot dir Peers) place) e))

pub peers_in_place : (before after : ShelfState) (dir : List ℕ) → IsTrue before.tells → AreIn before dir → ReadsPeers before dir after → AreIn after dir
peers_in_place before after dir tells are reads =
    let others = peers_not_key before after dir (reads.others tells) in
    record {
      key_in = in_by (part_in before dir Key) (part_in after dir Key) others.0 are.key_in;
      used_in = in_by (part_in before dir Used) (part_in after dir Used) others.1 are.used_in;
      peers_in = untouched_in (part_in before dir Peers) (part_in after dir Peers) (reads.part tells) are.peers_in;
    }

-- ---- what is held

pub finds_tells : (dir : List ℕ) (top : KeyState) (before after : ShelfState) (lower : Option LowerState) → FindsLower dir top before lower after → after.tells ≡ before.tells
finds_tells dir top before after lower (none_used last is same) = ap (λ (s : ShelfState). s.tells) same
finds_tells dir top before after lower (unrecorded index last absent reads is) = reads.tells
finds_tells dir top before after lower (recorded found mid payload last place whole reads takes vouches is) = takes.tells ∙ reads.tells

pub finds_holds : (dir : List ℕ) (top : KeyState) (before after : ShelfState) (lower : Option LowerState) → FindsLower dir top before lower after → IsTrue before.tells → HoldsKey before dir top → AreLowersIn before dir
    → HoldsKey after dir top × HoldsLower after dir lower × KeepsElse dir before after
finds_holds dir top before after lower (none_used last is same) tells holds lowers = (
  subst (λ (s : ShelfState). HoldsKey s dir top) (sym same) holds,
  subst (λ (l : Option LowerState). HoldsLower after dir l) (sym is) (subst (λ (s : ShelfState). AreLowersIn s dir) (sym same) lowers),
  keeps_same dir before after same,
)
finds_holds dir top before after lower (unrecorded index last absent reads is) tells holds lowers =
    let low = low_dir dir index in
    let same = else_peers low before after (reads.others tells) in (
      holds_else low dir before after top same (λ e. low-ne dir index (sym e)) holds,
      subst (λ (l : Option LowerState). HoldsLower after dir l) (sym is)
          (lowers_in low dir before after (peers_in_place before after low tells (lowers index) reads) same (but_one low dir before lowers)),
      keeps_lower dir low index before after refl same,
    )
finds_holds dir top before after lower (recorded found mid payload last place whole reads takes vouches is) tells holds lowers =
    let mid_told = told before.tells mid.tells reads.tells tells in
    let same = else_through found.dir before mid after (else_peers found.dir before mid (reads.others tells)) (else_key found.dir mid after takes.others) in
    let ne : found.dir ≢ dir = λ e. low-ne dir found.index (sym e ∙ place) in
    let are : AreIn before found.dir = subst (λ (d : List ℕ). AreIn before d) (sym place) (lowers found.index) in (
      holds_else found.dir dir before after top same ne holds,
      subst (λ (l : Option LowerState). HoldsLower after dir l) (sym is) (
        holds_taken mid after found.dir found.key takes mid_told,
        in_by (part_in mid found.dir Peers) (part_in after found.dir Peers) (key_not_peers mid after found.dir takes.others) (peers_in_place before mid found.dir tells are reads).peers_in,
        others_in found.dir dir before after same lowers,
      ),
      keeps_lower dir found.dir found.index before after place same,
    )

-- ---- what is known

used_bit : (bytes : List ℕ) (index : ℕ) → index < length bytes → get_or (used_in bytes) index false ≡ true → get_or bytes index 0 ≢ 0
used_bit bytes index lt e is = true≢false (sym e ∙ get_or-map (λ (b : ℕ). not (b == 0)) bytes index 0 false lt ∙ ap (λ (b : ℕ). not (b == 0)) is)

pub taken_used : (before after : ShelfState) (dir : List ℕ) (top : KeyState) (index : ℕ) → TakesKey before dir top after → IsLast top (Some index) → IsTrue top.parts.used.tells → EveryImage top.parts.used.now (IsUsed index)
taken_used before after dir top index takes last used_tells =
    let tells : IsTrue before.tells = told top.parts.used.tells before.tells (sym takes.used_tells) used_tells in
    let greatest : IsGreatestUsed top.taken index = subst (λ (t : Option ℕ). MatchOption t (IsGreatest top.taken (Some index)) (λ k. Some index ≡ Some k)) takes.tried last in
    let settled : IsSettled top.parts.used = subst (λ (d : DiskState). IsSettled d) (sym (takes.used_part tells).2) refl in
    let as_bytes : IsGreatestUsed (used_in top.parts.used.seen) index = subst (λ (t : List Bool). IsGreatestUsed t index) (takes.taken tells) greatest in
    settled_image top.parts.used (IsUsed index) settled (used_bit top.parts.used.seen index (omega (arith, as_bytes.within, length-map top.parts.used.seen (λ (b : ℕ). not (b == 0)))) as_bytes.used)

pub finds_sound : (dir : List ℕ) (top : KeyState) (first before after : ShelfState) (lower : Option LowerState) → TakesKey first dir top before → FindsLower dir top before lower after → IfSome lower (λ l. IsCurrent dir top l)
finds_sound dir top first before after lower takes (none_used last is same) = subst (λ (l : Option LowerState). IfSome l (λ l. IsCurrent dir top l)) (sym is) tt
finds_sound dir top first before after lower takes (unrecorded index last absent reads is) = subst (λ (l : Option LowerState). IfSome l (λ l. IsCurrent dir top l)) (sym is) tt
finds_sound dir top first before after lower takes (recorded found mid payload last place whole reads taken vouches is) =
    subst (λ (l : Option LowerState). IfSome l (λ l. IsCurrent dir top l)) (sym is)
    (record {
      place = place;
      signed = vouches.signed;
      leaf = vouches.leaf;
      last = last;
      used = taken_used first before dir top found.index takes last;
    })

-- what is held, through what at most read
pub only_holds : (before after : ShelfState) (dir : List ℕ) (key : KeyState) → OnlyReads before after → IsTrue before.tells → HoldsKey before dir key → HoldsKey after dir key
only_holds before after dir key only tells holds = record {
  key_slot = holds.key_slot;
  key_out = untouched_out (part_in before dir Key) (part_in after dir Key) (only.parts tells (slot dir Key)) holds.key_out;
  used_slot = holds.used_slot;
  used_out = untouched_out (part_in before dir Used) (part_in after dir Used) (only.parts tells (slot dir Used)) holds.used_out;
}

-- the lower keys' parts, once the top key is taken
pub lowers_beside : (before mid : ShelfState) (dir : List ℕ) → AreLowersIn before dir → ElseSame dir before mid → AreLowersIn mid dir
lowers_beside before mid dir lowers same n = in_else dir (low_dir dir n) before mid same (low-ne dir n) (lowers n)
