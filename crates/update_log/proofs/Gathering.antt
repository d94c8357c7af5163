-- Records that are written in large pieces, behind what stands on a disk.
use Rattle.std.proofs.Common.{◌≡◌, ℕ, ◌+◌, ◌*◌, ◌<◌, ◌≤◌, ◌^◌, List, [], ◌∷◌, ◌++◌, length, take, drop, map, refl, sym, ap, subst, ◌∙◌, append_assoc, append-nil, length-append, zero-add, All, Result, arith, IsTrue}
use Rattle.std.specs.Prelude.{sum_by, nat_le, ◌&&◌, true}
use Rattle.std.specs.Int.{w32, to_be_bytes}
use Rattle.std.proofs.lemmas.List.{take-append-drop, take_all, drop_all, length-take-le}
use Rattle.std.proofs.lemmas.List.Concat.{flat_map-append}
use Rattle.std.proofs.lemmas.List.Elements.{All-tail}
use Rattle.std.proofs.lemmas.List.Sums.{sum_by-append}
use Rattle.std.proofs.lemmas.List.Edits.{take-paste, length-paste}
use Rattle.std.proofs.lemmas.Slice.{put_mid-paste}
use Rattle.std.proofs.lemmas.Bool.Decides.{nat_tests}
use Rattle.std.proofs.Math.Seq.{paste}
use borrow.Rule.Slice.PartMut.{put_mid}
use Rattle.bec_bytes.specs.Framed.{framed, stream_of}
use Rattle.bec_bytes.proofs.Frames.{length-framed, stream_of-cons, stream_of-nil, stream_of-push}
use Rattle.bec_disk.specs.Disk.{DiskState, LeavesOnly, Writes, overwritten}
use Rattle.bec_disk.specs.Front.{Keeps, WritesBehind}
use Rattle.bec_disk.proofs.Fronts.{behind-kept, behind-write, Keeps-settled}
use Rattle.bec_disk.proofs.Moments.{weakened, told}
use Rattle.update_model.specs.declared.limits.TheConstants.{MAX_BYTES, MAX_MEMBERS}
use Rattle.update_model.specs.Entry.{Entry}
use Rattle.update_model.specs.Graph.{byte_count}
use Rattle.update_model.specs.Rule.{RuleData}
use Rattle.update_codec.specs.Parts.{entry_of}
use Rattle.update_codec.specs.declared.limits.TheConstants.{UPDATE_LIMIT}
use Rattle.update_check.specs.Members.{AreMembers}
use Rattle.update_check.specs.Signed.{IsChecked}
use Rattle.update_log.specs.declared.piece_reader.TheConstants.{PIECE}
use Rattle.update_log.specs.Log.{IsClean}
use Rattle.update_log.specs.Logset.{BeginsWith}

-- ---- how long records are

pub stream_of-append : (xs ys : List (List ℕ)) → stream_of (xs ++ ys) ≡ stream_of xs ++ stream_of ys
unfolding stream_of
stream_of-append xs ys = flat_map-append framed xs ys

pub length-stream_of-append : (xs ys : List (List ℕ)) → length (stream_of (xs ++ ys)) ≡ length (stream_of xs) + length (stream_of ys)
length-stream_of-append xs ys = ap length (stream_of-append xs ys) ∙ length-append (stream_of xs) (stream_of ys)

-- the records up to a place are no longer than all
pub stream_of-take : (xs : List (List ℕ)) (i : ℕ) → length (stream_of (take i xs)) ≤ length (stream_of xs)
stream_of-take xs i = omega (arith, ap (λ (l : List (List ℕ)). length (stream_of l)) (take-append-drop i xs), length-stream_of-append (take i xs) (drop i xs))

pub length-stream_of : (members : List (List ℕ)) → length (stream_of members) ≡ 4 * length (map entry_of members) + byte_count (map entry_of members)
length-stream_of [] = ap length stream_of-nil
length-stream_of (m ∷ ms) =
    let rest = length-stream_of ms in
    let one : sum_by (λ (e : Entry). length e.bytes) (entry_of m ∷ []) ≡ length m = zero-add (length m) in
    let bytes : byte_count (map entry_of (m ∷ ms)) ≡ length m + byte_count (map entry_of ms) = sum_by-append (λ (e : Entry). length e.bytes) (entry_of m ∷ []) (map entry_of ms) ∙ ap (λ (n : ℕ). n + byte_count (map entry_of ms)) one in
    ap length (stream_of-cons m ms) ∙ length-append (framed m) (stream_of ms) ∙ omega (arith, length-framed m, rest, bytes)

within_limits : (members bytes : ℕ) → (nat_le members MAX_MEMBERS && nat_le bytes MAX_BYTES) ≡ true → 4 * members + bytes < 2 ^ 63
within_limits members bytes within = grind (arith, nat_tests)

-- the records of members within the limits, and a batch behind others
pub batch_fits : (rule : RuleData) (members batch : List (List ℕ)) (end : ℕ) → AreMembers rule (members ++ batch) → end ≡ length (stream_of members) → end + length (stream_of batch) < 2 ^ 64
batch_fits rule members batch end are is =
    let low = within_limits (length (map entry_of (members ++ batch))) (byte_count (map entry_of (members ++ batch))) are.within in
    omega (arith, is, length-stream_of-append members batch, length-stream_of (members ++ batch), low)

All-behind : {X : Type 0} (P : X → Type 0) (xs ys : List X) → All P (xs ++ ys) → All P ys
All-behind P [] ys all = all
All-behind P (x ∷ xs) ys all = All-behind P xs ys (All-tail P x (xs ++ ys) all)

pub batch_short : (rule : RuleData) (members batch : List (List ℕ)) → AreMembers rule (members ++ batch) → All (λ r. length r ≤ UPDATE_LIMIT) batch
batch_short rule members batch are = λ k d low. (All-behind (IsChecked rule) members batch are.checked k d low).1.spells.short

-- ---- a record that is put into a piece

pub put_two : (piece prefix bytes : List ℕ) (filled k m n : ℕ) → length prefix ≡ 4 → length bytes ≡ n → k ≡ 4 → m ≡ n → filled + 4 + n ≤ length piece
    → take (filled + 4 + n) (put_mid (filled + 4) m (put_mid filled k piece prefix) bytes) ≡ take filled piece ++ (prefix ++ bytes)
put_two piece prefix bytes filled k m n four size is_k is_m room =
    let first : put_mid filled k piece prefix ≡ paste piece filled prefix 4 = put_mid-paste filled k piece prefix prefix 4 refl (sym is_k) (sym four) in
    let inner = put_mid filled k piece prefix in
    let long : length inner ≡ length piece = ap length first ∙ length-paste piece filled prefix 4 (omega arith) (omega (arith, four)) in
    let second : put_mid (filled + 4) m inner bytes ≡ paste inner (filled + 4) bytes n = put_mid-paste (filled + 4) m inner bytes bytes n refl (sym is_m) (sym size) in
    ap (take (filled + 4 + n)) second ∙ take-paste inner (filled + 4) bytes n (omega arith) (omega (arith, size))
    ∙ ap (λ (l : List ℕ). l ++ take n bytes) (ap (take (filled + 4)) first ∙ take-paste piece filled prefix 4 (omega arith) (omega (arith, four)))
    ∙ ap (λ (l : List ℕ). (take filled piece ++ l) ++ take n bytes) (take_all 4 prefix (omega (arith, four))) ∙ ap (λ (l : List ℕ). (take filled piece ++ prefix) ++ l) (take_all n bytes (omega (arith, size)))
    ∙ append_assoc (take filled piece) prefix bytes

pub prefix_and_bytes : (prefix bytes : List ℕ) → prefix ≡ to_be_bytes w32 (length bytes) → prefix ++ bytes ≡ framed bytes
unfolding framed
prefix_and_bytes prefix bytes is = ap (λ (l : List ℕ). l ++ bytes) is

-- ---- records that were written behind the old end, and gathered behind those

pub record IsGathered (old : DiskState) (start : ℕ) (records : List (List ℕ)) (piece : List ℕ) (disk : DiskState) (at filled : ℕ) : Type 0 where
  pub behind : WritesBehind start old.seen old disk
  pub room : length piece ≡ PIECE
  pub within : filled ≤ PIECE
  pub place : start ≤ at
  pub end : at + filled ≡ start + length (stream_of records)
  pub size : IsTrue old.tells → length disk.seen ≡ at
  pub written : IsTrue old.tells → disk.seen ++ take filled piece ≡ old.seen ++ stream_of records

pub gathers_none : (old : DiskState) (start : ℕ) (piece : List ℕ) → length piece ≡ PIECE → (IsTrue old.tells → IsClean start old) → IsGathered old start [] piece old start 0
gathers_none old start piece room clean = record {
  behind = behind-kept start old.seen old (λ tells. kept (clean tells));
  room = room;
  within = omega arith;
  place = omega arith;
  end = omega (arith, ap length stream_of-nil);
  size = λ tells. (clean tells).1;
  written = λ tells. ap (λ (l : List ℕ). old.seen ++ l) (sym stream_of-nil);
}
  where
    kept : IsClean start old → Keeps start old.seen old.now
    kept is =
        let size = is.1 in
        subst (λ (l : List ℕ). Keeps start l old.now) (take_all start old.seen (omega (arith, size))) (Keeps-settled start old is.0 (omega (arith, size)))

overwritten_end : (seen bytes : List ℕ) (at : ℕ) → length seen ≡ at → overwritten seen at bytes ≡ seen ++ bytes
overwritten_end seen bytes at size =
    ap (λ (l : List ℕ). l ++ bytes ++ drop (at + length bytes) seen) (take_all at seen (omega (arith, size)))
    ∙ ap (λ (l : List ℕ). seen ++ bytes ++ l) (drop_all (at + length bytes) seen (omega (arith, size))) ∙ append-nil (seen ++ bytes)

-- what is gathered is written
pub flushes : {T E : Type 0} (old : DiskState) (start : ℕ) (records : List (List ℕ)) (piece : List ℕ) (disk new : DiskState) (at filled : ℕ) (result : Result T E) → IsGathered old start records piece disk at filled
    → Writes disk at (take filled piece) result new → (IsTrue disk.tells → new.seen ≡ overwritten disk.seen at (take filled piece)) → IsGathered old start records piece new (at + filled) 0
flushes old start records piece disk new at filled result so_far writes seen = record {
  behind = behind-write start old.seen old disk new at (take filled piece) result so_far.behind so_far.place writes;
  room = so_far.room;
  within = omega arith;
  place = omega (arith, so_far.place);
  end = omega (arith, so_far.end);
  size = λ tells. ap length (all tells) ∙ length-append disk.seen (take filled piece) ∙ omega (arith, so_far.size tells, length-take-le filled piece (omega (arith, so_far.room, so_far.within)));
  written = λ tells. append-nil new.seen ∙ all tells ∙ so_far.written tells;
}
  where
    all : IsTrue old.tells → new.seen ≡ disk.seen ++ take filled piece
    all tells = seen (told old disk so_far.behind.run.disk tells) ∙ overwritten_end disk.seen (take filled piece) at (so_far.size tells)

-- one record more is gathered
pub gathers_more : (old : DiskState) (start : ℕ) (records more : List (List ℕ)) (r piece next : List ℕ) (disk : DiskState) (at filled end : ℕ) → IsGathered old start records piece disk at filled
    → more ≡ records ++ r ∷ [] → length next ≡ PIECE → end ≡ filled + (4 + length r) → end ≤ PIECE → take end next ≡ take filled piece ++ framed r → IsGathered old start more next disk at end
gathers_more old start records more r piece next disk at filled end so_far is_more room is_end within put =
    let stream : stream_of more ≡ stream_of records ++ framed r = ap stream_of is_more ∙ stream_of-push records r in
    record {
      behind = so_far.behind;
      room = room;
      within = within;
      place = so_far.place;
      end = omega (arith, is_end, so_far.end, ap length stream, length-append (stream_of records) (framed r), length-framed r);
      size = so_far.size;
      written = λ tells. ap (λ (l : List ℕ). disk.seen ++ l) put ∙ sym (append_assoc disk.seen (take filled piece) (framed r)) ∙ ap (λ (l : List ℕ). l ++ framed r) (so_far.written tells)
          ∙ append_assoc old.seen (stream_of records) (framed r) ∙ ap (λ (l : List ℕ). old.seen ++ l) (sym stream);
    }

-- a crash leaves what stood there before in front
pub leaves_front : (n : ℕ) (front : List ℕ) (old new : DiskState) → WritesBehind n front old new → LeavesOnly old new (BeginsWith front)
leaves_front n front old new behind =
    weakened old new (λ c. take n c ≡ front) (BeginsWith front) behind.run (λ tells c is. (drop n c, sym (take-append-drop n c) ∙ ap (λ (l : List ℕ). l ++ drop n c) is))

pub leaves_written : {T E : Type 0} (old : DiskState) (start : ℕ) (records : List (List ℕ)) (piece : List ℕ) (disk new : DiskState) (at filled : ℕ) (result : Result T E) → IsGathered old start records piece disk at filled
    → Writes disk at (take filled piece) result new → LeavesOnly old new (BeginsWith old.seen)
leaves_written old start records piece disk new at filled result so_far writes =
    leaves_front start old.seen old new (behind-write start old.seen old disk new at (take filled piece) result so_far.behind so_far.place writes)
