-- What `hsskey` and `seal` come to.
use Rattle.std.specs.Prelude.{◌≡◌, ◌⊎◌, ◌++◌, ℕ, ◌≤◌, List, [], ◌∷◌, length, IfSome, IsTrue, Err}
use Rattle.std.specs.declared.option.Option.{Option}
use Rattle.hex.specs.Hex.{encode_lower}
use Rattle.rand_core.specs.Stream.{Stream}
use Rattle.update_model.specs.declared.author_key.AuthorKey.{AuthorKey}
use Rattle.bec_disk.specs.declared.part.Part.TheVariants.{Key, Used}
use Rattle.bec_disk.specs.Shelf.{ShelfState}
use Rattle.lm_ots.specs.declared.ots_type.OtsType.{OtsType}
use Rattle.lms_tree.specs.declared.lms_type.LmsType.{LmsType}
use Rattle.lms_tree.specs.LmsKind.{leaf_count}
use Rattle.lms_tree.specs.SecretKey.{SecretData, public_key}
use Rattle.key_index.specs.Creating.{after_draw, drawn_key}
use Rattle.key_index.specs.Payload.{payload_of}
use Rattle.key_index.specs.Used.{none_used}
use Rattle.key_directory.specs.Keys.{IsNoKey}
use Rattle.key_directory.specs.Parts.{LetsNewGo, part_in, reading}
use Rattle.schema_verdict.specs.Inputs.{IsWholeText}
use Rattle.schema_verdict.specs.Verdict.{OutcomeOf, Prints}
use Rattle.hss_chain.specs.Sealing.{SealedBy, public_bytes}
use Rattle.hss_directory.specs.Calls.{CreatesHss, IsOpeningCause, KeepsHss, OpensHss, PutsHss, RefusesToSign, Signs}
use Rattle.hss_directory.specs.Places.{OnlyReads}
use Rattle.hss_directory.specs.Values.{HssState, IsReadable, IsSound, IsSpent}
use Rattle.hss_directory.specs.declared.fault.HssFault.{HssFault}
use Rattle.hss_directory.specs.declared.fault.HssFault.TheVariants as faults
use Rattle.seal_commands.specs.Inputs.{IsInputFault, IsLongText}
use Rattle.seal_commands.specs.declared.reading.TheConstants.{INPUT_LIMIT}
use Rattle.seal_commands.specs.declared.refusal.SealRefusal.{SealRefusal}
use Rattle.seal_commands.specs.declared.refusal.SealRefusal.TheVariants.{BadKey, InputTooLong, KeySpent, KeyThere, Memory, NoKey, Store}

-- the refusal that a fault of a two-level key is, whose top key has n indices
abbrev pub refusal_of : HssFault → ℕ → SealRefusal
refusal_of faults.Disk n = Store
refusal_of faults.KeyThere n = KeyThere
refusal_of faults.NoKey n = NoKey
refusal_of faults.BadKey n = BadKey
refusal_of faults.Spent n = KeySpent n
refusal_of faults.Memory n = Memory

-- bytes in lower-case hexadecimal, on a line
abbrev pub hex_line : List ℕ → List ℕ
hex_line bytes = encode_lower bytes ++ 10 ∷ []

-- the line of a two-level public key
abbrev pub hss_key_text : SecretData → List ℕ
hss_key_text top = hex_line (public_bytes (public_key top))

-- Why a two-level key was not drawn: a key is there, as far as the shelf tells, or a disk failed, or memory ran out.
abbrev pub IsUndrawnCause : ShelfState → List ℕ → HssFault → Type 0
IsUndrawnCause shelf dir faults.KeyThere = IsTrue shelf.tells → IsNoKey (reading (part_in shelf dir Key)) → ⊥
IsUndrawnCause shelf dir faults.Disk = Unit {0}
IsUndrawnCause shelf dir faults.Memory = Unit {0}
IsUndrawnCause shelf dir faults.NoKey = ⊥
IsUndrawnCause shelf dir faults.BadKey = ⊥
IsUndrawnCause shelf dir faults.Spent = ⊥

-- All parts that a key holds were put back. The top key signed its lower key, and what is read of either part Used is what a crash might leave of it.
pub record ClosesHss (before : ShelfState) (hss : HssState) (after : ShelfState) : Type 0 where
  pub sound : IsSound hss
  pub reads : IsReadable hss.top × IfSome hss.lower (λ lower. IsReadable lower.key)
  pub puts : PutsHss before hss after

-- `hsskey`: the top key was not drawn, and every part is in its place; or it was, by the generator's next bytes, and put back, and its line is printed unless
-- memory ran out. No more of the generator is used than these bytes.
pub data HsskeyRun (lms : LmsType) (ots : OtsType) (random rest : Stream) (dir : List ℕ) (before after : ShelfState) (outcome : OutcomeOf SealRefusal) : Type 0 where
  undrawn : (why : HssFault) → IsUndrawnCause before dir why → outcome ≡ Err (refusal_of why (leaf_count lms)) → (rest ≡ random) ⊎ (rest ≡ after_draw random)
      → (after ≡ before) ⊎ LetsNewGo Key Used (payload_of (drawn_key lms ots random)) (none_used (leaf_count lms)) before dir after
      → HsskeyRun lms ots random rest dir before after outcome
  drawn : (hss : HssState) (mid : ShelfState) → CreatesHss (drawn_key lms ots random) before dir hss mid → ClosesHss mid hss after → rest ≡ after_draw random
      → Prints outcome (hss_key_text hss.top.secret) ⊎ (outcome ≡ Err Memory) → HsskeyRun lms ots random rest dir before after outcome

-- What `hsskey` answers, by what the part Key reads as, and whatever type tells why: a key that is there stays, and where there is none, the line of the one that
-- is drawn is printed.
pub data HsskeyAnswer {R : Type 0} (refusal_of : SealRefusal → R) (lms : LmsType) (ots : OtsType) (random : Stream) (key : Option (List ℕ)) (outcome : OutcomeOf R) : Type 0 where
  there : (IsNoKey key → ⊥) → outcome ≡ Err (refusal_of KeyThere) → HsskeyAnswer refusal_of lms ots random key outcome
  draws : IsNoKey key → Prints outcome (hss_key_text (drawn_key lms ots random)) → HsskeyAnswer refusal_of lms ots random key outcome

-- A message was sealed by an open key, and the line of the seal is printed unless memory ran out; or it was not sealed, for this cause.
pub data SealsMessage (hss : HssState) (before : ShelfState) (random rest : Stream) (msg : List ℕ) (outcome : OutcomeOf SealRefusal) (signed : HssState) (after : ShelfState) : Type 0 where
  unsealed : (why : HssFault) → RefusesToSign random before hss msg why signed after rest → outcome ≡ Err (refusal_of why (leaf_count hss.top.secret.lms))
      → SealsMessage hss before random rest msg outcome signed after
  sealed : (seal : List ℕ) → Signs random before hss msg seal signed after rest → SealedBy (public_bytes (public_key hss.top.secret)) msg seal
      → Prints outcome (hex_line seal) ⊎ (outcome ≡ Err Memory) → SealsMessage hss before random rest msg outcome signed after

-- The input was read whole, and sealed by an open key or not; or it was not read, or is too long, and nothing was done to the key and nothing drawn. What
-- is read of a lower key that is spent is what a crash might leave of it.
pub data SealsInput (hss : HssState) (before : ShelfState) (random rest : Stream) (left later : Option (List ℕ)) (old new : ℕ) (outcome : OutcomeOf SealRefusal) (signed : HssState) (after : ShelfState) : Type 0 where
  unread : (why : SealRefusal) → IsInputFault old new why → outcome ≡ Err why → signed ≡ hss → after ≡ before → rest ≡ random
      → SealsInput hss before random rest left later old new outcome signed after
  too_long : IsLongText INPUT_LIMIT left later → outcome ≡ Err InputTooLong → signed ≡ hss → after ≡ before → rest ≡ random
      → SealsInput hss before random rest left later old new outcome signed after
  read_whole : (msg : List ℕ) → IsWholeText INPUT_LIMIT left later msg → length msg ≤ INPUT_LIMIT → IfSome hss.lower (λ lower. IsSpent lower.key → IsReadable lower.key)
      → SealsMessage hss before random rest msg outcome signed after → SealsInput hss before random rest left later old new outcome signed after

-- `seal`: the key was not opened, nothing was read of the input and nothing drawn, and every part was at most read; or it was opened, the input sealed by it
-- or not, and all that it held was put back.
pub data SealRun (dir : List ℕ) (before after : ShelfState) (random rest : Stream) (left later : Option (List ℕ)) (old new : ℕ) (outcome : OutcomeOf SealRefusal) : Type 0 where
  unopened : (why : HssFault) → (IsTrue before.tells → IsOpeningCause before dir why) → OnlyReads before after → later ≡ left → rest ≡ random → outcome ≡ Err (refusal_of why 0)
      → SealRun dir before after random rest left later old new outcome
  opened : (hss signed : HssState) (mid done : ShelfState) → OpensHss before dir hss mid → IsSound hss → SealsInput hss mid random rest left later old new outcome signed done
      → KeepsHss mid hss done signed → ClosesHss done signed after → SealRun dir before after random rest left later old new outcome
