-- Commands that make an update by the key of a directory.
use Rattle.std.proofs.Common.{◌≡◌, ◌≢◌, ◌⊎◌, inl, inr, ℕ, ◌<◌, ◌≤◌, Bool, true, false, List, [], ◌∷◌, ◌++◌, append-nil, length, take, length-take, refl, sym, ap, subst, ◌∙◌, IsTrue, Option, Some, None, Ok, Err, Vec, arith, nat_lt}
use Rattle.std.specs.declared.alloc.Global.{Global}
use Rattle.std.specs.Prelude.{IfNone, IfSome, MatchOption}
use Rattle.std.specs.List.{list_any}
use Rattle.std.proofs.lemmas.List.{take_all}
use Rattle.std.proofs.lemmas.Bool.Decides.{nat_tests}
use Rattle.rand_core.specs.Stream.{Stream}
use Rattle.row_check.specs.Checksum.{is_luhn}
use Rattle.bec_bytes.specs.Causes.{Rose}
use Rattle.bec_bytes.specs.Framed.{stream_of}
use Rattle.bec_disk.specs.Disk.{DiskState, EveryImage, IsImage, LeavesOnly, LeavesSince}
use Rattle.bec_disk.specs.declared.part.Part.TheVariants.{Schema, Updates, Key, Used}
use Rattle.bec_disk.specs.Shelf.{PartState, ShelfState, absent, moments_of, out, stands as standing}
use Rattle.bec_disk.specs.Slot.{Slot, same_slot, slot}
use Rattle.bec_disk.proofs.Moments as moments
use Rattle.schema.specs.Data.{SchemaData}
use Rattle.update_model.specs.declared.op.Op.{Op}
use Rattle.update_model.specs.declared.update_id.UpdateId.{UpdateId}
use Rattle.update_log.specs.Log.{IsClean}
use Rattle.update_log.specs.Logset.{BeginsWith}
use Rattle.lms_tree.specs.SecretKey.{SecretData}
use Rattle.history.specs.Histories.{HistoryData}
use Rattle.key_index.specs.KeyState.{KeyState}
use Rattle.key_index.specs.Reserving.{Tries}
use Rattle.key_index.specs.Used.{IsUsed, used_in}
use Rattle.replica.specs.declared.make_fault.MakeFault.{MakeFault}
use Rattle.replica.specs.declared.make_fault.MakeFault.TheVariants.{NotListed, TooManyHeads, Invalid, TooLong, Full, Spent, Taken, DiskFault, Memory}
use Rattle.replica.specs.declared.make_fault.Side.TheVariants.{Key as KeySide, Log as LogSide}
use Rattle.replica.specs.declared.contents.Contents.{Contents}
use Rattle.replica.specs.Making.{HasNoneToJoin, IsJoinCause, IsMakeCauseWith, Joins, JoinsTo, MakesWith, saying}
use Rattle.replica.specs.Replicas.{ReplicaState}
use Rattle.replica.specs.Signing.{KeyAfter, KeyAfterJoin, SignsAtLeast, TriesLeast}
use Rattle.store_directory.specs.Holding.{OpenData, PutsStore, TakesStore}
use Rattle.store_directory.specs.Opening.{LetsAllGo, Refuses}
use Rattle.store_directory.specs.declared.open_refusal.OpenRefusal.{OpenRefusal}
use Rattle.store_directory.specs.declared.open_refusal.OpenRefusal.TheVariants as open_refusals
use Rattle.store_directory.specs.declared.opening.Needs.TheVariants as needed
use Rattle.key_directory.specs.Keys.{KeepsUsed, PutsKey, TakesKey, WorksWith}
use Rattle.key_directory.specs.Parts.{IfStands, IsHome, IsUntouched, KeepsAllBut, part_in, reading}
use Rattle.store_directory.specs.Stores.{StoreRun}
use Rattle.key_directory.specs.declared.key_refusal.KeyRefusal.TheVariants as key_refusals
use Rattle.store_directory.specs.declared.store_refusal.StoreRefusal.TheVariants as store_refusals
use Rattle.key_directory.proofs.Places.{home_again, keeps_through, stands-not-out}
use Rattle.key_directory.proofs.Putting.{slot_of, told}
use Rattle.store_directory.proofs.Readings.{OneSchema}
use Rattle.key_directory.proofs.Signing.{keeps_key, keeps_used}
use Rattle.node_commands.proofs.KeyUse.{signs_at_least, tries_least, untouched_used}
use Rattle.store_directory.proofs.OnceOpen.{of_four_first, of_four_last}
use Rattle.store_directory.proofs.Working.{home_after_store, read_before, store_of, worked_run}
use Rattle.txn_text.specs.Transactions.{FirstFault, Reads}
use Rattle.txn_text.specs.declared.fault.TextError.{TextError}
use Rattle.txn_text.specs.declared.fault.TextError.TheVariants as text_errors
use Rattle.txn_text.specs.declared.fault.TextFault.{TextFault}
use Rattle.txn_text.specs.declared.limits.TheConstants.{MAX_TRANSACTION_BYTES}
use Rattle.txn_text.specs.Outcome.{HasCause}
use Rattle.outcomes.specs.declared.refusal.Refusal.{Refusal}
use Rattle.outcomes.specs.declared.refusal.Refusal.TheVariants as refusals
use Rattle.outcomes.specs.Comes.{IsShelfFault, is_done, readings, IsSourceFault}
use Rattle.schema_verdict.specs.Inputs.{ReadsText}
use Rattle.outcomes.specs.Outcome.{Outcome, from_make, from_open, from_text}
use Rattle.node_commands.specs.Signing.{ApplyAnswer, IsInnerFault, IsNoStop, IsOpenFault, JoinAnswer, KeyedAnswer, MakeAnswer, MakesUpdate, SignAnswer, SignsIn, SignsOpen, StopsReading, StoreAnswer, TakesText, UsesKey, UsesKeyIn, AnswersSomeKey, DrawsFor, answered, by_fault, unopened, asked, bad_text, history_of, joined, made, none, not_joined, not_made, taken_of, with_key, with_store, without_key, without_store}
use Rattle.outcomes.specs.OpenStores.{WorksFrom}
use Rattle.outcomes.specs.StoreAnswers.{after_bytes, bad_key, bad_store, next_bytes, no_key, no_store}
use Rattle.store_directory.specs.Standing.{Stands}
use Rattle.outcomes.specs.Texts.{line_of}
use Rattle.outcomes.proofs.Working.{works_failed, works_not, works_on}

abbrev pub nothing : List (List ℕ)
nothing = []

-- what signs keeps the secret
pub same_secret : (key key_new : KeyState) → (key_new ≡ key) ⊎ ((index : ℕ) × Tries key index key_new) → key_new.secret ≡ key.secret
same_secret key key_new (inl same) = ap (λ (k : KeyState). k.secret) same
same_secret key key_new (inr tries) = tries.1.secret

-- a key that is as it was
with_same_key : (key : KeyState) → WorksWith key key
with_same_key key = record { tried = inl refl; used = λ index used. moments.stays key.parts.used key.parts.used (IsUsed index) refl used }

-- ---- what a key was used for

-- of a key that is open
abbrev pub UsesOpen : KeyState → KeyState → List (List ℕ) → Outcome → Type 0
UsesOpen key key_new added outcome = UsesKey (key_new ≡ key) (TriesLeast key key_new) (SignsAtLeast key key_new) added outcome

-- said in other words
uses_as : {NotUsed Tries Signs NotUsed' Tries' Signs' : Type 0} → (NotUsed → NotUsed') → (Tries → Tries') → (Signs → Signs') → (added : List (List ℕ)) (outcome : Outcome)
    → UsesKey NotUsed Tries Signs added outcome → UsesKey NotUsed' Tries' Signs' added outcome
uses_as {NotUsed} {Tries} {Signs} {NotUsed'} {Tries'} {Signs'} n t s = by
  where
    any : NotUsed ⊎ (Tries ⊎ Signs) → NotUsed' ⊎ (Tries' ⊎ Signs')
    any (inl not) = inl (n not)
    any (inr (inl tries)) = inr (inl (t tries))
    any (inr (inr signs)) = inr (inr (s signs))

    by : (added : List (List ℕ)) (outcome : Outcome) → UsesKey NotUsed Tries Signs added outcome → UsesKey NotUsed' Tries' Signs' added outcome
    by [] (Ok text) uses = n uses
    by (bytes ∷ others) (Ok text) uses = s uses
    by added (Err refusals.IdTaken) uses = s uses
    by added (Err refusals.StoreFault) uses = any uses
    by added (Err refusals.Memory) uses = any uses
    by added (Err refusal) uses = n uses

-- where a refusal gives way to want of memory
uses_lacking : {NotUsed Tries Signs : Type 0} → (added : List (List ℕ)) (refusal : Refusal) → UsesKey NotUsed Tries Signs added (Err refusal) → NotUsed ⊎ (Tries ⊎ Signs)
uses_lacking added refusals.IdTaken uses = inr (inr uses)
uses_lacking added refusals.StoreFault uses = uses
uses_lacking added refusals.Memory uses = uses
uses_lacking added refusal uses = inl uses

-- how far the generator went where a refusal gives way to want of memory
draws_lacking : (stream stream_new : Stream) (refusal : Refusal) → DrawsFor stream stream_new (Err refusal) → (stream_new ≡ stream) ⊎ (stream_new ≡ after_bytes stream)
draws_lacking stream stream_new refusals.NoStore draws = inl draws
draws_lacking stream stream_new refusals.BadStore draws = inl draws
draws_lacking stream stream_new refusals.NoKey draws = inl draws
draws_lacking stream stream_new refusals.BadKey draws = inl draws
draws_lacking stream stream_new (refusals.Transaction fault) draws = inl draws
draws_lacking stream stream_new refusals.Stream draws = inl draws
draws_lacking stream stream_new refusals.StoreFault draws = draws
draws_lacking stream stream_new refusals.Memory draws = draws
draws_lacking stream stream_new refusal draws = inr draws

-- and where no update was made
draws_not : (stream stream_new : Stream) → stream_new ≡ after_bytes stream → (secret : SecretData) (why : MakeFault) → DrawsFor stream stream_new (Err (from_make secret why))
draws_not stream stream_new drawn secret NotListed = drawn
draws_not stream stream_new drawn secret (TooManyHeads n) = drawn
draws_not stream stream_new drawn secret (Invalid reason operation) = drawn
draws_not stream stream_new drawn secret (TooLong len) = drawn
draws_not stream stream_new drawn secret Full = drawn
draws_not stream stream_new drawn secret Spent = drawn
draws_not stream stream_new drawn secret (Taken id) = drawn
draws_not stream stream_new drawn secret (DiskFault side) = inr drawn
draws_not stream stream_new drawn secret Memory = inr drawn

-- where no update was made
uses_not : (key key_new : KeyState) (why : MakeFault) → KeyAfter {T = UpdateId} key (Err why) key_new → UsesOpen key key_new [] (Err (from_make key.secret why))
uses_not key key_new NotListed after = after
uses_not key key_new (TooManyHeads n) after = after
uses_not key key_new (Invalid reason operation) after = after
uses_not key key_new (TooLong len) after = after
uses_not key key_new Full after = after
uses_not key key_new Spent after = after
uses_not key key_new (Taken id) after = after
uses_not key key_new (DiskFault KeySide) after = inr (inl after)
uses_not key key_new (DiskFault LogSide) after = inr (inr after)
uses_not key key_new Memory (inl same) = inl same
uses_not key key_new Memory (inr signs) = inr (inr signs)

-- ---- over what is open

-- nothing was done
pub signs_nothing : (Answer : SignAnswer) (Stops : Outcome → Type 0) (stream stream_new : Stream) (replica : ReplicaState) (key : KeyState) (outcome : Outcome) → Stands replica
    → Answer replica.history key.secret key.taken [] outcome ⊎ IsOpenFault Stops replica key replica key outcome → UsesOpen key key [] outcome → DrawsFor stream stream_new outcome
    → SignsOpen Answer Stops stream stream_new replica key replica key outcome
signs_nothing Answer Stops stream stream_new replica key outcome stands comes uses draws = record {
  added = [];
  comes = so comes;
  works = works_not replica (is_done outcome) stands;
  works_with = with_same_key key;
  uses = uses;
  draws = draws;
  log_later = omega arith;
  key_later = omega arith;
}
  where
    so : Answer replica.history key.secret key.taken [] outcome ⊎ IsOpenFault Stops replica key replica key outcome
        → Answer replica.history key.secret key.taken [] outcome ⊎ (IsOpenFault Stops replica key replica key outcome × (nothing ≡ []))
    so (inl answers) = inl answers
    so (inr fault) = inr (fault, refl)

-- an answer that is one of another kind
pub signs_as : (One Other : SignAnswer) (Stops Halts : Outcome → Type 0) (stream stream_new : Stream) (old : ReplicaState) (key : KeyState) (new : ReplicaState) (key_new : KeyState) (outcome : Outcome)
    → ((added : List (List ℕ)) → One old.history key.secret key.taken added outcome → Other old.history key.secret key.taken added outcome) → (Stops outcome → Halts outcome)
    → SignsOpen One Stops stream stream_new old key new key_new outcome → SignsOpen Other Halts stream stream_new old key new key_new outcome
signs_as One Other Stops Halts stream stream_new old key new key_new outcome answers halts signs = record {
  added = signs.added;
  comes = so signs.comes;
  works = signs.works;
  works_with = signs.works_with;
  uses = signs.uses;
  draws = signs.draws;
  log_later = signs.log_later;
  key_later = signs.key_later;
}
  where
    so : One old.history key.secret key.taken signs.added outcome ⊎ (IsOpenFault Stops old key new key_new outcome × (signs.added ≡ []))
        → Other old.history key.secret key.taken signs.added outcome ⊎ (IsOpenFault Halts old key new key_new outcome × (signs.added ≡ []))
    so (inl one) = inl (answers signs.added one)
    so (inr (inl memory, is)) = inr (inl memory, is)
    so (inr (inr (inl stopped), is)) = inr (inr (inl (halts stopped)), is)
    so (inr (inr (inr failed), is)) = inr (inr (inr failed), is)

module _ (old : ReplicaState) (key : KeyState) (new : ReplicaState) (key_new : KeyState) (stands : Stands new)
    (leaves : LeavesOnly old.log.disk new.log.disk (BeginsWith (stream_of old.history.members)))
    (used : (index : ℕ) → (IsTrue key.parts.used.tells → EveryImage key.parts.used.now (IsUsed index)) → LeavesOnly key.parts.used key_new.parts.used (IsUsed index))
    (log_later : old.log.faults ≤ new.log.faults) (key_later : key.parts.used_faults ≤ key_new.parts.used_faults)
    (tried : (key_new ≡ key) ⊎ ((index : ℕ) × Tries key index key_new)) (stream stream_new : Stream) (drawn : stream_new ≡ after_bytes stream) where
  -- something was added
  adds : (Answer : SignAnswer) (added : List (List ℕ)) (text : Vec ℕ Global) → new.history ≡ record { schema = old.history.schema; members = old.history.members ++ added }
      → (IsTrue old.log.disk.tells → IsClean new.log.end new.log.disk) → Answer old.history key.secret key.taken added (Ok text) → UsesOpen key key_new added (Ok text)
      → SignsOpen Answer IsNoStop stream stream_new old key new key_new (Ok text)
  adds Answer added text is clean answer uses = record {
    added = added;
    comes = inl answer;
    works = works_on old new added true is leaves stands (λ was is_done. clean);
    works_with = record { tried = tried; used = used };
    uses = uses;
    draws = drawn;
    log_later = log_later;
    key_later = key_later;
  }

  fails : (Answer : SignAnswer) (refusal : Refusal) → new.history ≡ old.history
      → Answer old.history key.secret key.taken [] (Err refusal) ⊎ IsOpenFault IsNoStop old key new key_new (Err refusal) → UsesOpen key key_new [] (Err refusal) → DrawsFor stream stream_new (Err refusal)
      → SignsOpen Answer IsNoStop stream stream_new old key new key_new (Err refusal)
  fails Answer refusal same comes uses draws = record {
    added = [];
    comes = so comes;
    works = works_failed old new same leaves stands;
    works_with = record { tried = tried; used = used };
    uses = uses;
    draws = draws;
    log_later = log_later;
    key_later = key_later;
  }
    where
      so : Answer old.history key.secret key.taken [] (Err refusal) ⊎ IsOpenFault IsNoStop old key new key_new (Err refusal)
          → Answer old.history key.secret key.taken [] (Err refusal) ⊎ (IsOpenFault IsNoStop old key new key_new (Err refusal) × (nothing ≡ []))
      so (inl answers) = inl answers
      so (inr fault) = inr (fault, refl)

  pub makes : (says : Contents) (c : List ℕ) (id : UpdateId) (text : Vec ℕ Global) → MakesWith is_luhn old.history key.secret key.taken says c id new.history
      → (IsTrue old.log.disk.tells → IsClean new.log.end new.log.disk) → text.items ≡ line_of id → SignsAtLeast key key_new
      → SignsOpen (MakeAnswer says c) IsNoStop stream stream_new old key new key_new (Ok text)
  makes says c id text is clean printed signs =
      adds (MakeAnswer says c) (is.bytes ∷ []) text is.last clean
      (made id is.bytes (subst (λ (h : HistoryData). MakesWith is_luhn old.history key.secret key.taken says c id h) is.last is) refl printed) signs

  pub makes_not : (says : Contents) (c : List ℕ) (why : MakeFault) → new.history ≡ old.history → IsMakeCauseWith is_luhn old.history key.secret key.taken says c why
      → (why ≡ DiskFault KeySide → Rose key.parts.used_faults key_new.parts.used_faults) → (why ≡ DiskFault LogSide → Rose old.log.faults new.log.faults)
      → KeyAfter {T = UpdateId} key (Err why) key_new → SignsOpen (MakeAnswer says c) IsNoStop stream stream_new old key new key_new (Err (from_make key.secret why))
  makes_not says c why same cause key_failed log_failed after =
      fails (MakeAnswer says c) (from_make key.secret why) same (by why cause key_failed log_failed) (uses_not key key_new why after) (draws_not stream stream_new drawn key.secret why)
    where
      by : (why : MakeFault) → IsMakeCauseWith is_luhn old.history key.secret key.taken says c why → (why ≡ DiskFault KeySide → Rose key.parts.used_faults key_new.parts.used_faults)
          → (why ≡ DiskFault LogSide → Rose old.log.faults new.log.faults)
          → MakeAnswer says c old.history key.secret key.taken [] (Err (from_make key.secret why)) ⊎ IsOpenFault IsNoStop old key new key_new (Err (from_make key.secret why))
      by NotListed so k l = inl (not_made NotListed so tt refl refl)
      by (TooManyHeads n) so k l = inl (not_made (TooManyHeads n) so tt refl refl)
      by (Invalid reason operation) so k l = inl (not_made (Invalid reason operation) so tt refl refl)
      by (TooLong len) so k l = inl (not_made (TooLong len) so tt refl refl)
      by Full so k l = inl (not_made Full so tt refl refl)
      by Spent so k l = inl (not_made Spent so tt refl refl)
      by (Taken id) so k l = inl (not_made (Taken id) so tt refl refl)
      by (DiskFault KeySide) so k l = inr (inr (inr (refl, inr (k refl))))
      by (DiskFault LogSide) so k l = inr (inr (inr (refl, inl (l refl))))
      by Memory so k l = inr (inl refl)

  joins : (id : UpdateId) (text : Vec ℕ Global) → Joins old.history key.secret key.taken (next_bytes stream) id new.history
      → (IsTrue old.log.disk.tells → IsClean new.log.end new.log.disk) → text.items ≡ line_of id → SignsAtLeast key key_new
      → SignsOpen (JoinAnswer stream) IsNoStop stream stream_new old key new key_new (Ok text)
  joins id text is clean printed signs =
      adds (JoinAnswer stream) (is.bytes ∷ []) text is.last clean
      (joined id is.bytes (subst (λ (h : HistoryData). Joins old.history key.secret key.taken (next_bytes stream) id h) is.last is) refl printed) signs

  joins_none : (text : Vec ℕ Global) → new ≡ old → HasNoneToJoin old.history → text.items ≡ [] → key_new ≡ key → SignsOpen (JoinAnswer stream) IsNoStop stream stream_new old key new key_new (Ok text)
  joins_none text same few printed unused = record {
    added = [];
    comes = inl (none few refl printed);
    works = works_on old new [] true (ap (λ (r : ReplicaState). r.history) same ∙ ap (λ (l : List (List ℕ)). record { schema = old.history.schema; members = l }) (sym (append-nil old.history.members))) leaves stands
        (λ was is_done. subst (λ (r : ReplicaState). IsTrue old.log.disk.tells → IsClean r.log.end r.log.disk) (sym same) was);
    works_with = record { tried = tried; used = used };
    uses = unused;
    draws = drawn;
    log_later = log_later;
    key_later = key_later;
  }

  pub joins_to : (id : Option UpdateId) (text : Vec ℕ Global) → JoinsTo old.history key.secret key.taken (next_bytes stream) id new.history
      → (IsTrue old.log.disk.tells → IfSome id (λ _. IsClean new.log.end new.log.disk)) → IfNone id (new ≡ old) → MatchOption id (text.items ≡ []) (λ one. text.items ≡ line_of one)
      → KeyAfterJoin key (Ok id) key_new → SignsOpen (JoinAnswer stream) IsNoStop stream stream_new old key new key_new (Ok text)
  joins_to (Some id) text is clean same printed after = joins id text is clean printed after
  joins_to None text is clean same printed after = joins_none text same is.0 printed after

  pub joins_not : (why : MakeFault) → new.history ≡ old.history → IsJoinCause old.history key.secret key.taken (next_bytes stream) why
      → (why ≡ DiskFault KeySide → Rose key.parts.used_faults key_new.parts.used_faults) → (why ≡ DiskFault LogSide → Rose old.log.faults new.log.faults)
      → KeyAfter {T = UpdateId} key (Err why) key_new → SignsOpen (JoinAnswer stream) IsNoStop stream stream_new old key new key_new (Err (from_make key.secret why))
  joins_not why same cause key_failed log_failed after =
      fails (JoinAnswer stream) (from_make key.secret why) same (by why cause key_failed log_failed) (uses_not key key_new why after) (draws_not stream stream_new drawn key.secret why)
    where
      by : (why : MakeFault) → IsJoinCause old.history key.secret key.taken (next_bytes stream) why → (why ≡ DiskFault KeySide → Rose key.parts.used_faults key_new.parts.used_faults)
          → (why ≡ DiskFault LogSide → Rose old.log.faults new.log.faults)
          → JoinAnswer stream old.history key.secret key.taken [] (Err (from_make key.secret why)) ⊎ IsOpenFault IsNoStop old key new key_new (Err (from_make key.secret why))
      by NotListed so k l = inl (not_joined NotListed so tt refl refl)
      by (TooManyHeads n) so k l = absurd so
      by (Invalid reason operation) so k l = absurd so
      by (TooLong len) so k l = absurd so
      by Full so k l = inl (not_joined Full so tt refl refl)
      by Spent so k l = inl (not_joined Spent so tt refl refl)
      by (Taken id) so k l = inl (not_joined (Taken id) so tt refl refl)
      by (DiskFault KeySide) so k l = inr (inr (inr (refl, inr (k refl))))
      by (DiskFault LogSide) so k l = inr (inr (inr (refl, inl (l refl))))
      by Memory so k l = inr (inl refl)

-- ---- the text

text_no_longer : (input : List ℕ) → length (take 4194305 input) ≤ 4194304 → take 4194305 input ≡ input
text_no_longer input fits = by_case (nat_lt 4194305 (length input)) refl
  where
    by_case : (b : Bool) → nat_lt 4194305 (length input) ≡ b → take 4194305 input ≡ input
    by_case true e = let many : 4194305 < length input = grind (arith, nat_tests) in let taken : length (take 4194305 input) ≡ 4194305 = simp length-take (omega arith) in absurd (omega (arith, taken))
    by_case false e = take_all 4194305 input (grind (arith, nat_tests))

pub text_taken : (before after : Option (List ℕ)) (schema : SchemaData) (read : List ℕ) (ops : List Op) → ReadsText MAX_TRANSACTION_BYTES before after read → Reads schema read ops → TakesText before after schema ops
text_taken None after schema read ops reads is = record { text = read; whole = tt; reads = is }
text_taken (Some input) after schema read ops reads is =
    let cut : Reads schema (take 4194305 input) ops = subst (λ (t : List ℕ). Reads schema t ops) reads.0 is in
    record { text = input; whole = (refl, reads.1); reads = subst (λ (t : List ℕ). Reads schema t ops) (text_no_longer input cut.0) cut }

whole_fault : (schema : SchemaData) (input : List ℕ) (fault : TextFault) → FirstFault schema (take 4194305 input) fault.kind fault.line fault.column → FirstFault schema input fault.kind fault.line fault.column
whole_fault schema input fault (inr within) = subst (λ (t : List ℕ). FirstFault schema t fault.kind fault.line fault.column) (text_no_longer input within.0) (inr within)
whole_fault schema input fault (inl over) = by_case (nat_lt 4194304 (length input)) refl
  where
    by_case : (b : Bool) → nat_lt 4194304 (length input) ≡ b → FirstFault schema input fault.kind fault.line fault.column
    by_case true e = inl (grind (arith, nat_tests), over.1, over.2, over.3)
    by_case false e = let few : length input ≤ 4194304 = grind (arith, nat_tests) in let all = ap length (take_all 4194305 input (omega arith)) in let much = over.0 in absurd (omega (arith, all))

pub text_refused : (before after : Option (List ℕ)) (old new : ℕ) (schema : SchemaData) (read : List ℕ) (error : TextError) → ReadsText MAX_TRANSACTION_BYTES before after read → HasCause schema read error
    → StopsReading before after old new schema (from_text error)
text_refused before after old new schema read text_errors.Memory reads cause = inr (inl refl)
text_refused None after old new schema read (text_errors.Fault fault) reads cause = inl (record { text = read; fault = fault; whole = tt; first = cause; is = refl })
text_refused (Some input) after old new schema read (text_errors.Fault fault) reads cause =
    inl (record {
      text = input;
      fault = fault;
      whole = (refl, reads.1);
      first = whole_fault schema input fault (subst (λ (t : List ℕ). FirstFault schema t fault.kind fault.line fault.column) reads.0 cause);
      is = refl;
    })

-- what a text that was not read answers over what is open
pub apply_stopped : (note before after : Option (List ℕ)) (stream : Stream) (old new : ℕ) (replica : ReplicaState) (key : KeyState) (refusal : Refusal) → Stands replica
    → StopsReading before after old new replica.history.schema refusal → SignsOpen (ApplyAnswer note before after stream) (IsSourceFault old new) stream stream replica key replica key (Err refusal)
apply_stopped note before after stream old new replica key refusal stands stopped =
    signs_nothing (ApplyAnswer note before after stream) (IsSourceFault old new) stream stream replica key (Err refusal) stands (by stopped) (unused stopped) (undrawn stopped)
  where
    undrawn : StopsReading before after old new replica.history.schema refusal → DrawsFor stream stream (Err refusal)
    undrawn (inl faults) = subst (λ (r : Refusal). DrawsFor stream stream (Err r)) (sym faults.is) refl
    undrawn (inr (inl memory)) = subst (λ (r : Refusal). DrawsFor stream stream (Err r)) (sym memory) (inl refl)
    undrawn (inr (inr failed)) = subst (λ (r : Refusal). DrawsFor stream stream (Err r)) (sym failed.0) refl

    unused : StopsReading before after old new replica.history.schema refusal → UsesOpen key key [] (Err refusal)
    unused (inl faults) = subst (λ (r : Refusal). UsesOpen key key [] (Err r)) (sym faults.is) refl
    unused (inr (inl memory)) = subst (λ (r : Refusal). UsesOpen key key [] (Err r)) (sym memory) (inl refl)
    unused (inr (inr failed)) = subst (λ (r : Refusal). UsesOpen key key [] (Err r)) (sym failed.0) refl

    by : StopsReading before after old new replica.history.schema refusal
        → ApplyAnswer note before after stream replica.history key.secret key.taken [] (Err refusal) ⊎ IsOpenFault (IsSourceFault old new) replica key replica key (Err refusal)
    by (inl faults) = inl (bad_text faults.text faults.fault faults.whole faults.first refl (ap Err faults.is))
    by (inr (inl memory)) = inr (inl (ap Err memory))
    by (inr (inr failed)) = inr (inr (inl (ap Err failed.0, failed.1)))

pub apply_asked : (note before after : Option (List ℕ)) (stream stream_new : Stream) (old new : ℕ) (replica : ReplicaState) (key : KeyState) (replica_new : ReplicaState) (key_new : KeyState) (ops : List Op) (outcome : Outcome)
    → TakesText before after replica.history.schema ops → SignsOpen (MakeAnswer (saying note ops) (next_bytes stream)) IsNoStop stream stream_new replica key replica_new key_new outcome
    → SignsOpen (ApplyAnswer note before after stream) (IsSourceFault old new) stream stream_new replica key replica_new key_new outcome
apply_asked note before after stream stream_new old new replica key replica_new key_new ops outcome takes signs =
    signs_as (MakeAnswer (saying note ops) (next_bytes stream)) (ApplyAnswer note before after stream) IsNoStop (IsSourceFault old new) stream stream_new replica key replica_new key_new outcome
    (λ added answer. asked takes.text ops takes.whole takes.reads answer) (λ stops. absurd stops) signs

-- ---- the key of a directory

-- a part that was at most read keeps what it has used
keeps_untouched : (old new : PartState) → IsUntouched old new → KeepsUsed old new
keeps_untouched old new same = record { reads = inl same; used = λ index is. by old new same index is }
  where
    by : (old new : PartState) → IsUntouched old new → (index : ℕ) → IfStands old (λ before. IsUsed index before.seen)
        → LeavesSince (moments_of old) (moments_of new) (IsUsed index) × IfStands new (λ after. IsUsed index after.seen)
    by (standing a) (standing b) kept index is = (
      moments.since_weakened (moments_of (standing a)) (moments_of (standing b)) (λ image. image ≡ a.seen) (IsUsed index) kept.1 (λ image e. subst (IsUsed index) (sym e) is),
      subst (IsUsed index) (sym kept.0) is,
    )
    by (standing a) absent kept index is = absurd kept
    by (standing a) out kept index is = absurd kept
    by absent new kept index is = subst (λ (p : PartState). LeavesSince [] (moments_of p) (IsUsed index) × IfStands p (λ after. IsUsed index after.seen)) (sym kept) (moments.no_moment [] [] (IsUsed index) refl, tt)
    by out new kept index is = subst (λ (p : PartState). LeavesSince [] (moments_of p) (IsUsed index) × IfStands p (λ after. IsUsed index after.seen)) (sym kept) (moments.no_moment [] [] (IsUsed index) refl, tt)

-- the disks of a key that was taken are those of its parts
pub key_disks : (before opened : ShelfState) (dir : List ℕ) (taken now : KeyState) → TakesKey before dir taken opened → WorksWith taken now → IsTrue opened.tells
    → ((now.parts.key.slot ≡ Some (slot dir Key)) × (part_in opened dir Key ≡ out)) × ((now.parts.used.slot ≡ Some (slot dir Used)) × (part_in opened dir Used ≡ out))
key_disks before opened dir taken now takes works tells =
    let before_tells : IsTrue before.tells = told opened.tells before.tells (sym takes.tells) tells in
    let k = takes.key_part before_tells in
    let u = takes.used_part before_tells in (
      (ap (λ (d : DiskState). d.slot) (key_kept works.tried) ∙ slot_of (slot dir Key) k.0 taken.parts.key k.2, takes.key_out before_tells),
      (used_kept works.tried ∙ slot_of (slot dir Used) u.0 taken.parts.used u.2, takes.used_out before_tells),
    )
  where
    key_kept : (now ≡ taken) ⊎ ((index : ℕ) × Tries taken index now) → now.parts.key ≡ taken.parts.key
    key_kept (inl same) = ap (λ (s : KeyState). s.parts.key) same
    key_kept (inr tries) = tries.1.key

    used_kept : (now ≡ taken) ⊎ ((index : ℕ) × Tries taken index now) → now.parts.used.slot ≡ taken.parts.used.slot
    used_kept (inl same) = ap (λ (s : KeyState). s.parts.used.slot) same
    used_kept (inr tries) = tries.1.only.disk.slot

module _ (Unused : Type 0) (Answer : SignAnswer) (Stops : Outcome → Type 0) (stream stream_new : Stream) (dir : List ℕ) (before after : ShelfState) (faults faults_new : ℕ) where
  -- where one was taken and put back
  pub signs_keyed : (opened : ShelfState) (opened_faults : ℕ) (old new : ReplicaState) (taken now : KeyState) (outcome : Outcome) → TakesKey before dir taken opened
      → SignsOpen Answer Stops stream stream_new old taken new now outcome → PutsKey opened dir now.parts after → (IsTrue now.parts.used.tells → IsImage now.parts.used.now now.parts.used.seen)
      → faults ≤ opened_faults → opened_faults ≤ faults_new → (0 < now.parts.used_faults → Rose opened_faults faults_new)
      → SignsIn Unused Answer Stops stream stream_new dir before after faults faults_new old new outcome
  signs_keyed opened opened_faults old new taken now outcome takes signs puts image first second faulted = record {
    added = signs.added;
    comes = by signs.comes;
    ends = some signs.comes;
    draws = signs.draws;
    works = signs.works;
    tells = puts.tells ∙ takes.tells;
    key = λ tells. keeps_key before opened opened after dir taken now tells (opened_told tells) takes signs.works_with puts;
    used = λ tells. keeps_used before opened opened after dir taken now tells (opened_told tells) takes signs.works_with (image (used_told tells signs.works_with.tried)) puts;
    uses = λ tells. uses_as (λ same. untouched_used before opened opened after dir taken now tells (opened_told tells) takes same puts)
        (λ t. tries_least before opened opened after dir taken now tells (opened_told tells) takes t.index t.least t.tries (image (used_told tells signs.works_with.tried)) puts)
        (λ s. signs_at_least before opened opened after dir taken now tells (opened_told tells) takes s.index s.least s.tries s.reserved (image (used_told tells signs.works_with.tried)) puts)
        signs.added outcome signs.uses;
    key_home = λ tells. stands-not-out (part_in after dir Key) now.parts.key (puts.key_back (opened_told tells));
    used_home = λ tells. stands-not-out (part_in after dir Used) now.parts.used (puts.used_back (opened_told tells));
    others = λ tells. keeps_through (Key ∷ Used ∷ []) dir before opened after takes.others (puts.others (opened_told tells));
    later = omega (arith, first, second);
    log_later = signs.log_later;
  }
    where
      opened_told : IsTrue before.tells → IsTrue opened.tells
      opened_told tells = told before.tells opened.tells takes.tells tells

      used_told : IsTrue before.tells → (now ≡ taken) ⊎ ((index : ℕ) × Tries taken index now) → IsTrue now.parts.used.tells
      used_told tells (inl same) = told before.tells now.parts.used.tells (ap (λ (s : KeyState). s.parts.used.tells) same ∙ takes.used_tells) tells
      used_told tells (inr tries) = told before.tells now.parts.used.tells (tries.1.only.disk.tells ∙ takes.used_tells) tells

      key_of : IsTrue before.tells → Answer old.history taken.secret taken.taken signs.added outcome
          → KeyedAnswer Unused Answer (reading (part_in before dir Key)) (reading (part_in before dir Used)) old.history signs.added outcome
      key_of tells answer =
          let u = takes.used_part tells in
          let same : taken.taken ≡ taken_of (reading (part_in before dir Used)) =
          takes.taken tells ∙ ap (λ (d : DiskState). used_in d.seen) u.2 ∙ sym (ap (λ (p : PartState). taken_of (reading p)) u.1) in
          with_key taken.secret (takes.reads tells) (subst (λ (t : List Bool). Answer old.history taken.secret t signs.added outcome) same answer)

      rose : Rose taken.parts.used_faults now.parts.used_faults → Rose faults faults_new
      rose up =
          let some : 0 < now.parts.used_faults = omega (arith, up) in
          let more = faulted some in
          omega (arith, first, more)

      inner : IsOpenFault Stops old taken new now outcome → IsInnerFault Stops faults faults_new old new outcome
      inner (inl memory) = inl memory
      inner (inr (inl stopped)) = inr (inl stopped)
      inner (inr (inr (store, inl log))) = inr (inr (store, inr log))
      inner (inr (inr (store, inr key))) = inr (inr (store, inl (rose key)))

      by : Answer old.history taken.secret taken.taken signs.added outcome ⊎ (IsOpenFault Stops old taken new now outcome × (signs.added ≡ []))
          → (IsTrue before.tells → KeyedAnswer Unused Answer (reading (part_in before dir Key)) (reading (part_in before dir Used)) old.history signs.added outcome)
          ⊎ (IsInnerFault Stops faults faults_new old new outcome × (signs.added ≡ []))
      by (inl answer) = inl (λ tells. key_of tells answer)
      by (inr (fault, is)) = inr (inner fault, is)

      some : Answer old.history taken.secret taken.taken signs.added outcome ⊎ (IsOpenFault Stops old taken new now outcome × (signs.added ≡ []))
          → AnswersSomeKey Answer (IsInnerFault Stops faults faults_new old new) signs.added outcome
      some (inl answer) = answered old.history taken.secret taken.taken answer
      some (inr (fault, is)) = by_fault (inner fault) is

-- ---- the store of a directory

abbrev picked : Bool → DiskState → PartState → PartState
picked true disk part = standing disk
picked false disk part = part

-- Where two parts are in their places, and every other part but two further ones is, so is every part but those two.
home_but : (dir : List ℕ) (disk : DiskState) (shelf : ShelfState) → part_in shelf dir Key ≢ out → part_in shelf dir Used ≢ out
    → ((other : Slot) → list_any (λ part. same_slot (slot dir part) other) (Schema ∷ Updates ∷ []) ≡ false → list_any (λ part. same_slot (slot dir part) other) (Key ∷ Used ∷ []) ≡ false → shelf.parts other ≢ out)
    → (other : Slot) → list_any (λ part. same_slot (slot dir part) other) (Schema ∷ Updates ∷ []) ≡ false → shelf.parts other ≢ out
home_but dir disk shelf key used rest other away =
    subst (λ (b : Bool). picked b disk (shelf.parts other) ≢ out) away (home_again Key Used dir seen key used others other)
  where
    seen : ShelfState
    seen = record { tells = shelf.tells; parts = λ place. picked (list_any (λ part. same_slot (slot dir part) place) (Schema ∷ Updates ∷ [])) disk (shelf.parts place) }

    others : (place : Slot) → list_any (λ part. same_slot (slot dir part) place) (Key ∷ Used ∷ []) ≡ false → seen.parts place ≢ out
    others place far = by (list_any (λ part. same_slot (slot dir part) place) (Schema ∷ Updates ∷ [])) refl
      where
        by : (b : Bool) → list_any (λ part. same_slot (slot dir part) place) (Schema ∷ Updates ∷ []) ≡ b → picked b disk (shelf.parts place) ≢ out
        by true e = stands-not-out (standing disk) disk refl
        by false e = rest place e far

module _ (Unused : Type 0) (Answer : SignAnswer) (Stops : Outcome → Type 0) (stream stream_new : Stream) (dir : List ℕ) (before after : ShelfState) (old new : ℕ) where
  -- where nothing was opened
  pub signs_unopened : (why : OpenRefusal) → (IsTrue before.tells → IsHome before) → Unused → LetsAllGo needed.StoreAndKey before dir after → Refuses why needed.StoreAndKey before dir
      → (why ≡ open_refusals.Store store_refusals.DiskFault → Rose old new) → (why ≡ open_refusals.Key key_refusals.DiskFault → Rose old new) → stream_new ≡ stream
      → MakesUpdate Unused Answer Stops stream stream_new dir before after old new (Err (from_open why))
  signs_unopened why home unused lets cause store_rose key_rose same = record {
    runs = record {
      added = [];
      comes = by why cause store_rose key_rose;
      run = lets.run;
      others = lets.others;
      home = λ tells place. lets.places tells place (home tells place);
    };
    key = lets.key;
    used = λ tells. keeps_untouched (part_in before dir Used) (part_in after dir Used) (lets.used tells);
    uses = λ tells. not_used why (lets.used tells);
    ends = some why store_rose key_rose;
    draws = undrawn why;
  }
    where
      undrawn : (why : OpenRefusal) → DrawsFor stream stream_new (Err (from_open why))
      undrawn (open_refusals.Store store_refusals.NoStore) = same
      undrawn (open_refusals.Store store_refusals.BadStore) = same
      undrawn (open_refusals.Store store_refusals.DiskFault) = inl same
      undrawn (open_refusals.Store store_refusals.Memory) = inl same
      undrawn (open_refusals.Key key_refusals.NoKey) = same
      undrawn (open_refusals.Key key_refusals.BadKey) = same
      undrawn (open_refusals.Key key_refusals.DiskFault) = inl same
      undrawn (open_refusals.Key key_refusals.Memory) = inl same

      some : (why : OpenRefusal) → (why ≡ open_refusals.Store store_refusals.DiskFault → Rose old new) → (why ≡ open_refusals.Key key_refusals.DiskFault → Rose old new)
          → AnswersSomeKey Answer (λ given. IsShelfFault old new given ⊎ Stops given) [] (Err (from_open why))
      some (open_refusals.Store store_refusals.NoStore) f k = unopened tt refl
      some (open_refusals.Store store_refusals.BadStore) f k = unopened tt refl
      some (open_refusals.Store store_refusals.DiskFault) f k = by_fault (inl (inr (refl, f refl))) refl
      some (open_refusals.Store store_refusals.Memory) f k = by_fault (inl (inl refl)) refl
      some (open_refusals.Key key_refusals.NoKey) f k = unopened tt refl
      some (open_refusals.Key key_refusals.BadKey) f k = unopened tt refl
      some (open_refusals.Key key_refusals.DiskFault) f k = by_fault (inl (inr (refl, k refl))) refl
      some (open_refusals.Key key_refusals.Memory) f k = by_fault (inl (inl refl)) refl

      not_used : (why : OpenRefusal) → IsUntouched (part_in before dir Used) (part_in after dir Used) → UsesKeyIn (part_in before dir Used) (part_in after dir Used) [] (Err (from_open why))
      not_used (open_refusals.Store store_refusals.NoStore) kept = kept
      not_used (open_refusals.Store store_refusals.BadStore) kept = kept
      not_used (open_refusals.Store store_refusals.DiskFault) kept = inl kept
      not_used (open_refusals.Store store_refusals.Memory) kept = inl kept
      not_used (open_refusals.Key key_refusals.NoKey) kept = kept
      not_used (open_refusals.Key key_refusals.BadKey) kept = kept
      not_used (open_refusals.Key key_refusals.DiskFault) kept = inl kept
      not_used (open_refusals.Key key_refusals.Memory) kept = inl kept

      by : (why : OpenRefusal) → Refuses why needed.StoreAndKey before dir → (why ≡ open_refusals.Store store_refusals.DiskFault → Rose old new)
          → (why ≡ open_refusals.Key key_refusals.DiskFault → Rose old new)
          → (IsTrue before.tells → StoreAnswer Unused Answer (readings before dir) [] (Err (from_open why))) ⊎ ((IsShelfFault old new (Err (from_open why)) ⊎ Stops (Err (from_open why))) × (nothing ≡ []))
      by (open_refusals.Store store_refusals.NoStore) so f k = inl (λ tells. without_store refusals.NoStore (no_store (so tells) refl) unused refl refl)
      by (open_refusals.Store store_refusals.BadStore) so f k = inl (λ tells. without_store refusals.BadStore (bad_store (so tells) refl) unused refl refl)
      by (open_refusals.Store store_refusals.DiskFault) so f k = inr (inl (inr (refl, f refl)), refl)
      by (open_refusals.Store store_refusals.Memory) so f k = inr (inl (inl refl), refl)
      by (open_refusals.Key key_refusals.NoKey) so f k = inl (λ tells. with_store (so tells).0.0 (so tells).0.1 (without_key refusals.NoKey (no_key (so tells).1 refl) unused refl refl))
      by (open_refusals.Key key_refusals.BadKey) so f k = inl (λ tells. with_store (so tells).0.0 (so tells).0.1 (without_key refusals.BadKey (bad_key (so tells).1 refl) unused refl refl))
      by (open_refusals.Key key_refusals.DiskFault) so f k = inr (inl (inr (refl, k refl)), refl)
      by (open_refusals.Key key_refusals.Memory) so f k = inr (inl (inl refl), refl)

  -- where one was taken and put back
  pub signs_stored : OneSchema → (opened closing : ShelfState) (opened_faults closing_faults : ℕ) (taken : OpenData) (replica : ReplicaState) (outcome : Outcome) → (IsTrue before.tells → IsHome before)
      → TakesStore is_luhn before dir taken opened → SignsIn Unused Answer Stops stream stream_new dir opened closing opened_faults closing_faults taken.replica replica outcome
      → PutsStore closing dir taken.schema replica.log.disk after → old ≤ opened_faults → closing_faults ≤ new → (0 < replica.log.faults → Rose closing_faults new)
      → MakesUpdate Unused Answer Stops stream stream_new dir before after old new outcome
  signs_stored one opened closing opened_faults closing_faults taken replica outcome home takes signs puts first second faulted = record {
    runs = record {
      added = signs.added;
      comes = by signs.comes;
      run = λ tells. worked_run one is_luhn before opened closing after dir taken replica signs.added (is_done outcome) tells (closing_told tells) takes
          (signs.works (λ log_tells. (takes.updates tells).2.clean refl) taken refl) puts;
      others = λ tells other away.
          puts.others (closing_told tells) other (of_four_first dir other away) ∙ signs.others (opened_told tells) other (of_four_last dir other away) ∙ takes.others other (of_four_first dir other away);
      home = λ tells. home_after_store closing after dir taken.schema replica.log.disk (closing_told tells) puts (λ other away. closing_home tells other away);
    };
    key = λ tells.
        subst (λ (p : PartState). IsUntouched p (part_in after dir Key)) (takes.others (slot dir Key) refl)
        (subst (λ (p : PartState). IsUntouched (part_in opened dir Key) p) (sym (puts.others (closing_told tells) (slot dir Key) refl)) (signs.key (opened_told tells)));
    used = λ tells.
        subst (λ (p : PartState). KeepsUsed p (part_in after dir Used)) (takes.others (slot dir Used) refl)
        (subst (λ (p : PartState). KeepsUsed (part_in opened dir Used) p) (sym (puts.others (closing_told tells) (slot dir Used) refl)) (signs.used (opened_told tells)));
    uses = λ tells.
        subst (λ (p : PartState). UsesKeyIn p (part_in after dir Used) signs.added outcome) (takes.others (slot dir Used) refl)
        (subst (λ (p : PartState). UsesKeyIn (part_in opened dir Used) p signs.added outcome) (sym (puts.others (closing_told tells) (slot dir Used) refl)) (signs.uses (opened_told tells)));
    ends = some signs.ends;
    draws = signs.draws;
  }
    where
      opened_told : IsTrue before.tells → IsTrue opened.tells
      opened_told tells = told before.tells opened.tells takes.tells tells

      closing_told : IsTrue before.tells → IsTrue closing.tells
      closing_told tells = told opened.tells closing.tells signs.tells (opened_told tells)

      closing_home : IsTrue before.tells → (other : Slot) → list_any (λ part. same_slot (slot dir part) other) (Schema ∷ Updates ∷ []) ≡ false → closing.parts other ≢ out
      closing_home tells =
          home_but dir taken.schema closing (signs.key_home (opened_told tells)) (signs.used_home (opened_told tells))
          (λ other away far. subst (λ (p : PartState). p ≢ out) (sym (signs.others (opened_told tells) other far ∙ takes.others other away)) (home tells other))

      outer : IsInnerFault Stops opened_faults closing_faults taken.replica replica outcome → IsShelfFault old new outcome ⊎ Stops outcome
      outer (inl memory) = inl (inl memory)
      outer (inr (inl stopped)) = inr stopped
      outer (inr (inr (store, inl shelf))) = inl (inr (store, (omega (arith, first, second, shelf))))
      outer (inr (inr (store, inr log))) =
          let any : 0 < replica.log.faults = omega (arith, log) in
          let later = signs.later in
          let more = faulted any in
          inl (inr (store, (omega (arith, first, later, more))))

      by : (IsTrue opened.tells → KeyedAnswer Unused Answer (reading (part_in opened dir Key)) (reading (part_in opened dir Used)) taken.replica.history signs.added outcome)
          ⊎ (IsInnerFault Stops opened_faults closing_faults taken.replica replica outcome × (signs.added ≡ []))
          → (IsTrue before.tells → StoreAnswer Unused Answer (readings before dir) signs.added outcome) ⊎ ((IsShelfFault old new outcome ⊎ Stops outcome) × (signs.added ≡ []))
      by (inl answer) = inl (λ tells.
          with_store (store_of taken.replica) (read_before is_luhn before opened dir taken tells takes)
          (subst (λ (p : PartState). KeyedAnswer Unused Answer (reading p) (reading (part_in before dir Used)) taken.replica.history signs.added outcome) (takes.others (slot dir Key) refl)
          (subst (λ (p : PartState). KeyedAnswer Unused Answer (reading (part_in opened dir Key)) (reading p) taken.replica.history signs.added outcome) (takes.others (slot dir Used) refl) (answer (opened_told tells)))))
      by (inr (fault, is)) = inr (outer fault, is)

      some : AnswersSomeKey Answer (IsInnerFault Stops opened_faults closing_faults taken.replica replica) signs.added outcome
          → AnswersSomeKey Answer (λ given. IsShelfFault old new given ⊎ Stops given) signs.added outcome
      some (answered history secret taken_indices answer) = answered history secret taken_indices answer
      some (unopened is adds_none) = unopened is adds_none
      some (by_fault fault is) = by_fault (outer fault) is

-- ---- want of memory in place of a refusal

-- a refusal adds nothing
abbrev pub IsAddedNone : SignAnswer → Refusal → Type 0
IsAddedNone Answer refusal = (history : HistoryData) (secret : SecretData) (taken : List Bool) (added : List (List ℕ)) → Answer history secret taken added (Err refusal) → added ≡ []

none_by_making : (says : Contents) (c : List ℕ) (refusal : Refusal) → IsAddedNone (MakeAnswer says c) refusal
none_by_making says c refusal history secret taken added (made id bytes is last prints) = absurd prints
none_by_making says c refusal history secret taken added (not_made why cause refused nothing_added is) = nothing_added

pub none_by_apply : (note before after : Option (List ℕ)) (stream : Stream) (refusal : Refusal) → IsAddedNone (ApplyAnswer note before after stream) refusal
none_by_apply said before after stream refusal history secret taken added (bad_text text fault whole first nothing_added is) = nothing_added
none_by_apply said before after stream refusal history secret taken added (asked text ops whole reads answer) = none_by_making (saying said ops) (next_bytes stream) refusal history secret taken added answer

pub none_by_join : (stream : Stream) (refusal : Refusal) → IsAddedNone (JoinAnswer stream) refusal
none_by_join stream refusal history secret taken added (joined id bytes is last prints) = absurd prints
none_by_join stream refusal history secret taken added (none few nothing_added prints) = absurd prints
none_by_join stream refusal history secret taken added (not_joined why cause refused nothing_added is) = nothing_added

none_by_store : (Unused : Type 0) (Answer : SignAnswer) (refusal : Refusal) → IsAddedNone Answer refusal → (dir : List ℕ) (shelf : ShelfState) (added : List (List ℕ))
    → StoreAnswer Unused Answer (readings shelf dir) added (Err refusal) → added ≡ []
none_by_store Unused Answer refusal adds_none dir shelf added (without_store why refuses unused nothing_added is) = nothing_added
none_by_store Unused Answer refusal adds_none dir shelf added (with_store store has (without_key why refuses unused nothing_added is)) = nothing_added
none_by_store Unused Answer refusal adds_none dir shelf added (with_store store has (with_key secret reads answer)) =
    adds_none (history_of store) secret (taken_of (reading (part_in shelf dir Used))) added answer

pub signs_without_memory : {stream stream_new : Stream} → (Unused : Type 0) (Answer : SignAnswer) (Stops : Outcome → Type 0) (dir : List ℕ) (before after : ShelfState) (old new : ℕ) (refusal : Refusal) → IsAddedNone Answer refusal
    → MakesUpdate Unused Answer Stops stream stream_new dir before after old new (Err refusal) → MakesUpdate Unused Answer Stops stream stream_new dir before after old new (Err refusals.Memory)
signs_without_memory {stream} {stream_new} Unused Answer Stops dir before after old new refusal adds_none makes_it = record {
  runs = record {
    added = [];
    comes = inr (inl (inl refl), refl);
    run = λ tells. subst (λ (l : List (List ℕ)). StoreRun is_luhn before after dir l false) (no_update makes_it.runs.comes tells) (makes_it.runs.run tells);
    others = makes_it.runs.others;
    home = makes_it.runs.home;
  };
  key = makes_it.key;
  used = makes_it.used;
  uses = λ tells. uses_lacking makes_it.runs.added refusal (makes_it.uses tells);
  ends = by_fault (inl (inl refl)) refl;
  draws = draws_lacking stream stream_new refusal makes_it.draws;
}
  where
    no_update : (IsTrue before.tells → StoreAnswer Unused Answer (readings before dir) makes_it.runs.added (Err refusal)) ⊎ ((IsShelfFault old new (Err refusal) ⊎ Stops (Err refusal)) × (makes_it.runs.added ≡ []))
        → IsTrue before.tells → makes_it.runs.added ≡ []
    no_update (inl answers) tells = none_by_store Unused Answer refusal adds_none dir before makes_it.runs.added (answers tells)
    no_update (inr fault) tells = fault.1
