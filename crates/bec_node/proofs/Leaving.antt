-- What a run of a family or of a net leaves.
use Rattle.std.proofs.Common.{◌≡◌, ◌⊎◌, inl, inr, ℕ, List, refl, sym, ap, subst, ◌∙◌, Option, Some, None, Ok, Err, IsTrue, String, arith}
use Rattle.std.specs.declared.alloc.Global.{Global}
use Rattle.bec_bytes.specs.Causes.{Rose}
use Rattle.bec_disk.specs.Shelf.{ShelfState}
use Rattle.bec_links.specs.Nets.{NetState}
use Rattle.key_directory.specs.Parts.{IsHome}
use Rattle.hss_directory.specs.declared.fault.HssFault.{HssFault}
use Rattle.hss_directory.specs.declared.fault.HssFault.TheVariants as hss
use Rattle.hss_directory.specs.Values.{HssState}
use Rattle.lm_ots.specs.declared.ots_type.OtsType.{OtsType}
use Rattle.lms_tree.specs.declared.lms_type.LmsType.{LmsType}
use Rattle.rand_core.specs.Stream.{Stream}
use Rattle.command_words.specs.AuditRequests.{AuditText, audit, confirm}
use Rattle.command_words.specs.NetRequests.{NetText, serve, sync}
use Rattle.command_words.specs.SealRequests.{SealText, hsskey, seal, unseal}
use Rattle.command_words.specs.WatchRequests.{WatchText, watch}
use Rattle.command_words.specs.WorldRequests.{WorldText, demo, world}
use Rattle.net_commands.specs.Meetings.{Dials, handed, not_asked, refused as none_handed}
use Rattle.schema_verdict.specs.Verdict.{OutcomeOf, Prints}
use Rattle.schema_verdict.specs.Written.{SinkState}
use Rattle.schema_verdict.specs.declared.status.TheConstants.{STORE_FAULT, STREAM_FAULT}
use Rattle.seal_commands.specs.Inputs.{IsInputFault}
use Rattle.seal_commands.specs.Sealing.{HsskeyRun, SealRun, SealsInput, SealsMessage, drawn, opened, read_whole, refusal_of, sealed, too_long, undrawn, unopened, unread, unsealed}
use Rattle.seal_commands.specs.Unsealing.{UnsealAnswer, bad, good, too_long as long_input}
use Rattle.seal_commands.specs.declared.refusal.SealRefusal.{SealRefusal}
use Rattle.seal_commands.specs.declared.refusal.SealRefusal.TheVariants as seals
use Rattle.audit_commands.specs.Audits.{ShowsDoubled}
use Rattle.audit_commands.specs.Confirming.{ConfirmAnswer, confirmed, refused as not_confirmed}
use Rattle.outcomes.specs.declared.refusal.Refusal.{Refusal}
use Rattle.outcomes.specs.declared.refusal.Refusal.TheVariants as refusals
use Rattle.outcomes.specs.Outcome.{Ends, Outcome, status_of}
use Rattle.outcomes.specs.Outside.{Outside}
use Rattle.outcomes.specs.StoreAnswers.{Printing}
use Rattle.outcomes.specs.Told.{EndsTold, Told, told_status}
use Rattle.watch_command.specs.Ending.{HasCause, Says}
use Rattle.watch_command.specs.declared.stop.Stop.{Stop}
use Rattle.watch_command.specs.declared.stop.Stop.TheVariants.{Refused, Unwritten}
use Rattle.bec_node.specs.Beside.{DoesBeside, RunsBeside, asked, of_keys, over_seals, over_views, over_worlds}
use Rattle.bec_node.specs.Families.{AuditComes, BesideText, IsBesideCommand, SealComes, TellsSeals, ViewComes, WorldComes, from_seal, told_as}
use Rattle.bec_node.specs.Own.{EndsOf, IsOfStore}
use Rattle.bec_node.specs.Run.{DoesOver, Leaves, NetSeen}
use Rattle.bec_node.proofs.Ends.{of_store, printing_only, source_ends, store_ends}
use Rattle.bec_node.proofs.Faults.{as_outcome, ended_store, ended_stream, refusal_store, refusal_stream, same_refusal, source_or_sink, source_rose, store_rose}
use Rattle.bec_node.proofs.Home.{IsSeen, same_home}
use Rattle.bec_node.proofs.Worlds.{demo_store, demo_stream, world_store, world_stream}

-- ---- what is told

told_store : (old new : ℕ) (held held_new : Option (List ℕ)) (told : Told) (status : ℕ) → EndsTold old new held held_new told status → status ≡ STORE_FAULT → told_status told ≡ STORE_FAULT
told_store old new held held_new (Ok reply) status (inl whole) e = sym whole.0 ∙ e
told_store old new held held_new (Ok reply) status (inr front) e = absurd (let own = front.0 in omega (arith, e, own))
told_store old new held held_new (Err refusal) status ends e = ap status_of (ended_store old new held held_new (Err refusal) status ends e)

told_stream : (old new : ℕ) (held held_new : Option (List ℕ)) (told : Told) (status : ℕ) → EndsTold old new held held_new told status → status ≡ STREAM_FAULT
    → (told_status told ≡ STREAM_FAULT) ⊎ Rose old new
told_stream old new held held_new (Ok reply) status (inl whole) e = inl (sym whole.0 ∙ e)
told_stream old new held held_new (Ok reply) status (inr front) e = inr front.1
told_stream old new held held_new (Err refusal) status ends e = source_or_sink (ap status_of) (ended_stream old new held held_new (Err refusal) status ends e)

dials_out : (net net_new : NetState) → Dials net net_new → net_new.out ≡ net.out
dials_out net net_new (not_asked same) = ap (λ (n : NetState). n.out) same
dials_out net net_new (none_handed none) = none.out
dials_out net net_new (handed left held held' over) = over.out

-- ---- seals

abbrev as_seal : SealRefusal → OutcomeOf SealRefusal
as_seal why = Err why

abbrev why_in : SealRefusal → OutcomeOf SealRefusal → SealRefusal
why_in other (Ok text) = other
why_in other (Err why) = why

seal_store : (why : SealRefusal) → from_seal why ≡ refusals.StoreFault → why ≡ seals.Store
seal_store seals.Store e = refl
seal_store other e = absurd cc

seal_stream : (why : SealRefusal) → from_seal why ≡ refusals.Stream → why ≡ seals.Stream
seal_stream seals.Stream e = refl
seal_stream other e = absurd cc

same_seal : (a b : SealRefusal) → as_seal a ≡ as_seal b → a ≡ b
same_seal a b e = ap (why_in a) e

own_store : (own : OutcomeOf SealRefusal) → told_as own ≡ as_outcome refusals.StoreFault → own ≡ Err seals.Store
own_store (Ok text) e = absurd cc
own_store (Err why) e = ap as_seal (seal_store why (same_refusal (from_seal why) refusals.StoreFault e))

own_stream : (own : OutcomeOf SealRefusal) → told_as own ≡ as_outcome refusals.Stream → own ≡ Err seals.Stream
own_stream (Ok text) e = absurd cc
own_stream (Err why) e = ap as_seal (seal_stream why (same_refusal (from_seal why) refusals.Stream e))

-- no fault of a key is one of a stream
no_stream : (fault : HssFault) (n : ℕ) → refusal_of fault n ≡ seals.Stream → ⊥
no_stream hss.Disk n e = cc
no_stream hss.KeyThere n e = cc
no_stream hss.NoKey n e = cc
no_stream hss.BadKey n e = cc
no_stream hss.Spent n e = cc
no_stream hss.Memory n e = cc

-- what is printed is no fault of a stream, nor is want of memory
printed_no_stream : (outcome : OutcomeOf SealRefusal) (text : List ℕ) → Prints outcome text ⊎ (outcome ≡ Err seals.Memory) → outcome ≡ Err seals.Stream → ⊥
printed_no_stream outcome text (inl prints) e = subst (λ (o : OutcomeOf SealRefusal). Prints o text) e prints
printed_no_stream outcome text (inr memory) e = let other = same_seal seals.Memory seals.Stream (sym memory ∙ e) in cc

drawn_no_stream : (lms : LmsType) (ots : OtsType) (random rest : Stream) (dir : List ℕ) (before after : ShelfState) (outcome : OutcomeOf SealRefusal)
    → HsskeyRun lms ots random rest dir before after outcome → outcome ≡ Err seals.Stream → ⊥
drawn_no_stream lms ots random rest dir before after outcome (undrawn why cause is draws left) e = no_stream why _ (same_seal _ seals.Stream (sym is ∙ e))
drawn_no_stream lms ots random rest dir before after outcome (drawn key mid creates closes draws printed) e = printed_no_stream outcome _ printed e

message_no_stream : (key : HssState) (before : ShelfState) (random rest : Stream) (msg : List ℕ) (outcome : OutcomeOf SealRefusal) (signed : HssState) (after : ShelfState)
    → SealsMessage key before random rest msg outcome signed after → outcome ≡ Err seals.Stream → ⊥
message_no_stream key before random rest msg outcome signed after (unsealed why refuses is) e = no_stream why _ (same_seal _ seals.Stream (sym is ∙ e))
message_no_stream key before random rest msg outcome signed after (sealed text signs by printed) e = printed_no_stream outcome _ printed e

input_rose : (key : HssState) (before : ShelfState) (random rest : Stream) (left later : Option (List ℕ)) (old new : ℕ) (outcome : OutcomeOf SealRefusal) (signed : HssState) (after : ShelfState)
    → SealsInput key before random rest left later old new outcome signed after → outcome ≡ Err seals.Stream → Rose old new
input_rose key before random rest left later old new outcome signed after (unread why fault is same kept stays) e = by fault (same_seal why seals.Stream (sym is ∙ e))
  where
    by : IsInputFault old new why → why ≡ seals.Stream → Rose old new
    by (inl memory) stream = absurd (let other : seals.Memory ≡ seals.Stream = sym memory ∙ stream in cc)
    by (inr failed) stream = failed.1
input_rose key before random rest left later old new outcome signed after (too_long long is same kept stays) e = absurd (let other = same_seal seals.InputTooLong seals.Stream (sym is ∙ e) in cc)
input_rose key before random rest left later old new outcome signed after (read_whole msg whole few spent message) e = absurd (message_no_stream key before random rest msg outcome signed after message e)

sealed_rose : (dir : List ℕ) (before after : ShelfState) (random rest : Stream) (left later : Option (List ℕ)) (old new : ℕ) (outcome : OutcomeOf SealRefusal)
    → SealRun dir before after random rest left later old new outcome → outcome ≡ Err seals.Stream → Rose old new
sealed_rose dir before after random rest left later old new outcome (unopened why cause reads same stays is) e = absurd (no_stream why 0 (same_seal (refusal_of why 0) seals.Stream (sym is ∙ e)))
sealed_rose dir before after random rest left later old new outcome (opened key signed mid done opens sound input keeps closes) e = input_rose key mid random rest left later old new outcome signed done input e

-- ---- commands over the source alone, and over a store that is only read

abbrev IsOfUnsealing : Refusal → Type 0
IsOfUnsealing refusal = (refusal ≡ refusals.BadSeal) ⊎ (refusal ≡ refusals.InputTooLong)

unseal_own : (key sig : List ℕ) (before after : Option (List ℕ)) (refusal : Refusal) → UnsealAnswer from_seal key sig before after (Err refusal) → IsOfUnsealing refusal ⊎ (refusal ≡ refusals.Memory)
unseal_own key sig before after refusal (good msg whole fits by_key prints) = absurd prints
unseal_own key sig before after refusal (bad msg whole fits none is) = inl (inl (same_refusal refusal refusals.BadSeal is))
unseal_own key sig before after refusal (long_input long is) = inl (inr (same_refusal refusal refusals.InputTooLong is))

no_unsealing : (refusal : Refusal) → (refusal ≡ refusals.StoreFault) ⊎ (refusal ≡ refusals.Stream) → IsOfUnsealing refusal → ⊥
no_unsealing refusal (inl store) (inl is) = let other : refusals.StoreFault ≡ refusals.BadSeal = sym store ∙ is in cc
no_unsealing refusal (inl store) (inr is) = let other : refusals.StoreFault ≡ refusals.InputTooLong = sym store ∙ is in cc
no_unsealing refusal (inr stream) (inl is) = let other : refusals.Stream ≡ refusals.BadSeal = sym stream ∙ is in cc
no_unsealing refusal (inr stream) (inr is) = let other : refusals.Stream ≡ refusals.InputTooLong = sym stream ∙ is in cc

abbrev IsOfCertificate : Refusal → Type 0
IsOfCertificate refusal = refusal ≡ refusals.NotDoubled

confirm_own : (before after : Option (List ℕ)) (refusal : Refusal) → ConfirmAnswer before after (Err refusal) → IsOfCertificate refusal ⊎ (refusal ≡ refusals.Memory)
confirm_own before after refusal (confirmed input key index whole doubled prints) = absurd prints
confirm_own before after refusal (not_confirmed input whole none is) = inl (same_refusal refusal refusals.NotDoubled is)

-- what stands outside as it is left, where the outcome is told
module _ {S H R : Type 0} (before after : Outside S H R) (sink sink_new : SinkState) (status : ℕ) where
  -- the faults that are told, with their causes
  abbrev Blames : Type 0
  Blames = (status ≡ STORE_FAULT → Rose before.shelf_faults after.shelf_faults) × (status ≡ STREAM_FAULT → Rose before.source_faults after.source_faults ⊎ Rose sink.faults sink_new.faults)

  by_own : (Own : Refusal → Type 0) → (Own refusals.StoreFault → ⊥) → (Own refusals.Stream → ⊥) → (outcome : Outcome) → EndsOf Own before after outcome
      → Ends sink.faults sink_new.faults sink.held sink_new.held outcome status → Blames
  by_own Own no_store no_stream outcome ends said = (
    λ e. store_rose before after Own no_store outcome ends (ended_store sink.faults sink_new.faults sink.held sink_new.held outcome status said e),
    λ e. source_or_sink (source_rose before after Own no_stream outcome ends) (ended_stream sink.faults sink_new.faults sink.held sink_new.held outcome status said e),
  )

  seals_blame : (Comes : OutcomeOf SealRefusal → Type 0) → ((own : OutcomeOf SealRefusal) → Comes own → own ≡ Err seals.Stream → Rose before.source_faults after.source_faults) → (outcome : Outcome)
      → TellsSeals Comes before.store after.store before.shelf_faults after.shelf_faults outcome → Ends sink.faults sink_new.faults sink.held sink_new.held outcome status → Blames
  seals_blame Comes rose outcome tells said = (
    λ e. tells.failed (own_store tells.own (sym tells.told ∙ ended_store sink.faults sink_new.faults sink.held sink_new.held outcome status said e)),
    λ e. source_or_sink (λ is. rose tells.own tells.comes (own_stream tells.own (sym tells.told ∙ is))) (ended_stream sink.faults sink_new.faults sink.held sink_new.held outcome status said e),
  )

  seal_blames : (request : SealText) (outcome : Outcome) → SealComes request before after outcome → Ends sink.faults sink_new.faults sink.held sink_new.held outcome status → Blames
  seal_blames (hsskey dir height width) outcome comes said =
      seals_blame _ (λ own run e. absurd (drawn_no_stream height width before.stream after.stream dir before.store after.store own run e)) outcome comes.draws said
  seal_blames (seal dir) outcome comes said =
      seals_blame _ (λ own run e. sealed_rose dir before.store after.store before.stream after.stream before.left after.left before.source_faults after.source_faults own run e) outcome comes said
  seal_blames (unseal key signature) outcome comes said =
      by_own IsOfUnsealing (no_unsealing refusals.StoreFault (inl refl)) (no_unsealing refusals.Stream (inr refl)) outcome
      (source_ends before after IsOfUnsealing (UnsealAnswer from_seal key signature) (unseal_own key signature before.left after.left) outcome comes) said

  audit_blames : (request : AuditText) (outcome : Outcome) → AuditComes request before after outcome → Ends sink.faults sink_new.faults sink.held sink_new.held outcome status → Blames
  audit_blames (audit dir) outcome comes said =
      by_own IsOfStore (λ is. is) (λ is. is) outcome (store_ends before after IsOfStore (Printing ShowsDoubled) (λ refusal. ⊥) (printing_only ShowsDoubled) (of_store before after) dir outcome comes) said
  audit_blames confirm outcome comes said =
      by_own IsOfCertificate (λ is. cc) (λ is. cc) outcome (source_ends before after IsOfCertificate ConfirmAnswer (confirm_own before.left after.left) outcome comes) said

  seal_home : (IsTrue before.store.tells → IsHome before.store) → IsSeen before after → (request : SealText) (outcome : Outcome) → SealComes request before after outcome
      → IsTrue before.store.tells → IsHome after.store
  seal_home home seen (hsskey dir height width) outcome comes = comes.draws.home
  seal_home home seen (seal dir) outcome comes = comes.home
  seal_home home seen (unseal key signature) outcome comes = same_home before after home seen comes.shelf

  audit_home : (IsTrue before.store.tells → IsHome before.store) → IsSeen before after → (request : AuditText) (outcome : Outcome) → AuditComes request before after outcome
      → IsTrue before.store.tells → IsHome after.store
  audit_home home seen (audit dir) outcome comes = comes.runs.runs.home
  audit_home home seen confirm outcome comes = same_home before after home seen comes.shelf

-- ---- a watch

watched_store : (old new : SinkState) (text : List ℕ) (store store_new source source_new : ℕ) (stop : Option Stop) (status : ℕ) → HasCause store store_new source source_new stop → Says old new text stop status
    → status ≡ STORE_FAULT → Rose store store_new
watched_store old new text store store_new source source_new None status cause said e = absurd (let own = said.0 in omega (arith, e, own))
watched_store old new text store store_new source source_new (Some Unwritten) status cause said e = absurd (let own = said.0 in omega (arith, e, own))
watched_store old new text store store_new source source_new (Some (Refused refusal)) status cause (inl (inl whole)) e =
    subst (λ (r : Refusal). HasCause store store_new source source_new (Some (Refused r))) (refusal_store refusal (sym whole.0 ∙ e)) cause
watched_store old new text store store_new source source_new (Some (Refused refusal)) status cause (inl (inr front)) e = absurd (let own = front.0 in omega (arith, e, own))
watched_store old new text store store_new source source_new (Some (Refused refusal)) status cause (inr lacked) e = absurd (let own = lacked.1 in omega (arith, e, own))

watched_stream : (old new : SinkState) (text : List ℕ) (store store_new source source_new : ℕ) (stop : Option Stop) (status : ℕ) → HasCause store store_new source source_new stop → Says old new text stop status
    → status ≡ STREAM_FAULT → Rose source source_new ⊎ Rose old.faults new.faults
watched_stream old new text store store_new source source_new None status cause said e = absurd (let own = said.0 in omega (arith, e, own))
watched_stream old new text store store_new source source_new (Some Unwritten) status cause said e = inr said.1.0
watched_stream old new text store store_new source source_new (Some (Refused refusal)) status cause (inl (inl whole)) e =
    inl (subst (λ (r : Refusal). HasCause store store_new source source_new (Some (Refused r))) (refusal_stream refusal (sym whole.0 ∙ e)) cause)
watched_stream old new text store store_new source source_new (Some (Refused refusal)) status cause (inl (inr front)) e = inr front.1
watched_stream old new text store store_new source source_new (Some (Refused refusal)) status cause (inr lacked) e = absurd (let own = lacked.1 in omega (arith, e, own))

-- ---- requests of families without a net

module _ {S H R : Type 0} (before after : Outside S H R) (sink sink_new : SinkState) (status : ℕ) where
  view_blames : (request : WatchText) → ViewComes request before after sink sink_new status → Blames before after sink sink_new status
  view_blames (watch dir text every) comes = (
    watched_store sink sink_new comes.watches.text before.shelf_faults after.shelf_faults before.source_faults after.source_faults comes.watches.stop status comes.watches.cause comes.watches.said,
    watched_stream sink sink_new comes.watches.text before.shelf_faults after.shelf_faults before.source_faults after.source_faults comes.watches.stop status comes.watches.cause comes.watches.said,
  )

  view_home : (request : WatchText) → ViewComes request before after sink sink_new status → IsTrue before.store.tells → IsHome after.store
  view_home (watch dir text every) comes = comes.watches.home

  world_blames : (request : WorldText) → WorldComes request before after sink sink_new status → Blames before after sink sink_new status
  world_blames (world audited) comes = (λ e. absurd (world_store sink sink_new status audited _ _ comes.tells e), world_stream sink sink_new status audited _ _ comes.tells)
  world_blames (demo number count) comes = (λ e. absurd (demo_store sink sink_new status number count comes.tells.0 e), demo_stream sink sink_new status number count comes.tells.0)

  beside_blames : {request : BesideText} → DoesBeside before after sink sink_new status request → Blames before after sink sink_new status
  beside_blames (over_seals request answered) = seal_blames before after sink sink_new status request answered.outcome answered.comes answered.said
  beside_blames (of_keys request answered) = audit_blames before after sink sink_new status request answered.outcome answered.comes answered.said
  beside_blames (over_views request comes) = view_blames request comes
  beside_blames (over_worlds request comes) = world_blames request comes

  beside_home : (IsTrue before.store.tells → IsHome before.store) → IsSeen before after → {request : BesideText} → DoesBeside before after sink sink_new status request
      → IsTrue before.store.tells → IsHome after.store
  beside_home home seen (over_seals request answered) = seal_home before after sink sink_new status home seen request answered.outcome answered.comes
  beside_home home seen (of_keys request answered) = audit_home before after sink sink_new status home seen request answered.outcome answered.comes
  beside_home home seen (over_views request comes) = view_home request comes
  beside_home home seen (over_worlds request comes) = same_home before after home seen comes.shelf

  pub runs_asked : (words : List (String Global)) → (IsTrue before.store.tells → IsHome before.store) → IsSeen before after → (request : BesideText) → IsBesideCommand request words
      → DoesBeside before after sink sink_new status request → RunsBeside words before after sink sink_new status
  runs_asked words home seen request asks comes =
      let blames = beside_blames comes in
      record { does = asked request asks comes; store_fault = blames.0; stream_fault = blames.1; home = beside_home home seen comes }

-- ---- requests of a net

-- a stream fault of the source or the sink
pub beside_net : {A B C : Type 0} → A ⊎ C → A ⊎ (B ⊎ C)
beside_net (inl a) = inl a
beside_net (inr c) = inr (inr c)

module _ {S H R N : Type 0} (before after : Outside S H R) (net net_new : NetSeen N) (sink sink_new : SinkState) (status : ℕ) where
  pub net_leaves : (request : NetText) (told : Told)
      → DoesOver request before.store after.store net.state net_new.state before.shelf_faults after.shelf_faults net.faults net_new.faults told
      → EndsTold sink.faults sink_new.faults sink.held sink_new.held told status → Leaves before after net net_new sink sink_new status
  net_leaves (sync dir address) told does said = record {
    links = dials_out net.state net_new.state does.dials;
    store_fault = λ e. does.store_fault (told_store sink.faults sink_new.faults sink.held sink_new.held told status said e);
    stream_fault = λ e. inr (source_or_sink does.stream_fault (told_stream sink.faults sink_new.faults sink.held sink_new.held told status said e));
  }
  net_leaves (serve dir address sessions) told does said = record {
    links = does.out;
    store_fault = λ e. does.store_fault (told_store sink.faults sink_new.faults sink.held sink_new.held told status said e);
    stream_fault = λ e. inr (source_or_sink does.stream_fault (told_stream sink.faults sink_new.faults sink.held sink_new.held told status said e));
  }

  pub net_home : (request : NetText) (told : Told)
      → DoesOver request before.store after.store net.state net_new.state before.shelf_faults after.shelf_faults net.faults net_new.faults told → IsTrue before.store.tells → IsHome after.store
  net_home (sync dir address) told does = does.home
  net_home (serve dir address sessions) told does = does.home
