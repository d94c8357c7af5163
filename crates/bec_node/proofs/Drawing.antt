-- Each answer of `hsskey` comes with its status.
use Rattle.std.proofs.Common.{◌≡◌, ◌⊎◌, inl, inr, ℕ, List, refl, sym, ap, subst, ◌∙◌, IsTrue, Option, Ok, Err}
use Rattle.bec_disk.specs.declared.gated.Gated.TheVariants.{Absent}
use Rattle.bec_disk.specs.declared.part.Part.TheVariants.{Key}
use Rattle.bec_disk.specs.Disk.{DiskState}
use Rattle.bec_disk.specs.Gated.{gated_of}
use Rattle.bec_disk.specs.Shelf.{PartState, ShelfState, absent, out, stands}
use Rattle.bec_disk.specs.Slot.{Slot, slot}
use Rattle.hss_directory.specs.Values.{HssState}
use Rattle.hss_directory.specs.declared.fault.HssFault.{HssFault}
use Rattle.hss_directory.specs.declared.fault.HssFault.TheVariants as hss
use Rattle.key_directory.specs.Keys.{IsNoKey, MakesKey}
use Rattle.key_directory.specs.Parts.{IsHanded, part_in, reading}
use Rattle.key_directory.proofs.Putting.{told}
use Rattle.lm_ots.specs.declared.ots_type.OtsType.{OtsType}
use Rattle.lms_tree.specs.SecretKey.{SecretData}
use Rattle.lms_tree.specs.declared.lms_type.LmsType.{LmsType}
use Rattle.outcomes.proofs.Only.{IsFaultStatus, IsSaidAs, each_fault, each_said, ended_as}
use Rattle.outcomes.specs.Only.{EachAs}
use Rattle.outcomes.specs.Outcome.{Ends, Outcome, status_of}
use Rattle.outcomes.specs.declared.refusal.Refusal.{Refusal}
use Rattle.outcomes.specs.declared.refusal.Refusal.TheVariants as refusals
use Rattle.rand_core.specs.Stream.{Stream}
use Rattle.schema_verdict.specs.declared.status.TheConstants.{DONE}
use Rattle.schema_verdict.specs.Verdict.{OutcomeOf, Prints}
use Rattle.schema_verdict.specs.Written.{SinkState}
use Rattle.seal_commands.specs.Sealing.{HsskeyAnswer, HsskeyRun, IsUndrawnCause, draws, drawn, hss_key_text, refusal_of, there, undrawn}
use Rattle.seal_commands.specs.declared.refusal.SealRefusal.{SealRefusal}
use Rattle.seal_commands.specs.declared.refusal.SealRefusal.TheVariants as seals
use Rattle.bec_node.specs.Families.{TellsSeals, from_seal, told_as}

-- a part that was handed out and absent is none
no_key_handed : (place : Slot) (old : PartState) (disk : DiskState) → IsHanded place old disk → gated_of disk.seen ≡ Absent → IsNoKey (reading old)
no_key_handed place absent disk is gone = tt
no_key_handed place out disk is gone = absurd is
no_key_handed place (stands part) disk is gone = subst (λ (d : DiskState). gated_of d.seen ≡ Absent) is gone

-- where a key was made there was none
none_there : (secret : SecretData) (dir : List ℕ) (before opened : ShelfState) (key : HssState) → MakesKey secret before dir key.top opened → IsTrue before.tells → IsNoKey (reading (part_in before dir Key))
none_there secret dir before opened key makes tells =
    let made = makes.created tells in
    let key_told : IsTrue made.0.key.tells = told before.tells made.0.key.tells (sym made.3.creating.any_moment.disk.tells ∙ makes.key_tells) tells in
    no_key_handed (slot dir Key) (part_in before dir Key) made.0.key made.1 (made.3.absent key_told)

module _ (height : LmsType) (width : OtsType) (random rest : Stream) (dir : List ℕ) (before after : ShelfState) (tells : IsTrue before.tells) where
  abbrev MayAnswer : Outcome → Type 0
  MayAnswer = HsskeyAnswer from_seal height width random (reading (part_in before dir Key))

  abbrev HasOneStatus : Outcome → Type 0
  HasOneStatus outcome = ((other : Outcome) → MayAnswer other → status_of outcome ≡ status_of other) ⊎ IsFaultStatus (status_of outcome)

  abbrev as_told : SealRefusal → Outcome
  as_told why = told_as (Err why)

  printed_status : (text : List ℕ) (outcome : Outcome) → Prints outcome text → status_of outcome ≡ DONE
  printed_status text (Ok shown) prints = refl
  printed_status text (Err refusal) prints = absurd prints

  key_there : (IsNoKey (reading (part_in before dir Key)) → ⊥) → (other : Outcome) → MayAnswer other → status_of (as_told seals.KeyThere) ≡ status_of other
  key_there full other (there is_full is) = ap status_of (sym is)
  key_there full other (draws none prints) = absurd (full none)

  key_drawn : (text : List ℕ) (outcome : Outcome) → IsNoKey (reading (part_in before dir Key)) → Prints outcome text → (other : Outcome) → MayAnswer other → status_of outcome ≡ status_of other
  key_drawn text outcome none prints other (there full is) = absurd (full none)
  key_drawn text outcome none prints other (draws is_none shown) = printed_status text outcome prints ∙ sym (printed_status _ other shown)

  undrawn_status : (why : HssFault) (n : ℕ) → IsUndrawnCause before dir why → HasOneStatus (as_told (refusal_of why n))
  undrawn_status hss.KeyThere n cause = inl (key_there (cause tells))
  undrawn_status hss.Disk n cause = inr (inl refl)
  undrawn_status hss.Memory n cause = inr (inr (inr refl))
  undrawn_status hss.NoKey n cause = absurd cause
  undrawn_status hss.BadKey n cause = absurd cause
  undrawn_status hss.Spent n cause = absurd cause

  told_prints : (text : List ℕ) (own : OutcomeOf SealRefusal) → Prints own text → Prints (told_as own) text
  told_prints text (Ok shown) prints = prints
  told_prints text (Err refusal) prints = absurd prints

  own_status : (own : OutcomeOf SealRefusal) → HsskeyRun height width random rest dir before after own → HasOneStatus (told_as own)
  own_status own (undrawn why cause is far left) = subst (λ (o : OutcomeOf SealRefusal). HasOneStatus (told_as o)) (sym is) (undrawn_status why _ cause)
  own_status own (drawn key mid creates closes far (inl prints)) =
      inl (key_drawn _ (told_as own) (none_there _ dir before mid key creates.makes tells) (told_prints _ own prints))
  own_status own (drawn key mid creates closes far (inr memory)) = subst (λ (o : OutcomeOf SealRefusal). HasOneStatus (told_as o)) (sym memory) (inr (inr (inr refl)))

  pub drawn_only : (sink sink_new : SinkState) (status old new : ℕ) (outcome : Outcome) → TellsSeals (HsskeyRun height width random rest dir before after) before after old new outcome
      → Ends sink.faults sink_new.faults sink.held sink_new.held outcome status → EachAs MayAnswer status
  drawn_only sink sink_new status old new outcome comes said = by (ended_as sink.faults sink_new.faults sink.held sink_new.held outcome status said)
    where
      by : IsSaidAs outcome status ⊎ IsFaultStatus status → EachAs MayAnswer status
      by (inl told) = each_said MayAnswer outcome status (subst HasOneStatus (sym comes.told) (own_status comes.own comes.comes)) told
      by (inr fault) = each_fault MayAnswer status fault
