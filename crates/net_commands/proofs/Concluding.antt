-- What is left after a session, and what is told of it.
use Rattle.std.proofs.Common.{◌≡◌, ◌⊎◌, inl, inr, ℕ, ◌<◌, ◌==◌, true, List, Result, Ok, Err, refl, sym, subst, ◌∙◌}
use Rattle.std.specs.Prelude.{IfErr, OnOk}
use Rattle.std.proofs.lemmas.Bool.{true≢false}
use Rattle.bec_bytes.specs.Causes.{Rose}
use Rattle.bec_disk.specs.Shelf.{ShelfState}
use Rattle.peer_memory.specs.declared.peer.Peer.{Peer as PeerEntry}
use Rattle.replica.specs.Replicas.{ReplicaState}
use Rattle.session_server.specs.declared.ending.Ending.{Ending}
use Rattle.session_server.specs.declared.ending.Ending.TheVariants as endings
use Rattle.session_server.specs.declared.served.Served.{Served}
use Rattle.outcomes.specs.declared.refusal.Refusal.{Refusal}
use Rattle.outcomes.specs.declared.refusal.Refusal.TheVariants as refusals
use Rattle.schema_verdict.specs.declared.status.TheConstants.{DONE, STORE_FAULT, STREAM_FAULT}
use Rattle.outcomes.specs.declared.reply.Reply.{Reply}
use Rattle.net_commands.specs.Meetings.{not_kept, kept as kept_as}
use Rattle.net_commands.specs.Open.{AreKept, Concludes, IsKeepFault, Keeps}
use Rattle.net_commands.specs.Words.{exit_status, sync_text}

-- ---- what is told

done_by : (ending : Ending) → (exit_status ending == DONE) ≡ true → ending ≡ endings.Done
done_by endings.Done is = refl
done_by (endings.Peer fault) is = absurd (cc (is))
done_by endings.Cut is = absurd (cc (is))
done_by endings.Full is = absurd (cc (is))
done_by endings.Broken is = absurd (cc (is))
done_by endings.Store is = absurd (cc (is))
done_by endings.Memory is = absurd (cc (is))

store_by : (ending : Ending) → exit_status ending ≡ STORE_FAULT → ending ≡ endings.Store
store_by endings.Done is = absurd (cc (is))
store_by (endings.Peer fault) is = absurd (cc (is))
store_by endings.Cut is = absurd (cc (is))
store_by endings.Full is = absurd (cc (is))
store_by endings.Broken is = absurd (cc (is))
store_by endings.Store is = refl
store_by endings.Memory is = absurd (cc (is))

stream_by : (ending : Ending) → exit_status ending ≡ STREAM_FAULT → ending ≡ endings.Broken
stream_by endings.Done is = absurd (cc (is))
stream_by (endings.Peer fault) is = absurd (cc (is))
stream_by endings.Cut is = absurd (cc (is))
stream_by endings.Full is = absurd (cc (is))
stream_by endings.Broken is = refl
stream_by endings.Store is = absurd (cc (is))
stream_by endings.Memory is = absurd (cc (is))

module _ (dir : List ℕ) (before after : ShelfState) (faults faults_new : ℕ) (old now : ReplicaState) (peers : List PeerEntry) (name : List ℕ) (served : Served) {T : Type 0} where
  -- it was not kept
  pub concludes_not : (refusal : Refusal) (result : Result T Refusal) → result ≡ Err refusal → Keeps dir before after faults faults_new old now peers name served result → Concludes dir before after faults faults_new old now peers name served (Err refusal)
  concludes_not refusal result is kept = by (subst (λ (r : Result T Refusal). IfErr r (IsKeepFault faults faults_new now served)) is kept.failed)
    where
      with_memory : Concludes dir before after faults faults_new old now peers name served (Err refusals.Memory)
      with_memory = record {
        grows = kept.grows;
        clean = λ is. absurd (true≢false (sym is));
        keeps = kept.keeps;
        comes = inr refl;
        later = kept.later;
        log_later = kept.log_later;
        store_fault = λ is. absurd (cc (is));
        stream_fault = λ is. absurd (cc (is));
      }

      with_fault : served.ending ≡ endings.Done → (Rose faults faults_new ⊎ (0 < now.log.faults)) → Concludes dir before after faults faults_new old now peers name served (Err refusals.StoreFault)
      with_fault done rose = record {
        grows = kept.grows;
        clean = λ is. absurd (true≢false (sym is));
        keeps = kept.keeps;
        comes = inl (not_kept done refl);
        later = kept.later;
        log_later = kept.log_later;
        store_fault = λ is. inr rose;
        stream_fault = λ is. absurd (cc (is));
      }

      by : IsKeepFault faults faults_new now served refusal → Concludes dir before after faults faults_new old now peers name served (Err refusal)
      by (inl memory) = subst (λ (r : Refusal). Concludes dir before after faults faults_new old now peers name served (Err r)) (sym memory) with_memory
      by (inr (fault, done, rose)) = subst (λ (r : Refusal). Concludes dir before after faults faults_new old now peers name served (Err r)) (sym fault) (with_fault done rose)

  module _ (done : T) (result : Result T Refusal) (is_done : result ≡ Ok done) (kept : Keeps dir before after faults faults_new old now peers name served result) where
    are_kept : AreKept dir before after now peers name served
    are_kept = subst (λ (r : Result T Refusal). OnOk r (AreKept dir before after now peers name served)) is_done kept.kept

    -- there was no memory for the text
    pub concludes_without : Concludes dir before after faults faults_new old now peers name served (Err refusals.Memory)
    concludes_without = record {
      grows = kept.grows;
      clean = λ is. absurd (true≢false (sym is));
      keeps = kept.keeps;
      comes = inr refl;
      later = kept.later;
      log_later = kept.log_later;
      store_fault = λ is. absurd (cc (is));
      stream_fault = λ is. absurd (cc (is));
    }

    -- it is told how the session ended
    pub concludes_with : (reply : Reply) → reply.text.items ≡ sync_text served → reply.status ≡ exit_status served.ending → Concludes dir before after faults faults_new old now peers name served (Ok reply)
    concludes_with reply text status = record {
      grows = kept.grows;
      clean = λ is. are_kept.clean (done_by served.ending (subst (λ (n : ℕ). (n == DONE) ≡ true) status is));
      keeps = kept.keeps;
      comes = inl (kept_as (record { reply = reply; is = refl; text_is = text; status_is = status }) are_kept.remembers are_kept.forgets);
      later = kept.later;
      log_later = kept.log_later;
      store_fault = λ is. inl (store_by served.ending (sym status ∙ is));
      stream_fault = λ is. stream_by served.ending (sym status ∙ is);
    }
