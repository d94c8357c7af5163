-- A session with the node at an address.
use Rattle.std.proofs.Common.{◌≡◌, inl, inr, ℕ, ◌-◌, ◌<◌, List, Option, Some, Result, Ok, Err, refl, sym, ap, subst, ◌∙◌, arith}
use Rattle.std.specs.Prelude.{OnErr}
use mathlib.Core.List.{IsPrefix}
use Rattle.bec_bytes.specs.Causes.{Rose, one_more}
use Rattle.bec_links.specs.Nets.{HandsOut, IsFirst, NetState, after_try, taken_back, with_held}
use Rattle.update_model.specs.Rule.{RuleData}
use Rattle.session_rules.specs.declared.role.Role.{Role}
use Rattle.session_rules.specs.declared.role.Role.TheVariants.{Initiator}
use Rattle.peer_memory.specs.declared.peer.Peer.{Peer as PeerEntry}
use Rattle.replica.specs.Replicas.{ReplicaState}
use Rattle.turn_lock.specs.Seats.{Known}
use Rattle.shared_replica.specs.declared.entry.Entry.{Entry}
use Rattle.shared_replica.specs.Entries.{IsStoreOf}
use Rattle.shared_replica.proofs.Going.{updates_stay}
use Rattle.session_server.specs.declared.served.Served.{Served}
use Rattle.session_server.specs.Serving.{Ran}
use Rattle.session_server.specs.Sessions.{IsSession}
use Rattle.outcomes.specs.declared.refusal.Refusal.TheVariants as refusals
use Rattle.net_commands.specs.Meetings.{HandsLink, HandsNone, handed}
use Rattle.net_commands.specs.Open.{MeetsOpen, held, no_memory, not_dialled, opening_list}
use Rattle.net_commands.proofs.Sharing.{broken_rose, grown, grows_none, met_counted, store_met}

-- ---- the net

failed : {T E X : Type 0} (result : Result T E) (fault : E) → result ≡ Err fault → OnErr result X → X
failed {T} {E} {X} result fault is x = subst (λ (r : Result T E). OnErr r X) is x

hands_none : {T E : Type 0} (result : Result T E) (fault : E) (net new : NetState) → result ≡ Err fault → new ≡ after_try result net → HandsNone net new
hands_none result fault net new is after =
    let e = after ∙ ap (λ r. after_try r net) is in
    record {
      coming = ap (λ (n : NetState). n.coming) e;
      given = ap (λ (n : NetState). n.given) e;
      out = ap (λ (n : NetState). n.out) e;
      failed = let f : new.failed ≡ one_more net.failed = ap (λ (n : NetState). n.failed) e in omega (arith, f);
    }

hands_over : (before mid after : NetState) (left put put_on : Option (List ℕ)) → HandsOut before left put mid → after ≡ taken_back mid put_on → HandsLink before left put put_on after
hands_over before mid after left put put_on out back = record {
  first = subst (λ (n : NetState). IsFirst before.coming left put n.coming) (sym back) out.first;
  given = ap (λ (n : NetState). n.given) back ∙ ap (λ (given : Option (List (List ℕ))). with_held given put_on) out.given;
  out = let b : after.out ≡ mid.out - 1 = ap (λ (n : NetState). n.out) back in let o = out.out in omega (arith, b, o);
  failed = ap (λ (n : NetState). n.failed) back ∙ out.failed;
}

-- ---- what meeting comes to

-- there was no memory to share the replica
pub meets_none : (peers : List PeerEntry) (name : List ℕ) (net mid net_new : NetState) (net_faults net_faults_new : ℕ) (left put : Option (List ℕ)) (old now : ReplicaState)
    → HandsOut net left put mid → net_new ≡ taken_back mid put → now ≡ old → MeetsOpen peers name net net_new net_faults net_faults_new old now (Err refusals.Memory)
meets_none peers name net mid net_new net_faults net_faults_new left put old now out back is =
    subst (λ (r : ReplicaState). MeetsOpen peers name net net_new net_faults net_faults_new old r (Err refusals.Memory)) (sym is)
    (record { grows = grows_none old; comes = no_memory (handed left put put (hands_over net mid net_new left put put out back)) refl refl })

-- no link was handed out
pub meets_nobody : {T E : Type 0} (result : Result T E) (fault : E) (peers : List PeerEntry) (name : List ℕ) (net net_new : NetState) (net_faults net_faults_new : ℕ) (old : ReplicaState)
    → result ≡ Err fault → OnErr result (net_new ≡ after_try result net) → OnErr result (Rose net_faults net_faults_new)
    → MeetsOpen peers name net net_new net_faults net_faults_new old old (Err refusals.Stream)
meets_nobody result fault peers name net net_new net_faults net_faults_new old is after rose = record {
  grows = grows_none old;
  comes = not_dialled (hands_none result fault net net_new is (failed result fault is after)) (failed result fault is rose) refl refl;
}

session_seen : (rule : RuleData) (role : Role) (peers : List PeerEntry) (name : Option (List ℕ)) (before after : Known Entry) (left left' put put' : Option (List ℕ)) (faults faults' : ℕ) (served : Served)
    → IsSession rule role peers name before after left left' put put' faults faults' served → IsPrefix before.seen after.seen
session_seen rule role peers name before after left left' put put' faults faults' served (inl runs) = runs.seen
session_seen rule role peers name before after left left' put put' faults faults' served (inr never) = never.seen

-- a session was held
pub meets_somebody : (rule : RuleData) (peers : List PeerEntry) (name given : List ℕ) (net mid net_new : NetState) (net_faults mid_faults net_faults_new : ℕ) (old now : ReplicaState) (ran : Ran) (last : List Entry)
    → rule ≡ old.history.schema.rule → given ≡ name → ran.before.seen ≡ opening_list old
    → IsSession rule Initiator peers (Some given) ran.before ran.after ran.left ran.left' ran.held ran.held' ran.faults ran.faults' ran.served
    → HandsOut net ran.left ran.held mid → net_new ≡ taken_back mid ran.held' → ran.faults ≡ 0 → mid_faults ≡ net_faults → (0 < ran.faults' → net_faults_new ≡ one_more mid_faults)
    → IsPrefix ran.after.seen last → IsStoreOf last now → MeetsOpen peers name net net_new net_faults net_faults_new old now (Ok ran.served)
meets_somebody rule peers name given net mid net_new net_faults mid_faults net_faults_new old now ran last ruled named opened session_of out back clean same faulted begins store =
    let session : IsSession rule Initiator peers (Some name) ran.before ran.after ran.left ran.left' ran.held ran.held' ran.faults ran.faults' ran.served =
    subst (λ (n : List ℕ). IsSession rule Initiator peers (Some n) ran.before ran.after ran.left ran.left' ran.held ran.held' ran.faults ran.faults' ran.served) named session_of in
    let seen = session_seen rule Initiator peers (Some name) ran.before ran.after ran.left ran.left' ran.held ran.held' ran.faults ran.faults' ran.served session in
    record {
      grows = grown old now ran.before.seen ran.after.seen last opened seen begins store;
      comes = held ran refl (record {
        handed = hands_over net mid net_new ran.left ran.held ran.held' out back;
        opened = opened;
        seen = seen;
        within = updates_stay ran.after.seen last now begins store;
        session = subst (λ (r : RuleData). IsSession r Initiator peers (Some name) ran.before ran.after ran.left ran.left' ran.held ran.held' ran.faults ran.faults' ran.served) ruled session;
        broken = λ is.
            let rose = broken_rose rule Initiator peers (Some name) ran.before ran.after ran.left ran.left' ran.held ran.held' ran.faults ran.faults' ran.served session is in
            let more = faulted (omega (arith, rose, clean)) in
            omega (arith, more, same);
        stored = λ is. met_counted ran.before ran.after last now
            (store_met rule Initiator peers (Some name) ran.before ran.after ran.left ran.left' ran.held ran.held' ran.faults ran.faults' ran.served session is) begins store;
      });
    }
