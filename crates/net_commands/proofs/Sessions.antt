-- What failed in the sessions that were served.
use Rattle.std.proofs.Common.{◌≡◌, ℕ, ◌<◌, ◌==◌, ◌||◌, Bool, true, false, List, [], ◌∷◌, map, None, Ok, Err, refl, sym, subst, arith}
use Rattle.std.specs.declared.alloc.AllocError.{AllocError}
use Rattle.std.specs.Prelude.{All}
use Rattle.std.proofs.lemmas.Bool.{true≢false}
use Rattle.std.proofs.lemmas.List.Elements.{All-head, All-rest}
use mathlib.Core.List.{IsPrefix}
use Rattle.bec_bytes.specs.Causes.{Rose}
use Rattle.bec_links.specs.Nets.{NetState}
use Rattle.update_model.specs.Rule.{RuleData}
use Rattle.session_rules.specs.declared.role.Role.TheVariants.{Responder}
use Rattle.peer_memory.specs.declared.peer.Peer.{Peer}
use Rattle.replica.specs.Replicas.{ReplicaState}
use Rattle.turn_lock.specs.Seats.{Known}
use Rattle.shared_replica.specs.declared.entry.Entry.{Entry}
use Rattle.shared_replica.specs.Entries.{IsStoreOf}
use Rattle.session_server.specs.declared.ending.Ending.{Ending}
use Rattle.session_server.specs.declared.ending.Ending.TheVariants.{Done, Peer as BadPeer, Cut, Full, Broken, Store, Memory}
use Rattle.session_server.specs.declared.served.Served.{Served}
use Rattle.session_server.specs.Serving.{IsResponse, IsTold, IsWithin, Ran, Serves, served_of}
use Rattle.shared_replica.proofs.Going.{updates_stay}
use Rattle.schema_verdict.specs.declared.status.TheConstants.{OUT_OF_MEMORY, STORE_FAULT, STREAM_FAULT}
use Rattle.net_commands.specs.declared.serving.Met.{Met}
use Rattle.store_directory.specs.Settling.{KeepsGrowing}
use Rattle.net_commands.specs.Open.{opening_list}
use Rattle.net_commands.specs.OpenServing.{HoldsSessions, ServesPeersOpen}
use Rattle.net_commands.specs.Words.{has_status, exit_status}
use Rattle.net_commands.proofs.Sharing.{broken_rose, grown, grows_none, met_counted, prefix_then, store_met}

is_broken : (ending : Ending) → (exit_status ending == STREAM_FAULT) ≡ true → ending ≡ Broken
is_broken Done is = absurd (cc (is))
is_broken (BadPeer fault) is = absurd (cc (is))
is_broken Cut is = absurd (cc (is))
is_broken Full is = absurd (cc (is))
is_broken Broken is = refl
is_broken Store is = absurd (cc (is))
is_broken Memory is = absurd (cc (is))

is_stored : (ending : Ending) → (exit_status ending == STORE_FAULT) ≡ true → ending ≡ Store
is_stored Done is = absurd (cc (is))
is_stored (BadPeer fault) is = absurd (cc (is))
is_stored Cut is = absurd (cc (is))
is_stored Full is = absurd (cc (is))
is_stored Broken is = absurd (cc (is))
is_stored Store is = refl
is_stored Memory is = absurd (cc (is))

module _ (rule : RuleData) (peers : List Peer) (first : Known Entry) where
  -- a link that broke made the net count a fault
  pub some_broke : (faults now : ℕ) (ran : List Ran) → All (IsTold faults now) ran → All (IsResponse rule peers first) ran → has_status STREAM_FAULT (map served_of ran) ≡ true → Rose faults now
  some_broke faults now [] told responses is = absurd (true≢false (sym is))
  some_broke faults now (r ∷ others) told responses is =
      by (exit_status r.served.ending == STREAM_FAULT) refl
      (some_broke faults now others (All-rest (IsTold faults now) r others (r ∷ others) refl told) (All-rest (IsResponse rule peers first) r others (r ∷ others) refl responses))
    where
      by : (b : Bool) → (exit_status r.served.ending == STREAM_FAULT) ≡ b → (has_status STREAM_FAULT (map served_of others) ≡ true → Rose faults now) → Rose faults now
      by true e later =
          let response = All-head (IsResponse rule peers first) r others responses in
          let rose = broken_rose rule Responder peers None r.before r.after r.left r.left' r.held r.held' r.faults r.faults' r.served response.run (is_broken r.served.ending e) in
          let clean = response.clean in
          All-head (IsTold faults now) r others told (omega (arith, rose, clean))
      by false e later = later (subst (λ (b : Bool). b || has_status STREAM_FAULT (map served_of others) ≡ true) e is)

  -- a disk that failed in a session is counted by the log
  pub some_stored : (last : Known Entry) (list : List Entry) (now : ReplicaState) (ran : List Ran) → IsPrefix last.seen list → IsStoreOf list now → All (IsWithin last) ran → All (IsResponse rule peers first) ran
      → has_status STORE_FAULT (map served_of ran) ≡ true → 0 < now.log.faults
  some_stored last list now [] begins store within responses is = absurd (true≢false (sym is))
  some_stored last list now (r ∷ others) begins store within responses is =
      by (exit_status r.served.ending == STORE_FAULT) refl
      (some_stored last list now others begins store (All-rest (IsWithin last) r others (r ∷ others) refl within) (All-rest (IsResponse rule peers first) r others (r ∷ others) refl responses))
    where
      by : (b : Bool) → (exit_status r.served.ending == STORE_FAULT) ≡ b → (has_status STORE_FAULT (map served_of others) ≡ true → 0 < now.log.faults) → 0 < now.log.faults
      by true e later =
          let response = All-head (IsResponse rule peers first) r others responses in
          let met = store_met rule Responder peers None r.before r.after r.left r.left' r.held r.held' r.faults r.faults' r.served response.run (is_stored r.served.ending e) in
          met_counted r.before r.after list now met (prefix_then r.after.seen last.seen list (All-head (IsWithin last) r others within) begins) store
      by false e later = later (subst (λ (b : Bool). b || has_status STORE_FAULT (map served_of others) ≡ true) e is)

-- ---- what serving came to

-- there was no memory to share the replica
pub serves_none_open : (peers : List Peer) (asked : ℕ) (net : NetState) (faults : ℕ) (old now : ReplicaState) (fault : AllocError) → now ≡ old → ServesPeersOpen peers asked net net faults faults old now (Err fault)
serves_none_open peers asked net faults old now fault is =
    subst (λ (r : ReplicaState). ServesPeersOpen peers asked net net faults faults old r (Err fault)) (sym is) (record { grows = grows_none old; out = refl; held = λ met e. absurd (cc (e)) })

module _ (rule : RuleData) (peers : List Peer) (asked : ℕ) (net net_new : NetState) (faults faults_new : ℕ) (old now : ReplicaState) (first last : Known Entry) (sessions : List Served) (net_failed memory : Bool) (list : List Entry)
    (serves : Serves rule peers asked first last net net_new faults faults_new sessions net_failed memory) (opened : first.seen ≡ opening_list old) (begins : IsPrefix last.seen list) (store : IsStoreOf list now) where
  grew : KeepsGrowing old now
  grew = grown old now first.seen last.seen list opened serves.seen begins store

  -- memory ran out
  pub serves_failed : (fault : AllocError) → ServesPeersOpen peers asked net net_new faults faults_new old now (Err fault)
  serves_failed fault = record { grows = grew; out = serves.out; held = λ met is. absurd (cc (is)) }

  holds : memory ≡ false → has_status OUT_OF_MEMORY sessions ≡ false → rule ≡ old.history.schema.rule → HoldsSessions peers asked net net_new faults faults_new old now (record { sessions = sessions; net_failed = net_failed })
  holds whole starved ruled = record {
    first = first;
    last = last;
    opened = opened;
    within = updates_stay last.seen list now begins store;
    serves = subst (λ (r : RuleData). Serves r peers asked first last net net_new faults faults_new sessions net_failed false) ruled
        (subst (λ (m : Bool). Serves rule peers asked first last net net_new faults faults_new sessions net_failed m) whole serves);
    starved = starved;
    broken = λ is. some_broke rule peers first faults faults_new serves.ran serves.told serves.responses (subst (λ (l : List Served). has_status STREAM_FAULT l ≡ true) (serves.counted whole) is);
    stored = λ is. some_stored rule peers first last list now serves.ran begins store (serves.within whole) serves.responses (subst (λ (l : List Served). has_status STORE_FAULT l ≡ true) (serves.counted whole) is);
  }

  -- the sessions were held
  pub serves_held : memory ≡ false → has_status OUT_OF_MEMORY sessions ≡ false → rule ≡ old.history.schema.rule → ServesPeersOpen peers asked net net_new faults faults_new old now (Ok (record { sessions = sessions; net_failed = net_failed }))
  serves_held whole starved ruled = record {
    grows = grew;
    out = serves.out;
    held = λ met is. let e : (record { sessions = sessions; net_failed = net_failed }) ≡ met = cc (is) in subst (λ (m : Met). HoldsSessions peers asked net net_new faults faults_new old now m) e (holds whole starved ruled);
  }
