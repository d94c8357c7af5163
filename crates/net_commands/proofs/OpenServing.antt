-- A store that is open while it serves others, and how it is put back.
use Rattle.std.proofs.Common.{◌≡◌, ◌⊎◌, inl, inr, ℕ, ◌<◌, ◌≤◌, Bool, true, false, List, [], refl, sym, ap, subst, ◌∙◌, IsTrue, Option, Ok, Err, Result, cond, ◌||◌, ◌==◌, arith}
use Rattle.std.specs.Prelude.{IfErr, OnOk}
use Rattle.std.proofs.lemmas.Bool.{true≢false}
use Rattle.row_check.specs.Checksum.{is_luhn}
use Rattle.bec_bytes.specs.Causes.{Rose}
use Rattle.bec_disk.specs.declared.part.Part.TheVariants.{Peers}
use Rattle.bec_disk.specs.Shelf.{ShelfState}
use Rattle.bec_disk.specs.Slot.{slot}
use Rattle.bec_links.specs.Nets.{NetState}
use Rattle.peer_memory.specs.declared.peer.Peer.{Peer as PeerEntry}
use Rattle.peer_memory.specs.Payload.{Reads}
use Rattle.replica.specs.Replicas.{ReplicaState}
use Rattle.key_index.specs.KeyState.{KeyState}
use Rattle.store_directory.specs.declared.open_refusal.OpenRefusal.{OpenRefusal}
use Rattle.store_directory.specs.declared.open_refusal.OpenRefusal.TheVariants as open_refusals
use Rattle.store_directory.specs.declared.opening.Needs.TheVariants as needed
use Rattle.store_directory.specs.declared.store_refusal.StoreRefusal.{StoreRefusal}
use Rattle.store_directory.specs.declared.store_refusal.StoreRefusal.TheVariants as store_refusals
use Rattle.store_directory.specs.Holding.{IsStoreCause, LetsGo, OpenData, PutsStore, TakesStore}
use Rattle.store_directory.specs.Opening.{Closes, LetsAllGo, Opens, Refuses}
use Rattle.key_directory.specs.Parts.{IsHome, KeepsAllBut}
use Rattle.store_directory.specs.Stores.{HoldsRun, StoreData}
use Rattle.key_directory.proofs.Putting.{told}
use Rattle.store_directory.proofs.OnceOpen.{no_store_taken, store_closed, store_opened}
use Rattle.store_directory.proofs.Readings.{OneSchema}
use Rattle.store_directory.proofs.Working.{held_run, holds_run, read_before, store_of}
use Rattle.outcomes.specs.declared.refusal.Refusal.{Refusal}
use Rattle.outcomes.specs.declared.refusal.Refusal.TheVariants as refusals
use Rattle.schema_verdict.specs.declared.status.TheConstants.{DONE, FULL, OUT_OF_MEMORY, PEER, STORE_FAULT, STREAM_FAULT}
use Rattle.outcomes.specs.Comes.{IsDiskRefusal, readings}
use Rattle.store_directory.specs.Remembering.{KeepsPeers, memory_in, touched}
use Rattle.outcomes.specs.OpenStores.{opened_store}
use Rattle.outcomes.specs.Outcome.{from_open, from_store}
use Rattle.store_directory.specs.Standing.{Stands}
use Rattle.outcomes.specs.StoreAnswers.{bad_store, no_store}
use Rattle.outcomes.proofs.Around.{closing_told, of_peers, of_store, opened_told, places_around, same_memory}
use Rattle.session_server.specs.declared.served.Served.{Served}
use Rattle.net_commands.specs.declared.serving.Met.{Met}
use Rattle.net_commands.specs.Meetings.{RemembersSessions, ServeAnswer, ServesStore, ServingOf, not_read as unread, not_served, not_taken, opened as of_open, served}
use Rattle.outcomes.specs.Told.{Told, told_done}
use Rattle.store_directory.specs.Settling.{KeepsGrowing}
use Rattle.net_commands.specs.OpenServing.{ConcludesAll, ConcludesAllAs, HasFailed, HoldsSessions, KeepsSessions, ServesOpen}
use Rattle.net_commands.specs.Words.{has_status, serve_status, serve_text}
use Rattle.outcomes.specs.declared.reply.Reply.{Reply}
use Rattle.update_log.specs.Log.{IsClean}
use Rattle.net_commands.proofs.Open.{keeps_peers_then, now_open}
use Rattle.net_commands.proofs.Sharing.{grows_none, grows_then, holds_grown, passes_by}

-- ---- statuses

-- where the status is that of a disk's fault, a session has it, or the disk failed outside
pub store_status : (sessions : List Served) (store_failed net_failed : Bool) → serve_status sessions store_failed net_failed ≡ STORE_FAULT → (store_failed ≡ true) ⊎ (has_status STORE_FAULT sessions ≡ true)
store_status sessions true net_failed is = inl refl
store_status sessions false net_failed is = by (has_status OUT_OF_MEMORY sessions) (has_status STORE_FAULT sessions) refl net_failed (has_status STREAM_FAULT sessions) (has_status FULL sessions)
    (has_status PEER sessions) is
  where
    by : (m a : Bool) → has_status STORE_FAULT sessions ≡ a → (n b c d : Bool)
        → cond m OUT_OF_MEMORY (cond a STORE_FAULT (cond (n || b) STREAM_FAULT (cond c FULL (cond d PEER DONE)))) ≡ STORE_FAULT → (false ≡ true) ⊎ (has_status STORE_FAULT sessions ≡ true)
    by true a e n b c d is = absurd (cc (is))
    by false true e n b c d is = inr e
    by false false e true b c d is = absurd (cc (is))
    by false false e false true c d is = absurd (cc (is))
    by false false e false false true d is = absurd (cc (is))
    by false false e false false false true is = absurd (cc (is))
    by false false e false false false false is = absurd (cc (is))

-- the same of the net
pub stream_status : (sessions : List Served) (store_failed net_failed : Bool) → serve_status sessions store_failed net_failed ≡ STREAM_FAULT → (has_status STREAM_FAULT sessions ≡ true) ⊎ (net_failed ≡ true)
stream_status sessions store_failed net_failed is = by (has_status OUT_OF_MEMORY sessions) store_failed (has_status STORE_FAULT sessions) net_failed refl (has_status STREAM_FAULT sessions) refl
    (has_status FULL sessions) (has_status PEER sessions) is
  where
    by : (o s a n : Bool) → net_failed ≡ n → (b : Bool) → has_status STREAM_FAULT sessions ≡ b → (c d : Bool)
        → cond o OUT_OF_MEMORY (cond (s || a) STORE_FAULT (cond (n || b) STREAM_FAULT (cond c FULL (cond d PEER DONE)))) ≡ STREAM_FAULT → (has_status STREAM_FAULT sessions ≡ true) ⊎ (net_failed ≡ true)
    by true s a n m b e c d is = absurd (cc (is))
    by false true a n m b e c d is = absurd (cc (is))
    by false false true n m b e c d is = absurd (cc (is))
    by false false false true m b e c d is = inr m
    by false false false false m true e c d is = inl e
    by false false false false m false e true d is = absurd (cc (is))
    by false false false false m false e false true is = absurd (cc (is))
    by false false false false m false e false false is = absurd (cc (is))

-- where the status is that of a thing done, no disk failed outside
done_status : (sessions : List Served) (store_failed net_failed : Bool) → (serve_status sessions store_failed net_failed == DONE) ≡ true → store_failed ≡ false
done_status sessions true net_failed is = by (has_status OUT_OF_MEMORY sessions) is
  where
    by : (m : Bool) → (cond m OUT_OF_MEMORY STORE_FAULT == DONE) ≡ true → true ≡ false
    by true is = absurd (cc (is))
    by false is = absurd (cc (is))
done_status sessions false net_failed is = refl

-- ---- what is told

module _ (dir : List ℕ) (before after : ShelfState) (faults faults_new : ℕ) (old now : ReplicaState) (peers : List PeerEntry) (held : Met) (sessions : List Served) (same : sessions ≡ held.sessions) {T : Type 0}
    (result : Result T Refusal) (kept_of : KeepsSessions dir before after faults faults_new old now peers sessions result) where
  kept : KeepsSessions dir before after faults faults_new old now peers held.sessions result
  kept = subst (λ (l : List Served). KeepsSessions dir before after faults faults_new old now peers l result) same kept_of

  -- memory ran out
  pub concludes_all_not : ConcludesAll dir before after faults faults_new old now peers held (Err refusals.Memory)
  concludes_all_not = record {
    grows = kept.grows;
    clean = λ is. absurd (true≢false (sym is));
    keeps = kept.keeps;
    comes = inr refl;
    later = kept.later;
    log_later = kept.log_later;
    store_fault = λ is. absurd (cc (is));
    stream_fault = λ is. absurd (cc (is));
  }

  clean_by : (result : Result T Refusal) (store_failed : Bool) → HasFailed result store_failed → store_failed ≡ false → OnOk result (IsTrue now.log.disk.tells → IsClean now.log.end now.log.disk)
      → IsTrue now.log.disk.tells → IsClean now.log.end now.log.disk
  clean_by (Ok done) store_failed failed not clean = clean
  clean_by (Err refusal) store_failed failed not clean = let yes_failed = failed.1 in absurd (true≢false (sym yes_failed ∙ not))

  remembers_by : (result : Result T Refusal) (store_failed : Bool) → HasFailed result store_failed → store_failed ≡ false
      → OnOk result (IsTrue before.tells → RemembersSessions peers held.sessions (memory_in before dir) (memory_in after dir)) → IsTrue before.tells → RemembersSessions peers held.sessions (memory_in before dir) (memory_in after dir)
  remembers_by (Ok done) store_failed failed not remembers = remembers
  remembers_by (Err refusal) store_failed failed not remembers = let yes_failed = failed.1 in absurd (true≢false (sym yes_failed ∙ not))

  fault_by : (result : Result T Refusal) (store_failed : Bool) → HasFailed result store_failed → store_failed ≡ true
      → IfErr result (λ refusal. (refusal ≡ refusals.Memory) ⊎ ((refusal ≡ refusals.StoreFault) × (Rose faults faults_new ⊎ (0 < now.log.faults)))) → Rose faults faults_new ⊎ (0 < now.log.faults)
  fault_by (Ok done) store_failed failed is why = absurd (true≢false (sym is ∙ failed))
  fault_by (Err refusal) store_failed failed is (inl memory) = let store = failed.0 in absurd (cc (memory, store))
  fault_by (Err refusal) store_failed failed is (inr (store, rose)) = rose

  -- it is told how the sessions ended
  pub concludes_all : (store_failed : Bool) → HasFailed result store_failed → (reply : Reply) → reply.text.items ≡ serve_text sessions store_failed held.net_failed
      → reply.status ≡ serve_status sessions store_failed held.net_failed → ConcludesAll dir before after faults faults_new old now peers held (Ok reply)
  concludes_all store_failed failed reply text_of status_of = record {
    grows = kept.grows;
    clean = λ is. clean_by result store_failed failed (done_status held.sessions store_failed held.net_failed (subst (λ (n : ℕ). (n == DONE) ≡ true) status is)) kept.clean;
    keeps = kept.keeps;
    comes = inl (record {
      store_failed = store_failed;
      tells = record { reply = reply; is = refl; text_is = text; status_is = status };
      remembers = λ not. remembers_by result store_failed failed not kept.remembers;
    });
    later = kept.later;
    log_later = kept.log_later;
    store_fault = λ is. by (store_status held.sessions store_failed held.net_failed (sym status ∙ is));
    stream_fault = λ is. stream_status held.sessions store_failed held.net_failed (sym status ∙ is);
  }
    where
      text : reply.text.items ≡ serve_text held.sessions store_failed held.net_failed
      text = text_of ∙ ap (λ (l : List Served). serve_text l store_failed held.net_failed) same

      status : reply.status ≡ serve_status held.sessions store_failed held.net_failed
      status = status_of ∙ ap (λ (l : List Served). serve_status l store_failed held.net_failed) same

      by : (store_failed ≡ true) ⊎ (has_status STORE_FAULT held.sessions ≡ true) → (has_status STORE_FAULT held.sessions ≡ true) ⊎ (Rose faults faults_new ⊎ (0 < now.log.faults))
      by (inl outside) = inr (fault_by result store_failed failed outside kept.failed)
      by (inr session) = inl session

-- ---- where nobody was served

module _ (dir : List ℕ) (asked : ℕ) (before after : ShelfState) (net net_new : NetState) (faults faults_new net_faults net_faults_new : ℕ) (old now : ReplicaState) (keeps : KeepsPeers dir before after) (later : faults ≤ faults_new) where
  -- want of memory
  pub serving_memory : net_new.out ≡ net.out → KeepsGrowing old now → Stands now → ServesOpen dir asked before after net net_new faults faults_new net_faults net_faults_new old now (Err refusals.Memory)
  serving_memory out grows stands = record {
    added = grows.added;
    holds = holds_grown old now false grows stands (λ is. absurd (true≢false (sym is)));
    comes = inr refl;
    out = out;
    keeps = keeps;
    later = later;
    store_fault = λ is. absurd (cc (is));
    stream_fault = λ is. absurd (cc (is));
  }

-- what is remembered of peers was not read
pub serving_stopped : (dir : List ℕ) (asked : ℕ) (before after : ShelfState) (net : NetState) (faults faults_new net_faults : ℕ) (old : ReplicaState) → KeepsPeers dir before after → faults ≤ faults_new → (refusal : Refusal) → Stands old
    → IsDiskRefusal faults faults_new refusal → ServesOpen dir asked before after net net faults faults_new net_faults net_faults old old (Err refusal)
serving_stopped dir asked before after net faults faults_new net_faults old keeps later refusal stands (inl memory) =
    subst (λ (r : Refusal). ServesOpen dir asked before after net net faults faults_new net_faults net_faults old old (Err r)) (sym memory)
    (serving_memory dir asked before after net net faults faults_new net_faults net_faults old old keeps later refl (grows_none old) stands)
serving_stopped dir asked before after net faults faults_new net_faults old keeps later refusal stands (inr (is, rose)) =
    subst (λ (r : Refusal). ServesOpen dir asked before after net net faults faults_new net_faults net_faults old old (Err r)) (sym is)
    (record {
      added = [];
      holds = holds_grown old old false (grows_none old) stands (λ e. absurd (true≢false (sym e)));
      comes = inl (unread refl refl refl);
      out = refl;
      keeps = keeps;
      later = later;
      store_fault = λ status. inl rose;
      stream_fault = λ status. absurd (cc (status));
    })

-- ---- where sessions were held

pub serving_held : (dir : List ℕ) (asked : ℕ) (before mid after : ShelfState) (net net_new : NetState) (faults between faults_new net_faults net_faults_new : ℕ) (old ended now : ReplicaState) (peers : List PeerEntry) (held : Met)
    (answer : Told) → KeepsPeers dir before mid → (IsTrue before.tells → Reads (memory_in before dir) peers) → (IsTrue before.tells → memory_in mid dir ≡ memory_in before dir) → faults ≤ between → net_new.out ≡ net.out
    → KeepsGrowing old ended → HoldsSessions peers asked net net_new net_faults net_faults_new old ended held → ConcludesAll dir mid after between faults_new ended now peers held answer → Stands now
    → ServesOpen dir asked before after net net_new faults faults_new net_faults net_faults_new old now answer
serving_held dir asked before mid after net net_new faults between faults_new net_faults net_faults_new old ended now peers held answer keeps reads same one_later out grew holds concludes stands = record {
  added = whole.added;
  holds = holds_grown old now (told_done answer) whole stands concludes.clean;
  comes = by concludes.comes;
  out = out;
  keeps = keeps_peers_then dir before mid after keeps concludes.keeps;
  later = let two = concludes.later in omega (arith, one_later, two);
  store_fault = λ is. from (concludes.store_fault is);
  stream_fault = λ is. broke (concludes.stream_fault is);
}
  where
    whole : KeepsGrowing old now
    whole = grows_then old ended now grew concludes.grows

    from : (has_status STORE_FAULT held.sessions ≡ true) ⊎ (Rose between faults_new ⊎ (0 < now.log.faults)) → Rose faults faults_new ⊎ (0 < now.log.faults)
    from (inl store) = let counted = holds.stored store in let more = concludes.log_later in inr (omega (arith, counted, more))
    from (inr (inl rose)) = inl (omega (arith, one_later, rose))
    from (inr (inr some)) = inr some

    broke : (has_status STREAM_FAULT held.sessions ≡ true) ⊎ (held.net_failed ≡ true) → Rose net_faults net_faults_new
    broke (inl link) = holds.broken link
    broke (inr failed) = (holds.serves.fewer failed).2

    on : IsTrue before.tells → IsTrue mid.tells
    on tells = told before.tells mid.tells keeps.tells tells

    by : ConcludesAllAs dir mid after peers held answer ⊎ (answer ≡ Err refusals.Memory)
        → ServingOf before.tells (opened_store old) asked (memory_in before dir) (memory_in after dir) net net_new net_faults net_faults_new whole.added answer ⊎ (answer ≡ Err refusals.Memory)
    by (inr memory) = inr memory
    by (inl said) = inl (served (record {
      peers = peers;
      reads = reads;
      first = holds.first;
      last = holds.last;
      passes = passes_by old ended now holds.first holds.last whole concludes.grows holds.opened holds.serves.seen holds.within;
      sessions = held.sessions;
      net_failed = held.net_failed;
      store_failed = said.store_failed;
      serves = holds.serves;
      starved = holds.starved;
      said = said.tells;
      remembers = λ not tells. subst (λ (m : List ℕ). RemembersSessions peers held.sessions m (memory_in after dir)) (same tells) (said.remembers not (on tells));
    }))

-- ---- a store that is taken and put back

-- what is told of a part is told of it before it was taken and after it was put back
serving_moves : (a b : Bool) (store : StoreData) (asked : ℕ) (m n p q : List ℕ) (net net_new : NetState) (net_faults net_faults_new : ℕ) (added : List (List ℕ)) (answer : Told) → (IsTrue b → IsTrue a) → m ≡ n → (IsTrue b → q ≡ p)
    → ServingOf a store asked m p net net_new net_faults net_faults_new added answer → ServingOf b store asked n q net net_new net_faults net_faults_new added answer
serving_moves a b store asked m n p q net net_new net_faults net_faults_new added answer on old new (unread same none is) = unread same none is
serving_moves a b store asked m n p q net net_new net_faults net_faults_new added answer on old new (served w) = served (record {
  peers = w.peers;
  reads = λ tells. subst (λ (l : List ℕ). Reads l w.peers) old (w.reads (on tells));
  first = w.first;
  last = w.last;
  passes = w.passes;
  sessions = w.sessions;
  net_failed = w.net_failed;
  store_failed = w.store_failed;
  serves = w.serves;
  starved = w.starved;
  said = w.said;
  remembers = λ not tells. subst (λ (l : List ℕ). RemembersSessions w.peers w.sessions l q) old (subst (λ (l : List ℕ). RemembersSessions w.peers w.sessions m l) (sym (new tells)) (w.remembers not (on tells)));
})

module _ (dir : List ℕ) (asked : ℕ) (before after : ShelfState) (net net_new : NetState) (faults faults_new net_faults net_faults_new : ℕ) where
  -- where it was refused
  serves_none : (why : StoreRefusal) → (IsTrue before.tells → IsHome before) → LetsGo is_luhn before dir after → (IsTrue before.tells → IsStoreCause is_luhn before dir why)
      → (why ≡ store_refusals.DiskFault → Rose faults faults_new) → net_new ≡ net → ServesStore dir asked before after net net_new faults faults_new net_faults net_faults_new (Err (from_store why))
  serves_none why home lets cause failed same = by why cause failed
    where
      others_kept : IsTrue before.tells → KeepsAllBut touched dir before after
      others_kept tells other away = lets.others tells other (of_store dir other away)

      home_still : IsTrue before.tells → IsHome after
      home_still tells place = lets.places tells place (home tells place)

      run : IsTrue before.tells → HoldsRun is_luhn before after dir [] false
      run tells = holds_run is_luhn before after dir [] false (lets.run tells)

      by : (why : StoreRefusal) → (IsTrue before.tells → IsStoreCause is_luhn before dir why) → (why ≡ store_refusals.DiskFault → Rose faults faults_new)
          → ServesStore dir asked before after net net_new faults faults_new net_faults net_faults_new (Err (from_store why))
      by store_refusals.NoStore so f = record {
        added = [];
        comes = inl (not_served refusals.NoStore (inl refl) (λ tells. no_store (so tells) refl) same refl refl);
        out = ap (λ (n : NetState). n.out) same;
        run = run;
        others = others_kept;
        home = home_still;
        store_fault = λ is. absurd (cc (is));
        stream_fault = λ is. absurd (cc (is));
      }
      by store_refusals.BadStore so f = record {
        added = [];
        comes = inl (not_served refusals.BadStore (inr refl) (λ tells. bad_store (so tells) refl) same refl refl);
        out = ap (λ (n : NetState). n.out) same;
        run = run;
        others = others_kept;
        home = home_still;
        store_fault = λ is. absurd (cc (is));
        stream_fault = λ is. absurd (cc (is));
      }
      by store_refusals.DiskFault so f = record {
        added = [];
        comes = inl (not_taken same refl refl);
        out = ap (λ (n : NetState). n.out) same;
        run = run;
        others = others_kept;
        home = home_still;
        store_fault = λ is. f refl;
        stream_fault = λ is. absurd (cc (is));
      }
      by store_refusals.Memory so f = record {
        added = [];
        comes = inr refl;
        out = ap (λ (n : NetState). n.out) same;
        run = run;
        others = others_kept;
        home = home_still;
        store_fault = λ is. absurd (cc (is));
        stream_fault = λ is. absurd (cc (is));
      }

  pub serves_refused : (why : OpenRefusal) → (IsTrue before.tells → IsHome before) → LetsAllGo needed.Store before dir after → Refuses why needed.Store before dir
      → (why ≡ open_refusals.Store store_refusals.DiskFault → Rose faults faults_new) → net_new ≡ net
      → ServesStore dir asked before after net net_new faults faults_new net_faults net_faults_new (Err (from_open why))
  serves_refused (open_refusals.Store why) home lets cause failed same = serves_none why home (no_store_taken before after dir lets) cause (λ is. failed (ap open_refusals.Store is)) same
  serves_refused (open_refusals.Key why) home lets cause failed same = absurd cause

  -- where it was taken and put back
  serves_taken : OneSchema → (opened closing : ShelfState) (opened_faults closing_faults : ℕ) (taken : OpenData) (now : ReplicaState) (answer : Told) → (IsTrue before.tells → IsHome before)
      → TakesStore is_luhn before dir taken opened → ServesOpen dir asked opened closing net net_new opened_faults closing_faults net_faults net_faults_new taken.replica now answer
      → PutsStore closing dir taken.schema now.log.disk after → faults ≤ opened_faults → closing_faults ≤ faults_new → (0 < now.log.faults → Rose closing_faults faults_new)
      → ServesStore dir asked before after net net_new faults faults_new net_faults net_faults_new answer
  serves_taken schemas opened closing opened_faults closing_faults taken now answer home takes serves puts one_later two_later faulted = record {
    added = serves.added;
    comes = by serves.comes;
    out = serves.out;
    run = λ tells. held_run schemas is_luhn before opened closing after dir taken now serves.added (told_done answer) tells (still tells) takes puts serves.holds;
    others = λ tells other away. puts.others (still tells) other (of_store dir other away) ∙ serves.keeps.others (inside tells) other (of_peers dir other away) ∙ takes.others other (of_store dir other away);
    home = λ tells place. places_around dir before opened closing after taken now takes puts serves.keeps.tells serves.keeps.places tells place (home tells place);
    store_fault = λ is. from (serves.store_fault is);
    stream_fault = serves.stream_fault;
  }
    where
      inside : IsTrue before.tells → IsTrue opened.tells
      inside = opened_told dir before opened closing after taken now takes puts serves.keeps.tells serves.keeps.places

      still : IsTrue before.tells → IsTrue closing.tells
      still = closing_told dir before opened closing after taken now takes puts serves.keeps.tells serves.keeps.places

      from : Rose opened_faults closing_faults ⊎ (0 < now.log.faults) → Rose faults faults_new
      from (inl rose) = omega (arith, one_later, two_later, rose)
      from (inr some) = let more = faulted some in let mid = serves.later in omega (arith, one_later, mid, more)

      by : ServingOf opened.tells (opened_store taken.replica) asked (memory_in opened dir) (memory_in closing dir) net net_new net_faults net_faults_new serves.added answer ⊎ (answer ≡ Err refusals.Memory)
          → ServeAnswer before.tells (readings before dir) asked (memory_in before dir) (memory_in after dir) net net_new net_faults net_faults_new serves.added answer ⊎ (answer ≡ Err refusals.Memory)
      by (inr fault) = inr fault
      by (inl meets) = inl (of_open (store_of taken.replica) (λ tells. read_before is_luhn before opened dir taken tells takes)
          (serving_moves opened.tells before.tells (store_of taken.replica) asked (memory_in opened dir) (memory_in before dir) (memory_in closing dir) (memory_in after dir) net net_new net_faults net_faults_new
          serves.added answer inside (same_memory before opened dir (takes.others (slot dir Peers) refl)) (λ tells. same_memory closing after dir (puts.others (still tells) (slot dir Peers) refl)) meets))

  pub serves_closed : OneSchema → (opened closing : ShelfState) (opened_faults closing_faults : ℕ) (taken : OpenData) (key : Option KeyState) (now : ReplicaState) (answer : Told) → (IsTrue before.tells → IsHome before)
      → Opens needed.Store before dir taken key opened → ServesOpen dir asked opened closing net net_new opened_faults closing_faults net_faults net_faults_new taken.replica now answer → faults ≤ opened_faults
      → Closes closing closing_faults dir (now_open taken now) key after faults_new → ServesStore dir asked before after net net_new faults faults_new net_faults net_faults_new answer
  serves_closed schemas opened closing opened_faults closing_faults taken key now answer home opens serves one_later closes =
      let is = store_opened before opened dir taken key opens in
      let closed = store_closed closing after closing_faults faults_new dir (now_open taken now) key is.1 closes in
      serves_taken schemas opened closing opened_faults closing_faults taken now answer home is.0 serves closed.puts one_later closed.later closed.log_faulted
