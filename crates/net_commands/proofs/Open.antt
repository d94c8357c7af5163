-- A store that is open while it meets others, and how it is put back.
use Rattle.std.proofs.Common.{◌≡◌, ◌≢◌, ◌⊎◌, inl, inr, ℕ, ◌<◌, ◌≤◌, Bool, false, List, [], refl, sym, ap, subst, ◌∙◌, IfSome, IsTrue, Option, Ok, Err, Result, arith}
use Rattle.std.proofs.lemmas.Bool.{true≢false}
use Rattle.sha2.specs.Sha256.{sha256}
use Rattle.row_check.specs.Checksum.{is_luhn}
use Rattle.bec_bytes.specs.Causes.{Rose}
use Rattle.bec_disk.specs.declared.part.Part.TheVariants.{Schema, Updates, Peers}
use Rattle.bec_disk.specs.Shelf.{PartState, ShelfState, out}
use Rattle.bec_disk.specs.Slot.{slot}
use Rattle.bec_links.specs.Nets.{NetState}
use Rattle.peer_memory.specs.declared.peer.Peer.{Peer as PeerEntry}
use Rattle.peer_memory.specs.Payload.{Reads}
use Rattle.replica.specs.Replicas.{ReplicaState}
use Rattle.key_index.specs.KeyState.{KeyState}
use Rattle.store_directory.specs.declared.open_refusal.OpenRefusal.{OpenRefusal}
use Rattle.store_directory.specs.declared.open_refusal.OpenRefusal.TheVariants as open_refusals
use Rattle.store_directory.specs.declared.opening.Needs.TheVariants as needed
use Rattle.store_directory.specs.declared.store_refusal.StoreRefusal.{StoreRefusal}
use Rattle.store_directory.specs.declared.store_refusal.StoreRefusal.TheVariants as store_refusals
use Rattle.store_directory.specs.Holding.{IsStoreCause, LetsGo, OpenData, PutsStore, TakesStore}
use Rattle.store_directory.specs.Opening.{Closes, IsKeyOut, IsStoreOut, LetsAllGo, Opens, Refuses}
use Rattle.key_directory.specs.Parts.{IsHome, KeepsAllBut, part_in}
use Rattle.store_directory.specs.Stores.{HoldsRun, StoreData}
use Rattle.key_directory.proofs.Putting.{told}
use Rattle.store_directory.proofs.OnceOpen.{disks_of, no_key_out, no_store_taken, store_closed, store_opened}
use Rattle.store_directory.proofs.Readings.{OneSchema}
use Rattle.store_directory.proofs.Working.{held_run, holds_run, read_before, store_of}
use Rattle.session_server.specs.declared.ending.Ending.TheVariants as endings
use Rattle.session_server.specs.declared.served.Served.{Served}
use Rattle.session_server.specs.Serving.{Ran}
use Rattle.outcomes.specs.declared.refusal.Refusal.{Refusal}
use Rattle.outcomes.specs.declared.refusal.Refusal.TheVariants as refusals
use Rattle.outcomes.specs.Comes.{IsDiskRefusal, readings}
use Rattle.store_directory.specs.Remembering.{KeepsPeers, RemembersIn, memory_in, touched}
use Rattle.outcomes.specs.OpenStores.{opened_store}
use Rattle.outcomes.specs.Outcome.{from_open, from_store}
use Rattle.store_directory.specs.Standing.{Stands}
use Rattle.outcomes.specs.StoreAnswers.{bad_store, no_store}
use Rattle.outcomes.proofs.Around.{closing_told, of_peers, of_store, opened_told, places_around, same_memory}
use Rattle.net_commands.specs.Meetings.{Concluded, Dials, HandsNone, MeetingOf, SyncAnswer, SyncsStore, handed, kept, met, no_meeting, not_asked, not_dialled as undialled, not_kept, not_read as unread, not_taken, opened as of_open, refused}
use Rattle.outcomes.specs.Told.{Told, told_done}
use Rattle.store_directory.specs.Settling.{KeepsGrowing}
use Rattle.net_commands.specs.Open.{Concludes, HoldsSession, MeetsBy, MeetsOpen, SyncsOpen, held, no_memory, not_dialled}
use Rattle.net_commands.proofs.Sharing.{grows_none, grows_then, holds_grown, passes_by}

-- ---- the part Peers

pub keeps_peers_then : (dir : List ℕ) (before mid after : ShelfState) → KeepsPeers dir before mid → KeepsPeers dir mid after → KeepsPeers dir before after
keeps_peers_then dir before mid after a b = record {
  tells = b.tells ∙ a.tells;
  others = λ tells other away. b.others (on tells) other away ∙ a.others tells other away;
  places = λ tells place here. b.places (on tells) place (a.places tells place here);
}
  where
    on : IsTrue before.tells → IsTrue mid.tells
    on tells = told before.tells mid.tells a.tells tells

-- ---- a store that is open

-- the store as it is by now
abbrev pub now_open : OpenData → ReplicaState → OpenData
now_open taken now = record { schema = taken.schema; schema_faults = taken.schema_faults; replica = now }

-- while the store of a directory is open, its peers are in their place
pub peers_home : (dir : List ℕ) (before opened : ShelfState) (taken : OpenData) (key : Option KeyState) → (IsTrue before.tells → IsHome before) → Opens needed.Store before dir taken key opened → IsTrue opened.tells
    → part_in opened dir Peers ≢ out
peers_home dir before opened taken key home opens tells =
    let takes = (store_opened before opened dir taken key opens).0 in
    subst (λ (p : PartState). p ≢ out) (sym (takes.others (slot dir Peers) refl)) (home (told opened.tells before.tells (sym takes.tells) tells) (slot dir Peers))

-- while at most its peers are touched, what was opened stays out
module _ (dir : List ℕ) (before opened closing : ShelfState) (taken : OpenData) (key : Option KeyState) (now : ReplicaState) (opens : Opens needed.Store before dir taken key opened) (keeps : KeepsPeers dir opened closing)
    (tells : IsTrue closing.tells) where
  pub store_still_out : now.log.disk.slot ≡ taken.replica.log.disk.slot → IsStoreOut closing dir taken.schema now
  store_still_out same =
      let takes = (store_opened before opened dir taken key opens).0 in
      let disks = disks_of dir before opened closing taken now takes keeps.tells same (λ t. (keeps.others t (slot dir Schema) refl, keeps.others t (slot dir Updates) refl)) tells in
      record { schema_of = disks.0; updates_of = disks.1 }

  pub no_key_still_out : IfSome key (IsKeyOut closing dir)
  no_key_still_out = no_key_out closing dir key (store_opened before opened dir taken key opens).1

-- ---- where it did not come to a session

module _ (dir address : List ℕ) (before after : ShelfState) (net net_new : NetState) (faults faults_new net_faults net_faults_new : ℕ) (old : ReplicaState) (keeps : KeepsPeers dir before after) (later : faults ≤ faults_new) where
  -- want of memory
  pub open_memory : (now : ReplicaState) → Dials net net_new → KeepsGrowing old now → Stands now → SyncsOpen dir address before after net net_new faults faults_new net_faults net_faults_new old now (Err refusals.Memory)
  open_memory now dials grows stands = record {
    added = grows.added;
    holds = holds_grown old now false grows stands (λ is. absurd (true≢false (sym is)));
    comes = inr refl;
    dials = dials;
    keeps = keeps;
    later = later;
    store_fault = λ is. absurd (cc (is));
    stream_fault = λ is. absurd (cc (is));
  }

  -- the net handed no link out
  pub open_undialled : HandsNone net net_new → Rose net_faults net_faults_new → Stands old
      → SyncsOpen dir address before after net net_new faults faults_new net_faults net_faults_new old old (Err refusals.Stream)
  open_undialled none rose stands = record {
    added = [];
    holds = holds_grown old old false (grows_none old) stands (λ is. absurd (true≢false (sym is)));
    comes = inl (undialled none refl refl);
    dials = refused none;
    keeps = keeps;
    later = later;
    store_fault = λ is. absurd (cc (is));
    stream_fault = λ is. rose;
  }

-- what is remembered of peers was not read
pub open_stopped : (dir address : List ℕ) (before after : ShelfState) (net : NetState) (faults faults_new net_faults : ℕ) (replica : ReplicaState) (refusal : Refusal) → KeepsPeers dir before after → faults ≤ faults_new → Stands replica
    → IsDiskRefusal faults faults_new refusal → SyncsOpen dir address before after net net faults faults_new net_faults net_faults replica replica (Err refusal)
open_stopped dir address before after net faults faults_new net_faults replica refusal keeps later stands (inl memory) =
    subst (λ (r : Refusal). SyncsOpen dir address before after net net faults faults_new net_faults net_faults replica replica (Err r)) (sym memory)
    (open_memory dir address before after net net faults faults_new net_faults net_faults replica keeps later replica (not_asked refl) (grows_none replica) stands)
open_stopped dir address before after net faults faults_new net_faults replica refusal keeps later stands (inr (is, rose)) =
    subst (λ (r : Refusal). SyncsOpen dir address before after net net faults faults_new net_faults net_faults replica replica (Err r)) (sym is)
    (record {
      added = [];
      holds = holds_grown replica replica false (grows_none replica) stands (λ e. absurd (true≢false (sym e)));
      comes = inl (unread refl refl refl);
      dials = not_asked refl;
      keeps = keeps;
      later = later;
      store_fault = λ status. inl rose;
      stream_fault = λ status. absurd (cc (status));
    })

-- ---- where it came to a session

module _ (dir address : List ℕ) (before mid after : ShelfState) (net net_new : NetState) (faults between faults_new net_faults net_faults_new : ℕ) (old ended now : ReplicaState)
    (peers : List PeerEntry) (ran : Ran) (served : Served) (answer : Told) where
  pub open_met : KeepsPeers dir before mid → (IsTrue before.tells → Reads (memory_in before dir) peers) → (IsTrue before.tells → memory_in mid dir ≡ memory_in before dir) → faults ≤ between
      → KeepsGrowing old ended → served ≡ ran.served → HoldsSession peers (sha256 address) net net_new net_faults net_faults_new old ended ran
      → Concludes dir mid after between faults_new ended now peers (sha256 address) served answer → Stands now
      → SyncsOpen dir address before after net net_new faults faults_new net_faults net_faults_new old now answer
  open_met keeps reads same one_later grew is_served holds concludes stands = record {
    added = whole.added;
    holds = holds_grown old now (told_done answer) whole stands concludes.clean;
    comes = by concludes.comes;
    dials = handed ran.left ran.held ran.held' holds.handed;
    keeps = keeps_peers_then dir before mid after keeps concludes.keeps;
    later = let two = concludes.later in omega (arith, one_later, two);
    store_fault = λ is. from (concludes.store_fault is);
    stream_fault = λ is. holds.broken (sym (ap (λ (s : Served). s.ending) is_served) ∙ concludes.stream_fault is);
  }
    where
      whole : KeepsGrowing old now
      whole = grows_then old ended now grew concludes.grows

      from : (served.ending ≡ endings.Store) ⊎ (Rose between faults_new ⊎ (0 < now.log.faults)) → Rose faults faults_new ⊎ (0 < now.log.faults)
      from (inl store) = let counted = holds.stored (sym (ap (λ (s : Served). s.ending) is_served) ∙ store) in let more = concludes.log_later in inr (omega (arith, counted, more))
      from (inr (inl rose)) = inl (omega (arith, one_later, rose))
      from (inr (inr some)) = inr some

      on : IsTrue before.tells → IsTrue mid.tells
      on tells = told before.tells mid.tells keeps.tells tells

      reading : Concluded mid.tells peers (sha256 address) (memory_in mid dir) (memory_in after dir) ran.served answer → Concluded before.tells peers (sha256 address) (memory_in before dir) (memory_in after dir) ran.served answer
      reading (kept said remembers forgets) = kept said (λ is tells. remembers is (on tells)) (λ not tells. forgets not (on tells) ∙ same tells)
      reading (not_kept done is) = not_kept done is

      by : Concluded mid.tells peers (sha256 address) (memory_in mid dir) (memory_in after dir) served answer ⊎ (answer ≡ Err refusals.Memory)
          → MeetingOf before.tells (opened_store old) address (memory_in before dir) (memory_in after dir) net net_new whole.added answer ⊎ (answer ≡ Err refusals.Memory)
      by (inr fault) = inr fault
      by (inl concluded) =
          let said : Concluded mid.tells peers (sha256 address) (memory_in mid dir) (memory_in after dir) ran.served answer =
          subst (λ (s : Served). Concluded mid.tells peers (sha256 address) (memory_in mid dir) (memory_in after dir) s answer) is_served concluded in
          inl (met (record {
            peers = peers;
            reads = reads;
            ran = ran;
            handed = holds.handed;
            passes = passes_by old ended now ran.before ran.after whole concludes.grows holds.opened holds.seen holds.within;
            session = holds.session;
            concluded = reading said;
          }))

-- ---- what meeting came to

module _ (dir address : List ℕ) (before mid : ShelfState) (net net_new : NetState) (faults between net_faults net_faults_new : ℕ) (old ended : ReplicaState) (peers : List PeerEntry) (result : Result Served Refusal)
    (keeps : KeepsPeers dir before mid) (one_later : faults ≤ between) (meets : MeetsOpen peers (sha256 address) net net_new net_faults net_faults_new old ended result) where
  -- nobody was met
  pub open_unmet : (refusal : Refusal) → result ≡ Err refusal → Stands ended → SyncsOpen dir address before mid net net_new faults between net_faults net_faults_new old ended (Err refusal)
  open_unmet refusal is stands = by meets.comes
    where
      by : MeetsBy peers (sha256 address) net net_new net_faults net_faults_new old ended result → SyncsOpen dir address before mid net net_new faults between net_faults net_faults_new old ended (Err refusal)
      by (no_memory dials same memory) =
          let e : refusal ≡ refusals.Memory = cc (is, memory) in
          subst (λ (r : Refusal). SyncsOpen dir address before mid net net_new faults between net_faults net_faults_new old ended (Err r)) (sym e)
          (open_memory dir address before mid net net_new faults between net_faults net_faults_new old keeps one_later ended dials meets.grows stands)
      by (not_dialled none rose same stream) =
          let e : refusal ≡ refusals.Stream = cc (is, stream) in
          subst (λ (r : Refusal). SyncsOpen dir address before mid net net_new faults between net_faults net_faults_new old ended (Err r)) (sym e)
          (subst (λ (s : ReplicaState). SyncsOpen dir address before mid net net_new faults between net_faults net_faults_new old s (Err refusals.Stream)) (sym same)
          (open_undialled dir address before mid net net_new faults between net_faults net_faults_new old keeps one_later none rose (subst Stands same stands)))
      by (held ran ok holds) = absurd (cc (is, ok))

  -- somebody was
  pub open_told : (after : ShelfState) (faults_new : ℕ) (now : ReplicaState) (served : Served) (answer : Told) → result ≡ Ok served → (IsTrue before.tells → Reads (memory_in before dir) peers)
      → (IsTrue before.tells → memory_in mid dir ≡ memory_in before dir) → Concludes dir mid after between faults_new ended now peers (sha256 address) served answer → Stands now
      → SyncsOpen dir address before after net net_new faults faults_new net_faults net_faults_new old now answer
  open_told after faults_new now served answer is reads same concludes stands = by meets.comes
    where
      by : MeetsBy peers (sha256 address) net net_new net_faults net_faults_new old ended result → SyncsOpen dir address before after net net_new faults faults_new net_faults net_faults_new old now answer
      by (no_memory dials unchanged memory) = absurd (cc (is, memory))
      by (not_dialled none rose unchanged stream) = absurd (cc (is, stream))
      by (held ran ok holds) =
          let e : served ≡ ran.served = cc (is, ok) in
          open_met dir address before mid after net net_new faults between faults_new net_faults net_faults_new old ended now peers ran served answer keeps reads same one_later meets.grows e holds concludes stands

-- ---- a store that is taken and put back

-- what is told of a part is told of it before it was taken and after it was put back
concluded_moves : (a b : Bool) (peers : List PeerEntry) (name : List ℕ) (m n p q : List ℕ) (served : Served) (answer : Told) → (IsTrue b → IsTrue a) → m ≡ n → (IsTrue b → q ≡ p)
    → Concluded a peers name m p served answer → Concluded b peers name n q served answer
concluded_moves a b peers name m n p q served answer on old new (kept said remembers forgets) =
    kept said (λ is tells. subst (RemembersIn peers name served.heads) (sym (new tells)) (remembers is (on tells))) (λ not tells. new tells ∙ forgets not (on tells) ∙ old)
concluded_moves a b peers name m n p q served answer on old new (not_kept done is) = not_kept done is

meeting_moves : (a b : Bool) (store : StoreData) (address m n p q : List ℕ) (net net_new : NetState) (added : List (List ℕ)) (answer : Told) → (IsTrue b → IsTrue a) → m ≡ n → (IsTrue b → q ≡ p)
    → MeetingOf a store address m p net net_new added answer → MeetingOf b store address n q net net_new added answer
meeting_moves a b store address m n p q net net_new added answer on old new (unread same none is) = unread same none is
meeting_moves a b store address m n p q net net_new added answer on old new (undialled none nothing is) = undialled none nothing is
meeting_moves a b store address m n p q net net_new added answer on old new (met w) = met (record {
  peers = w.peers;
  reads = λ tells. subst (λ (l : List ℕ). Reads l w.peers) old (w.reads (on tells));
  ran = w.ran;
  handed = w.handed;
  passes = w.passes;
  session = w.session;
  concluded = concluded_moves a b w.peers (sha256 address) m n p q w.ran.served answer on old new w.concluded;
})

module _ (dir address : List ℕ) (before after : ShelfState) (net net_new : NetState) (faults faults_new net_faults net_faults_new : ℕ) where
  -- where it was refused
  syncs_none : (why : StoreRefusal) → (IsTrue before.tells → IsHome before) → LetsGo is_luhn before dir after → (IsTrue before.tells → IsStoreCause is_luhn before dir why)
      → (why ≡ store_refusals.DiskFault → Rose faults faults_new) → net_new ≡ net → SyncsStore dir address before after net net_new faults faults_new net_faults net_faults_new (Err (from_store why))
  syncs_none why home lets cause failed same = by why cause failed
    where
      others_kept : IsTrue before.tells → KeepsAllBut touched dir before after
      others_kept tells other away = lets.others tells other (of_store dir other away)

      home_still : IsTrue before.tells → IsHome after
      home_still tells place = lets.places tells place (home tells place)

      run : IsTrue before.tells → HoldsRun is_luhn before after dir [] false
      run tells = holds_run is_luhn before after dir [] false (lets.run tells)

      by : (why : StoreRefusal) → (IsTrue before.tells → IsStoreCause is_luhn before dir why) → (why ≡ store_refusals.DiskFault → Rose faults faults_new)
          → SyncsStore dir address before after net net_new faults faults_new net_faults net_faults_new (Err (from_store why))
      by store_refusals.NoStore so f = record {
        added = [];
        comes = inl (no_meeting refusals.NoStore (inl refl) (λ tells. no_store (so tells) refl) same refl refl);
        dials = not_asked same;
        run = run;
        others = others_kept;
        home = home_still;
        store_fault = λ is. absurd (cc (is));
        stream_fault = λ is. absurd (cc (is));
      }
      by store_refusals.BadStore so f = record {
        added = [];
        comes = inl (no_meeting refusals.BadStore (inr refl) (λ tells. bad_store (so tells) refl) same refl refl);
        dials = not_asked same;
        run = run;
        others = others_kept;
        home = home_still;
        store_fault = λ is. absurd (cc (is));
        stream_fault = λ is. absurd (cc (is));
      }
      by store_refusals.DiskFault so f = record {
        added = [];
        comes = inl (not_taken same refl refl);
        dials = not_asked same;
        run = run;
        others = others_kept;
        home = home_still;
        store_fault = λ is. f refl;
        stream_fault = λ is. absurd (cc (is));
      }
      by store_refusals.Memory so f = record {
        added = [];
        comes = inr refl;
        dials = not_asked same;
        run = run;
        others = others_kept;
        home = home_still;
        store_fault = λ is. absurd (cc (is));
        stream_fault = λ is. absurd (cc (is));
      }

  pub syncs_refused : (why : OpenRefusal) → (IsTrue before.tells → IsHome before) → LetsAllGo needed.Store before dir after → Refuses why needed.Store before dir
      → (why ≡ open_refusals.Store store_refusals.DiskFault → Rose faults faults_new) → net_new ≡ net
      → SyncsStore dir address before after net net_new faults faults_new net_faults net_faults_new (Err (from_open why))
  syncs_refused (open_refusals.Store why) home lets cause failed same = syncs_none why home (no_store_taken before after dir lets) cause (λ is. failed (ap open_refusals.Store is)) same
  syncs_refused (open_refusals.Key why) home lets cause failed same = absurd cause

  -- where it was taken and put back
  syncs_taken : OneSchema → (opened closing : ShelfState) (opened_faults closing_faults : ℕ) (taken : OpenData) (now : ReplicaState) (answer : Told) → (IsTrue before.tells → IsHome before)
      → TakesStore is_luhn before dir taken opened → SyncsOpen dir address opened closing net net_new opened_faults closing_faults net_faults net_faults_new taken.replica now answer
      → PutsStore closing dir taken.schema now.log.disk after → faults ≤ opened_faults → closing_faults ≤ faults_new → (0 < now.log.faults → Rose closing_faults faults_new)
      → SyncsStore dir address before after net net_new faults faults_new net_faults net_faults_new answer
  syncs_taken schemas opened closing opened_faults closing_faults taken now answer home takes syncs puts one_later two_later faulted = record {
    added = syncs.added;
    comes = by syncs.comes;
    dials = syncs.dials;
    run = λ tells. held_run schemas is_luhn before opened closing after dir taken now syncs.added (told_done answer) tells (still tells) takes puts syncs.holds;
    others = λ tells other away. puts.others (still tells) other (of_store dir other away) ∙ syncs.keeps.others (inside tells) other (of_peers dir other away) ∙ takes.others other (of_store dir other away);
    home = λ tells place. places_around dir before opened closing after taken now takes puts syncs.keeps.tells syncs.keeps.places tells place (home tells place);
    store_fault = λ is. from (syncs.store_fault is);
    stream_fault = syncs.stream_fault;
  }
    where
      inside : IsTrue before.tells → IsTrue opened.tells
      inside = opened_told dir before opened closing after taken now takes puts syncs.keeps.tells syncs.keeps.places

      still : IsTrue before.tells → IsTrue closing.tells
      still = closing_told dir before opened closing after taken now takes puts syncs.keeps.tells syncs.keeps.places

      from : Rose opened_faults closing_faults ⊎ (0 < now.log.faults) → Rose faults faults_new
      from (inl rose) = omega (arith, one_later, two_later, rose)
      from (inr some) = let more = faulted some in let mid = syncs.later in omega (arith, one_later, mid, more)

      by : MeetingOf opened.tells (opened_store taken.replica) address (memory_in opened dir) (memory_in closing dir) net net_new syncs.added answer ⊎ (answer ≡ Err refusals.Memory)
          → SyncAnswer before.tells (readings before dir) address (memory_in before dir) (memory_in after dir) net net_new syncs.added answer ⊎ (answer ≡ Err refusals.Memory)
      by (inr fault) = inr fault
      by (inl meets) = inl (of_open (store_of taken.replica) (λ tells. read_before is_luhn before opened dir taken tells takes)
          (meeting_moves opened.tells before.tells (store_of taken.replica) address (memory_in opened dir) (memory_in before dir) (memory_in closing dir) (memory_in after dir) net net_new syncs.added answer inside
          (same_memory before opened dir (takes.others (slot dir Peers) refl)) (λ tells. same_memory closing after dir (puts.others (still tells) (slot dir Peers) refl)) meets))

  pub syncs_closed : OneSchema → (opened closing : ShelfState) (opened_faults closing_faults : ℕ) (taken : OpenData) (key : Option KeyState) (now : ReplicaState) (answer : Told) → (IsTrue before.tells → IsHome before)
      → Opens needed.Store before dir taken key opened → SyncsOpen dir address opened closing net net_new opened_faults closing_faults net_faults net_faults_new taken.replica now answer → faults ≤ opened_faults
      → Closes closing closing_faults dir (now_open taken now) key after faults_new → SyncsStore dir address before after net net_new faults faults_new net_faults net_faults_new answer
  syncs_closed schemas opened closing opened_faults closing_faults taken key now answer home opens syncs one_later closes =
      let is = store_opened before opened dir taken key opens in
      let closed = store_closed closing after closing_faults faults_new dir (now_open taken now) key is.1 closes in
      syncs_taken schemas opened closing opened_faults closing_faults taken now answer home is.0 syncs closed.puts one_later closed.later closed.log_faulted
