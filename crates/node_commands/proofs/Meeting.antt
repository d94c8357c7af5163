-- Two open stores that meet.
use Rattle.std.proofs.Common.{◌≡◌, ◌≢◌, ◌⊎◌, inl, inr, ℕ, ◌≤◌, Bool, true, false, List, [], ◌∷◌, ◌++◌, append-nil, map, refl, sym, ap, subst, ◌∙◌, IsTrue, Err, arith}
use Rattle.std.specs.Prelude.{Contains}
use Rattle.std.proofs.lemmas.Bool.{true≢false}
use Rattle.std.proofs.lemmas.List.Elements.{All-nil}
use Rattle.bec_bytes.specs.Causes.{Rose}
use Rattle.bec_disk.specs.declared.disk_error.DiskError.{DiskError}
use Rattle.bec_disk.specs.declared.disk_error.DiskError.TheVariants as disk_errors
use Rattle.bec_disk.specs.declared.part.Part.TheVariants.{Peers}
use Rattle.bec_disk.specs.Shelf.{PartState, ShelfState}
use Rattle.bec_disk.specs.Slot.{slot}
use Rattle.update_model.specs.Batch.{store_limits}
use Rattle.update_model.specs.Rule.{RuleData}
use Rattle.update_codec.specs.Parts.{entry_of}
use Rattle.session_rules.specs.declared.end.End.{End}
use Rattle.session_rules.specs.declared.end.End.TheVariants.{Done, Peer, Full, Store}
use Rattle.session_rules.specs.Laws.{NoCollision}
use Rattle.sync_session.specs.Carrying.{HasRoom, Syncs, Unites}
use Rattle.sync_session.specs.Kept.{GrowsBy}
use Rattle.sync_session.specs.declared.pair.PairStart.{PairStart}
use Rattle.sync_session.specs.declared.pair.PairEnd.{PairEnd}
use Rattle.peer_memory.specs.declared.peer.Peer.{Peer as PeerEntry}
use Rattle.peer_memory.specs.Payload.{Reads}
use Rattle.replica.specs.Holding.{IsOnDisk, IsWhole, KeepsOn, keeps_itself}
use Rattle.replica.specs.Replicas.{ReplicaState}
use Rattle.store_directory.specs.Holding.{WorksOn}
use Rattle.outcomes.specs.declared.refusal.Refusal.{Refusal}
use Rattle.outcomes.specs.Comes.{IsRefused, is_done}
use Rattle.node_commands.specs.Merging.{AreUnremembered, IfStoreFault, IsMergeEnd, IsMergeFault, IsStopped, held, unheld, KeepsAllButIn, Meets, MergesOpen, TellsEnd, start_of}
use Rattle.store_directory.specs.Remembering.{KeepsPeers, RemembersIn, memory_in}
use Rattle.outcomes.specs.OpenStores.{WorksFrom, opened_store}
use Rattle.outcomes.specs.Outcome.{Outcome, from_disk}
use Rattle.store_directory.specs.Standing.{Stands}
use Rattle.node_commands.proofs.Merging.{away_from, if_fault}
use Rattle.outcomes.proofs.Around.{same_memory}
use Rattle.key_directory.specs.Parts.{IsUntouched, KeepsPlaces, part_in}

-- ---- the shelf

-- What was done to the shelf: at most the parts Peers of two directories were touched, and put back.
pub record Shelved (first second : List ℕ) (before after : ShelfState) (faults faults_new : ℕ) : Type 0 where
  pub tells : after.tells ≡ before.tells
  pub places : IsTrue before.tells → KeepsPlaces before after
  pub others : IsTrue before.tells → KeepsAllButIn (Peers ∷ []) first (Peers ∷ []) second before after
  pub later : faults ≤ faults_new

told_on : (old new : Bool) → new ≡ old → IsTrue old → IsTrue new
told_on old new same is = subst IsTrue (sym same) is

module _ (first second : List ℕ) (before : ShelfState) (faults : ℕ) where
  pub shelved_none : Shelved first second before before faults faults
  shelved_none = record { tells = refl; places = λ tells place here. here; others = λ tells other away away_too. refl; later = omega arith }

  module _ (mid after : ShelfState) (between faults_new : ℕ) (so_far : Shelved first second before mid faults between) (later : between ≤ faults_new) where
    pub shelved_first : KeepsPeers first mid after → Shelved first second before after faults faults_new
    shelved_first keeps = record {
      tells = keeps.tells ∙ so_far.tells;
      places = λ tells place here. keeps.places (told_on before.tells mid.tells so_far.tells tells) place (so_far.places tells place here);
      others = λ tells other away away_too. keeps.others (told_on before.tells mid.tells so_far.tells tells) other away ∙ so_far.others tells other away away_too;
      later = let one = so_far.later in omega (arith, one, later);
    }

    pub shelved_second : KeepsPeers second mid after → Shelved first second before after faults faults_new
    shelved_second keeps = record {
      tells = keeps.tells ∙ so_far.tells;
      places = λ tells place here. keeps.places (told_on before.tells mid.tells so_far.tells tells) place (so_far.places tells place here);
      others = λ tells other away away_too. keeps.others (told_on before.tells mid.tells so_far.tells tells) other away_too ∙ so_far.others tells other away away_too;
      later = let one = so_far.later in omega (arith, one, later);
    }

-- why the peers of a directory were not read or kept, in place of an answer
pub peers_fault : (old mid new : ℕ) (one other one_new other_new : ReplicaState) (error : DiskError) → old ≤ mid → (error ≡ disk_errors.DiskFault → Rose mid new) → IsMergeFault old new one other one_new other_new (Err (from_disk error))
peers_fault old mid new one other one_new other_new disk_errors.Memory later failed = inl refl
peers_fault old mid new one other one_new other_new disk_errors.DiskFault later failed = let rose = failed refl in inr (refl, inl (omega (arith, later, rose)))

-- What both directories remember is read.
pub record ReadsBoth (first second : List ℕ) (before after : ShelfState) (faults faults_new : ℕ) (peers peers_other : List PeerEntry) : Type 0 where
  pub shelf : Shelved first second before after faults faults_new
  pub reads : IsTrue before.tells → Reads (memory_in before first) peers
  pub reads_other : IsTrue before.tells → Reads (memory_in before second) peers_other
  pub untouched : IsTrue before.tells → AreUnremembered first second before after

-- the peers of a directory stay while those of another one are read or kept
other_stays : (first second : List ℕ) → first ≢ second → (before after : ShelfState) → KeepsPeers first before after → IsTrue before.tells → memory_in after second ≡ memory_in before second
other_stays first second differ before after keeps tells = same_memory before after second (keeps.others tells (slot second Peers) (away_from first second differ (Peers ∷ []) Peers))

pub both_read : (first second : List ℕ) → first ≢ second → (before mid after : ShelfState) (faults between faults_new : ℕ) (peers peers_other : List PeerEntry)
    → KeepsPeers first before mid → KeepsPeers second mid after → faults ≤ between → between ≤ faults_new
    → (IsTrue before.tells → Reads (memory_in before first) peers) → (IsTrue mid.tells → Reads (memory_in mid second) peers_other)
    → (IsTrue before.tells → IsUntouched (part_in before first Peers) (part_in mid first Peers)) → (IsTrue mid.tells → IsUntouched (part_in mid second Peers) (part_in after second Peers))
    → ReadsBoth first second before after faults faults_new peers peers_other
both_read first second differ before mid after faults between faults_new peers peers_other keeps keeps_other one two reads reads_other same same_other = record {
  shelf = shelved_second first second before faults mid after between faults_new (shelved_first first second before faults before mid faults between (shelved_none first second before faults) one keeps) two keeps_other;
  reads = reads;
  reads_other = λ tells. subst (λ (memory : List ℕ). Reads memory peers_other) (other_stays first second differ before mid keeps tells) (reads_other (told_on before.tells mid.tells keeps.tells tells));
  untouched = λ tells. (
    subst (λ (p : PartState). IsUntouched (part_in before first Peers) p)
        (sym (keeps_other.others (told_on before.tells mid.tells keeps.tells tells) (slot first Peers) (away_from second first (λ e. differ (sym e)) (Peers ∷ []) Peers))) (same tells),
    subst (λ (p : PartState). IsUntouched p (part_in after second Peers)) (keeps.others tells (slot second Peers) (away_from first second differ (Peers ∷ []) Peers))
        (same_other (told_on before.tells mid.tells keeps.tells tells)),
  );
}

-- What both directories remember of each other's peers is kept.
pub record KeepsBoth (first second : List ℕ) (before after : ShelfState) (peers peers_other : List PeerEntry) (node node_other : List ℕ) (ended : PairEnd) : Type 0 where
  pub remembers : IsTrue before.tells → RemembersIn peers node_other ended.remembered_a (memory_in after first)
  pub remembers_other : IsTrue before.tells → RemembersIn peers_other node ended.remembered_b (memory_in after second)

pub both_kept : (first second : List ℕ) → first ≢ second → (before mid after : ShelfState) (peers peers_other : List PeerEntry) (node node_other : List ℕ) (ended : PairEnd)
    → KeepsPeers first before mid → KeepsPeers second mid after
    → (IsTrue before.tells → RemembersIn peers node_other ended.remembered_a (memory_in mid first)) → (IsTrue mid.tells → RemembersIn peers_other node ended.remembered_b (memory_in after second))
    → KeepsBoth first second before after peers peers_other node node_other ended
both_kept first second differ before mid after peers peers_other node node_other ended keeps keeps_other remembers remembers_other = record {
  remembers = λ tells. subst (λ (memory : List ℕ). RemembersIn peers node_other ended.remembered_a memory)
      (sym (other_stays second first (λ e. differ (sym e)) mid after keeps_other (told_on before.tells mid.tells keeps.tells tells))) (remembers tells);
  remembers_other = λ tells. remembers_other (told_on before.tells mid.tells keeps.tells tells);
}

-- ---- ends

abbrev pub is_done_end : End → Bool
is_done_end Done = true
is_done_end (Peer fault) = false
is_done_end Full = false
is_done_end Store = false

abbrev pub is_store_end : End → Bool
is_store_end Done = false
is_store_end (Peer fault) = false
is_store_end Full = false
is_store_end Store = true

-- two ends that a test tells apart are not one
pub told_apart : (test : End → Bool) (end x y : End) → test x ≡ false → test y ≡ true → end ≡ x → end ≡ y → ⊥
told_apart test end x y f t is also = true≢false (sym t ∙ ap test (sym also ∙ is) ∙ f)

-- ---- the stores

-- What became of two stores that hold their updates on the disk.
pub record Met (one other one_new other_new : ReplicaState) (done : Bool) : Type 0 where
  pub on : KeepsOn one one_new
  pub on_other : KeepsOn other other_new
  pub was : IsOnDisk one
  pub was_other : IsOnDisk other
  pub stands : Stands one_new
  pub stands_other : Stands other_new
  pub grows : GrowsBy (one.history.members ++ other.history.members) one.history.members one_new.history.members
  pub grows_other : GrowsBy (one.history.members ++ other.history.members) other.history.members other_new.history.members
  pub whole : done ≡ true → IsWhole one → IsWhole other → IsWhole one_new × IsWhole other_new
  pub later : one.log.faults ≤ one_new.log.faults
  pub later_other : other.log.faults ≤ other_new.log.faults

abbrev pub none_grows : (from members : List (List ℕ)) → GrowsBy from members members
none_grows from members = record { added = []; behind = sym (append-nil members); of = All-nil (Contains from) }

abbrev pub met_none : (one other : ReplicaState) (done : Bool) → Stands one → Stands other → Met one other one other done
met_none one other done stands stands_other = record {
  on = keeps_itself one;
  on_other = keeps_itself other;
  was = stands.on_disk;
  was_other = stands_other.on_disk;
  stands = stands;
  stands_other = stands_other;
  grows = none_grows (one.history.members ++ other.history.members) one.history.members;
  grows_other = none_grows (one.history.members ++ other.history.members) other.history.members;
  whole = λ is_done was was_other. (was, was_other);
  later = omega arith;
  later_other = omega arith;
}

-- what the two ends of a session are left as
abbrev pub met_by : (one other one_new other_new : ReplicaState) (done : Bool) → Stands one → Stands other → Stands one_new → Stands other_new → KeepsOn one one_new → KeepsOn other other_new
    → GrowsBy (one.history.members ++ other.history.members) one.history.members one_new.history.members → GrowsBy (one.history.members ++ other.history.members) other.history.members other_new.history.members
    → one.log.faults ≤ one_new.log.faults → other.log.faults ≤ other_new.log.faults → (done ≡ true → IsWhole one → IsWhole other → IsWhole one_new × IsWhole other_new) → Met one other one_new other_new done
met_by one other one_new other_new done stands stands_other now now_other on on_other grows grows_other later later_other whole = record {
  on = on;
  on_other = on_other;
  was = stands.on_disk;
  was_other = stands_other.on_disk;
  stands = now;
  stands_other = now_other;
  grows = grows;
  grows_other = grows_other;
  whole = whole;
  later = later;
  later_other = later_other;
}

works_by : (old new : ReplicaState) (added : List (List ℕ)) (done : Bool) → KeepsOn old new → IsOnDisk old → Stands new → new.history.members ≡ old.history.members ++ added
    → (done ≡ true → IsWhole old → IsWhole new) → WorksFrom old new added done
works_by old new added done on here stands members whole = λ was taken same.
    subst (λ (r : ReplicaState). WorksOn (record { schema = taken.schema; schema_faults = taken.schema_faults; replica = r }) new added done) (sym same)
    (record {
      schema = on.store.schema;
      members = members;
      closed = stands.history_is.members;
      any_moment = (on.disk here).any_moment;
      on_disk = stands.on_disk;
      log = λ is_done. stands.log_is;
      clean = λ is_done. whole is_done was;
    })

module _ (first second : List ℕ) (before after : ShelfState) (faults faults_new : ℕ) (one other one_new other_new : ReplicaState) (outcome : Outcome)
    (shelf : Shelved first second before after faults faults_new) (met : Met one other one_new other_new (is_done outcome)) where
  abbrev pub Met_so : Type 0
  Met_so = IsTrue before.tells → Meets (opened_store one) (opened_store other) (memory_in before first) (memory_in before second) (memory_in after first) (memory_in after second) met.grows.added met.grows_other.added outcome

  abbrev pub Stopped_so : Type 0
  Stopped_so = IsTrue before.tells → IfStoreFault outcome (IsStopped (opened_store one) (opened_store other) (memory_in before first) (memory_in before second) met.grows.added met.grows_other.added)

  abbrev pub Unremembered : Type 0
  Unremembered = IsRefused outcome → IsTrue before.tells → AreUnremembered first second before after

  pub merges_open : (Met_so × IsMergeEnd outcome × Unremembered) ⊎ IsMergeFault faults faults_new one other one_new other_new outcome → Stopped_so
      → MergesOpen first second before after faults faults_new one other one_new other_new outcome
  merges_open comes stopped = record {
    added = met.grows.added;
    added_other = met.grows_other.added;
    comes = so comes;
    ends = end_of comes;
    peers = λ tells is. unremembered comes is tells;
    works = λ whole_other. works_by one one_new met.grows.added (is_done outcome) met.on met.was met.stands met.grows.behind (λ is_done was. (met.whole is_done was whole_other).0);
    works_other = λ whole. works_by other other_new met.grows_other.added (is_done outcome) met.on_other met.was_other met.stands_other met.grows_other.behind (λ is_done was. (met.whole is_done whole was).1);
    slot = (met.on.disk met.was).any_moment.disk.slot;
    slot_other = (met.on_other.disk met.was_other).any_moment.disk.slot;
    within = record { first = met.grows.of; second = met.grows_other.of };
    stopped = stopped;
    tells = shelf.tells;
    places = shelf.places;
    others = shelf.others;
    later = shelf.later;
    log_later = met.later;
    log_later_other = met.later_other;
  }
    where
      Fault : Type 0
      Fault = IsMergeFault faults faults_new one other one_new other_new outcome

      so : (Met_so × IsMergeEnd outcome × Unremembered) ⊎ Fault → Met_so ⊎ Fault
      so (inl met_so) = inl met_so.0
      so (inr fault) = inr fault

      end_of : (Met_so × IsMergeEnd outcome × Unremembered) ⊎ Fault → IsMergeEnd outcome ⊎ Fault
      end_of (inl met_so) = inl met_so.1
      end_of (inr fault) = inr fault

      unremembered : (Met_so × IsMergeEnd outcome × Unremembered) ⊎ Fault → Unremembered
      unremembered (inl met_so) = met_so.2
      unremembered (inr (inl memory)) = λ is. absurd (subst IsRefused memory is)
      unremembered (inr (inr store)) = λ is. absurd (subst IsRefused store.0 is)

-- nothing was done to either store
pub open_stopped : (first second : List ℕ) (before after : ShelfState) (faults faults_new : ℕ) (one other : ReplicaState) (refusal : Refusal) → Stands one → Stands other
    → Shelved first second before after faults faults_new → IsMergeFault faults faults_new one other one other (Err refusal)
    → MergesOpen first second before after faults faults_new one other one other (Err refusal)
open_stopped first second before after faults faults_new one other refusal stands stands_other shelf fault =
    merges_open first second before after faults faults_new one other one other (Err refusal) shelf (met_none one other false stands stands_other) (inr fault)
    (λ tells. if_fault (Err refusal) (unheld refl refl))

-- What a session added that was held where the store failed.
pub stopped_in : (one other one_new other_new : ReplicaState) (start : PairStart) (ended : PairEnd) (peers peers_other : List PeerEntry)
    → start ≡ start_of (opened_store one) (opened_store other) peers peers_other
    → (grows : GrowsBy (one.history.members ++ other.history.members) one.history.members one_new.history.members)
    → (grows_other : GrowsBy (one.history.members ++ other.history.members) other.history.members other_new.history.members)
    → Syncs store_limits store_limits one.history.schema.rule other.history.schema.rule start one.history.members other.history.members ended one_new.history.members other_new.history.members
    → (memory memory_other : List ℕ) → Reads memory peers → Reads memory_other peers_other → (ended.a ≡ Store) ⊎ (ended.a ≡ Done)
    → IsStopped (opened_store one) (opened_store other) memory memory_other grows.added grows_other.added
stopped_in one other one_new other_new start ended peers peers_other starts grows grows_other syncs memory memory_other reads reads_other end =
    held ended peers peers_other reads reads_other end
    (subst (λ (s : PairStart). Syncs store_limits store_limits one.history.schema.rule other.history.schema.rule s one.history.members other.history.members ended
    (one.history.members ++ grows.added) (other.history.members ++ grows_other.added)) starts
    (subst (λ (l : List (List ℕ)). Syncs store_limits store_limits one.history.schema.rule other.history.schema.rule start one.history.members other.history.members ended l
    (other.history.members ++ grows_other.added)) grows.behind
    (subst (λ (l : List (List ℕ)). Syncs store_limits store_limits one.history.schema.rule other.history.schema.rule start one.history.members other.history.members ended one_new.history.members l)
    grows_other.behind syncs)))

-- What the session of two stores came to.
module _ (one other one_new other_new : ReplicaState) (start : PairStart) (ended : PairEnd) (peers peers_other : List PeerEntry)
    (starts : start ≡ start_of (opened_store one) (opened_store other) peers peers_other)
    (grows : GrowsBy (one.history.members ++ other.history.members) one.history.members one_new.history.members)
    (grows_other : GrowsBy (one.history.members ++ other.history.members) other.history.members other_new.history.members)
    (syncs : Syncs store_limits store_limits one.history.schema.rule other.history.schema.rule start one.history.members other.history.members ended one_new.history.members other_new.history.members)
    (unites : one.history.schema.rule ≡ other.history.schema.rule → start.database_a ≡ start.database_b → NoCollision (map entry_of one.history.members) (map entry_of other.history.members) → ended.a ≢ Full → ended.a ≢ Store
    → Unites one.history.members other.history.members ended one_new.history.members other_new.history.members)
    (room : NoCollision (map entry_of one.history.members) (map entry_of other.history.members) → HasRoom store_limits one.history.members other.history.members
    → HasRoom store_limits other.history.members one.history.members → ended.a ≢ Full)
    (not_store : ended.a ≢ Store) where
  pub meets : (memory memory_other memory_new memory_other_new : List ℕ) (outcome : Outcome) → Reads memory peers → Reads memory_other peers_other → TellsEnd ended outcome
      → (ended.a ≡ Done → RemembersIn peers other.node ended.remembered_a memory_new) → (ended.a ≡ Done → RemembersIn peers_other one.node ended.remembered_b memory_other_new)
      → Meets (opened_store one) (opened_store other) memory memory_other memory_new memory_other_new grows.added grows_other.added outcome
  meets memory memory_other memory_new memory_other_new outcome reads reads_other tells remembers remembers_other = record {
    ended = ended;
    peers = peers;
    peers_other = peers_other;
    reads = reads;
    reads_other = reads_other;
    syncs =
        subst (λ (s : PairStart). Syncs store_limits store_limits one.history.schema.rule other.history.schema.rule s one.history.members other.history.members ended
        (one.history.members ++ grows.added) (other.history.members ++ grows_other.added)) starts
        (subst (λ (l : List (List ℕ)). Syncs store_limits store_limits one.history.schema.rule other.history.schema.rule start one.history.members other.history.members ended l
        (other.history.members ++ grows_other.added)) grows.behind
        (subst (λ (l : List (List ℕ)). Syncs store_limits store_limits one.history.schema.rule other.history.schema.rule start one.history.members other.history.members ended one_new.history.members l)
        grows_other.behind syncs));
    unites = λ rule apart not_full.
        subst (λ (l : List (List ℕ)). Unites one.history.members other.history.members ended l (other.history.members ++ grows_other.added)) grows.behind
        (subst (λ (l : List (List ℕ)). Unites one.history.members other.history.members ended one_new.history.members l) grows_other.behind
        (unites rule (database rule) apart not_full not_store));
    room = room;
    tells = tells;
    remembers = remembers;
    remembers_other = remembers_other;
  }
    where
      database : one.history.schema.rule ≡ other.history.schema.rule → start.database_a ≡ start.database_b
      database rule =
          ap (λ (s : PairStart). s.database_a) starts ∙ ap (λ (r : RuleData). r.database) rule ∙ sym (ap (λ (s : PairStart). s.database_b) starts)
