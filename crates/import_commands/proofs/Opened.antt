-- Taking updates into a store that is open.
use Rattle.std.proofs.Common.{◌≡◌, inl, inr, ℕ, ◌≤◌, true, false, List, [], ◌++◌, arith, length, map, refl, ap, subst, ◌∙◌, IsTrue, Ok, Err, Vec, All}
use Rattle.std.specs.declared.alloc.Global.{Global}
use Rattle.std.proofs.lemmas.List.{length-map}
use Rattle.bec_bytes.specs.Framed.{stream_of}
use Rattle.bec_disk.specs.Disk.{LeavesOnly}
use Rattle.history.specs.Histories.{HistoryData}
use Rattle.outcomes.proofs.Working.{works_failed, works_not, works_on}
use Rattle.outcomes.specs.declared.refusal.Refusal.TheVariants as refusals
use Rattle.replica.specs.Replicas.{IsSameStore, ReplicaState}
use Rattle.schema.specs.Data.{SchemaData}
use Rattle.session_rules.specs.declared.peer_fault.PeerFault.TheVariants.{WrongDatabase}
use Rattle.store_directory.specs.Standing.{Stands}
use Rattle.update_check.specs.Holding.{Commits, IsAdded}
use Rattle.update_check.specs.Signed.{IsChecked, IsUnder, SpellsSigned}
use Rattle.update_check.specs.declared.holder.CommitFault.{CommitFault}
use Rattle.update_check.specs.declared.holder.CommitFault.TheVariants.{DiskFault, Full, Memory}
use Rattle.update_check.specs.declared.holder.Committed.{Committed}
use Rattle.update_codec.specs.Parts.{body_of, entry_of, id_of, update_of}
use Rattle.update_log.specs.Log.{IsClean}
use Rattle.update_log.specs.Logset.{BeginsWith}
use Rattle.update_model.specs.Batch.{Adds, store_limits}
use Rattle.update_model.specs.Entry.{Entry}
use Rattle.update_model.specs.Graph.{IsClosed}
use Rattle.update_model.specs.Rule.{RuleData}
use Rattle.import_commands.specs.Refusals.{not_committed}
use Rattle.import_commands.specs.Taking.{ContentsData, IsOfDatabase, TakesIn, TakesOpen, gained_text, other_database, taken, too_much}
use Rattle.import_commands.proofs.Batches.{none_waits}

-- an update that its author signed and that is under a rule
pub checked_as : (rule : RuleData) (bytes : List ℕ) → SpellsSigned bytes (update_of bytes) → IsUnder rule (body_of bytes) → IsChecked rule bytes
checked_as rule bytes signed under = (update_of bytes, signed, under)

history_is : (h : HistoryData) (schema : SchemaData) (members : List (List ℕ)) → h.schema ≡ schema → h.members ≡ members → h ≡ record { schema = schema; members = members }
history_is h schema members same behind =
    ap (λ (s : SchemaData). let d : HistoryData = record { schema = s; members = h.members } in d) same
    ∙ ap (λ (l : List (List ℕ)). let d : HistoryData = record { schema = schema; members = l } in d) behind

module _ (contents : ContentsData) (lines : List ℕ) (old : ReplicaState) (stands : Stands old) where
  -- they are of another database
  pub of_another : (IsOfDatabase old.history.schema contents → ⊥) → TakesOpen contents lines old old (Err (refusals.Peer WrongDatabase))
  of_another other = record {
    added = [];
    comes = inl (other_database other refl refl);
    ends = inl tt;
    all = inl refl;
    works = works_not old false stands;
    later = omega arith;
  }

  module _ (mine : IsOfDatabase old.history.schema contents) (new : ReplicaState) (stands_new : Stands new) (store : IsSameStore old new)
      (leaves : LeavesOnly old.log.disk new.log.disk (BeginsWith (stream_of old.history.members))) (later : old.log.faults ≤ new.log.faults) where
    -- they were committed
    module _ (closed : IsClosed (map entry_of contents.updates)) (committed : Committed) (is : IsAdded store_limits old.history.members contents.updates committed new.history.members) where
      taken_in : TakesIn old.history.members contents.updates is.added
      taken_in =
          let none = none_waits (map entry_of old.history.members) (map entry_of contents.updates) (map entry_of is.added) (map entry_of committed.waiting) closed is.adds in
          subst (λ (l : List Entry). Adds (map entry_of old.history.members) (map entry_of contents.updates) (map entry_of is.added) l) none is.adds

      grown : new.history ≡ record { schema = old.history.schema; members = old.history.members ++ is.added }
      grown = history_is new.history old.history.schema (old.history.members ++ is.added) store.schema is.behind

      -- and it is said how many
      pub said : (IsTrue old.log.disk.tells → IsClean new.log.end new.log.disk) → (text : Vec ℕ Global) → text.items ≡ lines ++ gained_text (length committed.added) → TakesOpen contents lines old new (Ok text)
      said clean text printed =
          let count : length committed.added ≡ length is.added = ap length is.ids ∙ length-map is.added id_of in
          record {
            added = is.added;
            comes = inl (taken mine taken_in (printed ∙ ap (λ (n : ℕ). lines ++ gained_text n) count));
            ends = inl tt;
            all = inr taken_in;
            works = works_on old new is.added true grown leaves stands_new (λ was is_done tells. clean tells);
            later = later;
          }

      -- or memory ran out for that
      pub unsaid : TakesOpen contents lines old new (Err refusals.Memory)
      unsaid = record {
        added = is.added;
        comes = inr (inl refl);
        ends = inr (inl refl);
        all = inr taken_in;
        works = works_on old new is.added false grown leaves stands_new (λ was is_done tells. absurd cc);
        later = later;
      }

    -- they were not
    pub not_taken : (fault : CommitFault) → Commits store_limits old.history.members contents.updates (Err fault) old.log.faults new.log.faults new.history.members
        → TakesOpen contents lines old new (Err (not_committed fault))
    not_taken Full much = record {
      added = [];
      comes = inl (too_much mine much.0 refl refl);
      ends = inl tt;
      all = inl refl;
      works = works_failed old new (history_is new.history old.history.schema old.history.members store.schema much.1) leaves stands_new;
      later = later;
    }
    not_taken DiskFault rose = record {
      added = [];
      comes = inr (inr (refl, rose.0));
      ends = inr (inr (refl, rose.0));
      all = inl refl;
      works = works_failed old new (history_is new.history old.history.schema old.history.members store.schema rose.1) leaves stands_new;
      later = later;
    }
    not_taken Memory same = record {
      added = [];
      comes = inr (inl refl);
      ends = inr (inl refl);
      all = inl refl;
      works = works_failed old new (history_is new.history old.history.schema old.history.members store.schema same) leaves stands_new;
      later = later;
    }

-- ---- under equal rules

pub under_as : (rule rule_is : RuleData) (updates updates_are : List (List ℕ)) → rule ≡ rule_is → updates ≡ updates_are → All (λ bytes. IsUnder rule (body_of bytes)) updates
    → All (λ bytes. IsUnder rule_is (body_of bytes)) updates_are
under_as rule rule_is updates updates_are same are all =
    subst (λ (r : RuleData). All (λ bytes. IsUnder r (body_of bytes)) updates_are) same (subst (λ (l : List (List ℕ)). All (λ bytes. IsUnder rule (body_of bytes)) l) are all)

pub checked_all : (rule rule_is : RuleData) (updates updates_are : List (List ℕ)) → rule ≡ rule_is → updates ≡ updates_are → All (IsChecked rule) updates → All (IsChecked rule_is) updates_are
checked_all rule rule_is updates updates_are same are all = subst (λ (r : RuleData). All (IsChecked r) updates_are) same (subst (λ (l : List (List ℕ)). All (IsChecked rule) l) are all)
