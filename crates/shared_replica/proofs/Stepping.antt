-- A stored replica before and after a step of a session.
use Rattle.std.proofs.Common.{◌≡◌, ◌≤◌, ◌-◌, ℕ, List, [], ◌∷◌, ◌++◌, length, map, Result, IfOk, sym, ap, ◌∙◌, subst, arith, append-nil, length-append}
use Rattle.std.proofs.lemmas.Bool.Decides.{nat_tests}
use Rattle.std.proofs.lemmas.List.{length-map}
use Rattle.std.specs.Prelude.{nat_le, ◌&&◌, true}
use Rattle.std.specs.declared.alloc.AllocError.{AllocError}
use Rattle.bec_disk.specs.Disk.{IsSameDisk}
use Rattle.replica.specs.Holding.{IsOnDisk, KeepsOn}
use Rattle.replica.specs.Replicas.{ReplicaState}
use Rattle.sync_session.specs.Kept.{Kept, BelongsTo, GrowsBy, StepsTo}
use Rattle.sync_session.specs.declared.checked_frame.CheckedFrame.{CheckedFrame}
use Rattle.sync_session.specs.declared.out.Out.{Out}
use Rattle.update_codec.specs.Parts.{entry_of}
use Rattle.update_model.specs.Batch.{store_limits}
use Rattle.update_model.specs.Graph.{byte_count, is_within}
use Rattle.update_model.specs.declared.limits.TheConstants.{MAX_BYTES, MAX_MEMBERS}
use Rattle.shared_replica.specs.declared.entry.Run.{Run}
use Rattle.shared_replica.specs.Entries.{Story, listed, IsStored, updates_of}
use Rattle.shared_replica.specs.Sessions.{BelongsIn}
use Rattle.shared_replica.proofs.Going.{belongs_now}
use Rattle.shared_replica.proofs.Growing.{story, updates_now}
use Rattle.shared_replica.proofs.Lists.{store_of, updates_listed}

-- how many stand behind those before
pub count_added : (before added after : List (List ℕ)) (m n : ℕ) → after ≡ before ++ added → m ≡ length before → n ≡ length after → n - m ≡ length added
count_added before added after m n behind low high = let all = ap length behind in omega (arith, length-append before added)

pub none_added : (before added after : List (List ℕ)) → after ≡ before ++ added → 0 ≡ length added → after ≡ before
none_added before [] after behind none = behind ∙ append-nil before
none_added before (u ∷ us) after behind none = absurd (omega arith)

-- the log is on the same disk after a step
pub same_after : (replica new : ReplicaState) → KeepsOn replica new → IsOnDisk replica → IsSameDisk replica.log.disk new.log.disk
same_after replica new keeps here = (keeps.disk here).any_moment.disk

few_within : (members bytes : ℕ) → (nat_le members MAX_MEMBERS && nat_le bytes MAX_BYTES) ≡ true → members ≤ MAX_MEMBERS
few_within members bytes within = grind (arith, nat_tests)

-- a session that belongs to a beginning of the list belongs to all updates
pub belongs_inside : (opening : ReplicaState) (opened : ℕ) (runs : List Run) (faults : ℕ) (replica : ReplicaState) → IsStored opening opened runs faults replica → (now : Story)
    → story opening opened runs replica ≡ now → (k : Kept) → is_within (map entry_of replica.history.members) ≡ true → BelongsIn now.entries k
    → BelongsTo store_limits replica.history.schema.rule k replica.history.members
belongs_inside opening opened runs faults replica is now was k within b =
    let few : length (map entry_of replica.history.members) ≤ MAX_MEMBERS = few_within (length (map entry_of replica.history.members)) (byte_count (map entry_of replica.history.members)) within in
    belongs_now (listed opening opened runs replica.history.members) replica (store_of opening opened runs faults replica is) k (omega (arith, few, length-map replica.history.members entry_of))
    (subst (λ (s : Story). BelongsIn s.entries k) (sym was) b)

-- what is said of the members, said of the updates of the list
module _ (opening : ReplicaState) (opened : ℕ) (runs runs' : List Run) (faults faults' : ℕ) (replica new : ReplicaState) (is : IsStored opening opened runs faults replica)
    (next : IsStored opening opened runs' faults' new) (now : Story) (was : story opening opened runs replica ≡ now) where
  before_listed : replica.history.members ≡ updates_of now.entries
  before_listed = updates_now opening opened runs faults replica is now was

  after_listed : new.history.members ≡ updates_of (listed opening opened runs' new.history.members)
  after_listed = sym (updates_listed opening opened runs' faults' new next)

  pub steps_listed : (k then : Kept) (frame : CheckedFrame) (answer : Result Out AllocError) → IfOk answer (λ out. StepsTo store_limits k replica.history.members frame then out new.history.members)
      → IfOk answer (λ out. StepsTo store_limits k (updates_of now.entries) frame then out (updates_of (listed opening opened runs' new.history.members)))
  steps_listed k then frame answer e =
      subst (λ (z : List (List ℕ) × List (List ℕ)). IfOk answer (λ out. StepsTo store_limits k z.0 frame then out z.1)) (λ i. (before_listed i, after_listed i)) e

  pub belongs_listed : (then : Kept) → BelongsTo store_limits replica.history.schema.rule then new.history.members
      → BelongsTo store_limits now.store.history.schema.rule then (updates_of (listed opening opened runs' new.history.members))
  belongs_listed then e = subst (λ (z : ReplicaState × List (List ℕ)). BelongsTo store_limits z.0.history.schema.rule then z.1) (λ i. ((was i).store, after_listed i)) e

  pub gains_listed : (from : List (List ℕ)) → GrowsBy from replica.history.members new.history.members
      → GrowsBy from (updates_of now.entries) (updates_of (listed opening opened runs' new.history.members))
  gains_listed from e = subst (λ (z : List (List ℕ) × List (List ℕ)). GrowsBy from z.0 z.1) (λ i. (before_listed i, after_listed i)) e
