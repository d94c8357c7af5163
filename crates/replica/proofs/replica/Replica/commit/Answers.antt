use Rattle.std.proofs.Common.{List, ℕ, All, map, subst, sym, ◌∙◌}
use Rattle.bec_bytes.specs.Framed.{stream_of}
use Rattle.bec_disk.specs.Disk.{LeavesOnly}
use Rattle.update_model.specs.Batch.{Adds, store_limits}
use Rattle.update_codec.specs.Parts.{entry_of, id_of}
use Rattle.update_check.specs.Holding.{IsAdded}
use Rattle.update_check.specs.declared.holder.Committed.{Committed}
use Rattle.update_check.specs.Signed.{IsChecked}
use Rattle.update_log.specs.Logset.{BeginsWith}
use Rattle.replica.specs.Replicas.{ReplicaState}
use Rattle.replica.proofs.Logs.{ids_behind, log_stays}
use Rattle.replica.proofs.replica.Replica.commit.Goals as goal

pub add_batch-requires-after_bounds : goal.add_batch-requires-after_bounds
add_batch-requires-after_bounds g c = λ lives outlives. subst (λ (r : ReplicaState). All (IsChecked r.history.schema.rule) c.args.batch.items) (sym c.self.view_is) c.requires

pub returns-in-Err-clause-any_moment : goal.returns-in-Err-clause-any_moment
returns-in-Err-clause-any_moment g c =
    subst (λ (r : ReplicaState). LeavesOnly r.log.disk c.self.inside.log.disk (BeginsWith (stream_of r.history.members))) c.self.view_is
    (log_stays c.self.inside.history.members c.self.inside.log c.self.invariant.log c.is_unsure.ensures.kept)

pub returns-in-Ok-write_tail-clause-commits : goal.returns-in-Ok-write_tail-clause-commits
returns-in-Ok-write_tail-clause-commits g c =
    let before = c.self.inside.history.members in
    let after = c.add_batch.new.self.members in
    let adds = c.in-Ok.ensures.added in
    let committed : Committed = record { added = c.in-Ok-write_tail.added; waiting = c.from_vec.result } in
    subst (λ (r : ReplicaState). IsAdded store_limits r.history.members c.args.batch.items committed after) c.self.view_is
    (record {
      added = adds.added;
      behind = adds.behind;
      ids = c.in-Ok-write_tail.ensures.ids ∙ ids_behind id_of before after adds.added c.len-len.result adds.behind c.len-len.ensures.value;
      adds = subst (λ (l : List (List ℕ)). Adds (map entry_of before) (map entry_of c.args.batch.items) (map entry_of adds.added) (map entry_of l)) (sym c.from_vec.ensures) adds.adds;
      fit = c.len.ensures.kept.members.within;
    })
