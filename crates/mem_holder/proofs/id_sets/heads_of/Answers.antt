use Rattle.std.proofs.Common.{◌≡◌, ◌∙◌, ◌+◌, ◌&&◌, BTreeSet, map, not, subst, sym, take}
use Rattle.std.specs.BTreeSet.{keys}
use Rattle.std.specs.List.Sorted.{IsStrictlySortedBy}
use Rattle.update_model.specs.declared.update_id.UpdateId.{UpdateId as Id}
use Rattle.update_model.specs.Entry.{id_cmp}
use Rattle.update_model.specs.Graph.{has, holds, names}
use Rattle.update_codec.specs.Parts.{entry_of}
use Rattle.mem_holder.proofs.Heads.{named_is_none, unnamed_is_one}
use Rattle.mem_holder.proofs.id_sets.heads_of.Goals as goal
use Rattle.mem_holder.proofs.id_sets.heads_of.Goals.{then-not-has_id+in_ok-insert, else-not-has_id}

pub loop-position-preserved : goal.loop-position-preserved
loop-position-preserved c =
    elim c.if-not-has_id.branch [
      | then-not-has_id+in_ok-insert w ↦ record {
        exact = λ q. subst (λ (s : BTreeSet Id). has (keys s) q ≡ (holds (map entry_of (take (c.loop-position.position + 1) c.args.graph.now)) q && not (names (map entry_of c.args.graph.now) q))) (sym w.heads-is)
            (unnamed_is_one c.args.graph.now c.loop-position.position c.at.result.now c.id-id.result (keys c.loop-position.heads) (keys w.insert.new.self) c.at.ensures c.id-id.ensures
            c.loop-position.invariant.exact (sym (c.in_ok-named.ensures c.id-id.result) ∙ sym c.has_id.ensures ∙ w.if-not-has_id.true) (λ p. w.in_ok-insert.ensures.updates.0 p) q);
        rising = subst (λ (s : BTreeSet Id). IsStrictlySortedBy id_cmp (keys s)) (sym w.heads-is) w.in_ok-insert.ensures.ordered;
      }
      | else-not-has_id w ↦ record {
        exact = λ q. subst (λ (s : BTreeSet Id). has (keys s) q ≡ (holds (map entry_of (take (c.loop-position.position + 1) c.args.graph.now)) q && not (names (map entry_of c.args.graph.now) q))) (sym w.heads-is)
            (named_is_none c.args.graph.now c.loop-position.position c.at.result.now c.id-id.result (keys c.loop-position.heads) (keys c.loop-position.heads) c.at.ensures c.id-id.ensures
            c.loop-position.invariant.exact (sym (c.in_ok-named.ensures c.id-id.result) ∙ sym c.has_id.ensures ∙ w.if-not-has_id.false) q);
        rising = subst (λ (s : BTreeSet Id). IsStrictlySortedBy id_cmp (keys s)) (sym w.heads-is) c.loop-position.invariant.rising;
      }
    ]
