use Rattle.std.proofs.Common.{◌∙◌, ◌+◌, ◌&&◌, not, take, slice_index_or, [], ap, arith, sym}
use Rattle.update_model.specs.declared.update_id.UpdateId.{UpdateId}
use Rattle.update_model.specs.Entry.{same_id}
use Rattle.update_model.specs.Graph.{has}
use Rattle.head_set.specs.Spans.{heads_at}
use Rattle.head_set.proofs.HeadSteps.{has_more, out_too}
use Rattle.head_set.proofs.heads.end_all.Goals.{then-end, else-end}
use Rattle.head_set.proofs.heads.end_all.Goals as goal

pub loop-id-preserved : goal.loop-id-preserved
loop-id-preserved c = record {
  earlier = λ n low. c.end.ensures.earlier n low ∙ c.loop-id.invariant.earlier n low;
  exact = λ x.
      let none : UpdateId = record { 0 = [] } in
      let id = slice_index_or c.args.ids.now c.loop-id.id-index none in
      let was = has (heads_at c.args.spans.now.entries (c.args.position + 1)) x in
      c.end.ensures.exact x ∙ ap (λ b. b && not (same_id x id)) (c.loop-id.invariant.exact x) ∙ out_too was (has (take c.loop-id.id-index c.args.ids.now) x) (same_id x id)
      ∙ ap (λ b. was && not b) (sym (has_more c.args.ids.now c.loop-id.id-index none x c.loop-id-test.true));
  count = elim c.if-end.branch [
    | then-end w ↦ let one = rw w.if-end.true at c.end.ensures.count in let before = c.loop-id.invariant.count in omega (arith, w.ended-is, one, before)
    | else-end w ↦ let none = rw w.if-end.false at c.end.ensures.count in let before = c.loop-id.invariant.count in omega (arith, w.ended-is, none, before)
  ];
  before = c.end.ensures.before;
  rising = c.end.ensures.rising;
}
