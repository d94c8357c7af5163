use Rattle.std.proofs.Common.{◌≡◌, ◌-◌, ◌∙◌, length, ap, arith, Bool, false, replicate}
use Rattle.std.proofs.lemmas.List.{length-replicate}
use Rattle.ancestry.proofs.Marking.{named_all, first_step, next_step, pass_step}
use Rattle.ancestry.proofs.Marking.{put_back}
use Rattle.ancestry.proofs.walk.behind.Goals as goal

pub loop-position-init : goal.loop-position-init
loop-position-init c =
    let lent = c.deref_mut.ensures.value in
    let none : c.in_ok-marks.marks.items ≡ replicate (length c.args.members.now) false = c.in_ok-marks.ensures.items_if_clones_equal (λ y is. is) in
    let size : length c.deref_mut.result.now ≡ length c.args.members.now = ap (length {A = Bool}) (lent ∙ none) ∙ length-replicate (length c.args.members.now) false in
    let same : length c.mark_all.new.marks ≡ length c.deref_mut.result.now = c.mark_all.auto.marks in
    rw (put_back c.in_ok-marks.marks.len c.mark_all.new.marks c.in_ok-marks.marks.items (same ∙ c.deref_mut.ensures.len)) record {
      long = same ∙ size;
      marked = first_step c.args.members.now c.args.old.now c.deref_mut.result.now c.mark_all.new.marks c.requires.lower c.requires.held (lent ∙ none) c.mark_all.ensures size;
    }

pub mark_all-requires-then-index : goal.mark_all-requires-then-index
mark_all-requires-then-index c =
    let size : length c.deref_mut-then-index.result.now ≡ length c.args.members.now = ap (length {A = Bool}) c.deref_mut-then-index.ensures.value ∙ c.loop-position.invariant.long in
    let is = c.as_slice.ensures in
    named_all c.args.members.now (c.loop-position.position - 1) (length c.deref_mut-then-index.result.now) c.as_slice.result.now c.requires.lower (omega arith) (rw is c.index-members-position.is) size

pub loop-position-preserved-then-index : goal.loop-position-preserved-then-index
loop-position-preserved-then-index c =
    let lent = c.deref_mut-then-index.ensures.value in
    let same : length c.mark_all-then-index.new.marks ≡ length c.deref_mut-then-index.result.now = c.mark_all-then-index.auto.marks in
    let size : length c.deref_mut-then-index.result.now ≡ length c.args.members.now = ap (length {A = Bool}) lent ∙ c.loop-position.invariant.long in
    rw (put_back c.loop-position.marks.len c.mark_all-then-index.new.marks c.loop-position.marks.items (same ∙ c.deref_mut-then-index.ensures.len)) record {
      long = same ∙ size;
      marked = next_step c.args.members.now c.args.old.now (c.loop-position.position - 1) c.loop-position.position c.loop-position.marks.items c.mark_all-then-index.new.marks c.as_slice.result.now c.index.result.now
          c.requires.lower (omega arith) (omega arith) c.loop-position.invariant.long c.index.ensures c.if-index.true (rw c.as_slice.ensures c.index-members-position.is)
          (rw lent at c.mark_all-then-index.ensures) c.loop-position.invariant.marked;
    }

pub loop-position-preserved : goal.loop-position-preserved
loop-position-preserved c = record {
  long = c.loop-position.invariant.long;
  marked = pass_step c.args.members.now c.args.old.now (c.loop-position.position - 1) c.loop-position.position c.loop-position.marks.items c.index.result.now
      c.requires.lower (omega arith) (omega arith) c.loop-position.invariant.long c.index.ensures c.if-index.false c.loop-position.invariant.marked;
}
