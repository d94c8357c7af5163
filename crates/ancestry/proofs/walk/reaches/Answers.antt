use Rattle.std.proofs.Common.{◌≡◌, ◌+◌, ◌-◌, length, slice_set, true, false, ◌∙◌, refl, ap, arith, Bool, List}
use Rattle.std.proofs.lemmas.List.{length-set, length-replicate}
use Rattle.std.proofs.lemmas.List.{get_or_read}
use Rattle.ancestry.proofs.Marking.{put_back}
use Rattle.ancestry.proofs.Sweep.{bare_first, bare_next, swept_bare, swept_end, swept_first, swept_next, named_within}
use Rattle.ancestry.proofs.walk.reaches.Goals as goal

pub loop-offset-init : goal.loop-offset-init
loop-offset-init c =
    let none = c.in_ok-marks.ensures.items_if_clones_equal (λ y is. is) in
    record {
      long = omega (arith, length-set c.in_ok-marks.marks.items (c.args.b - c.args.a) true, ap (length {A = Bool}) none, length-replicate (c.args.b - c.args.a + 1) false);
      swept = swept_first c.args.members.now c.args.a c.args.b (c.args.b - c.args.a) (c.args.b - c.args.a + 1) (slice_set c.in_ok-marks.marks.items (c.args.b - c.args.a) true)
          c.requires.below refl refl (ap (λ (marks : List Bool). slice_set marks (c.args.b - c.args.a) true) none);
      inside = omega arith;
      bare = λ j under. bare_first (c.args.b - c.args.a) j (slice_set c.in_ok-marks.marks.items (c.args.b - c.args.a) true) (ap (λ (marks : List Bool). slice_set marks (c.args.b - c.args.a) true) none) under;
    }

pub mark_all-requires : goal.mark_all-requires
mark_all-requires c =
    let long : length c.deref_mut.result.now ≡ c.args.b - c.args.a + 1 = ap (length {A = Bool}) c.deref_mut.ensures.value ∙ c.loop-offset.invariant.long in
    let is = c.as_slice-preds.ensures in
    named_within c.args.members.now c.args.a (c.loop-offset.offset - 1) (length c.deref_mut.result.now) c.as_slice-preds.result.now c.requires.lower (omega arith)
    (rw is c.index-members-a.is) (omega arith)

pub loop-offset-preserved-then-index : goal.loop-offset-preserved-then-index
loop-offset-preserved-then-index c =
    let lent = c.deref_mut.ensures.value in
    let long : length c.deref_mut.result.now ≡ c.args.b - c.args.a + 1 = ap (length {A = Bool}) lent ∙ c.loop-offset.invariant.long in
    let same : length c.mark_all.new.marks ≡ length c.deref_mut.result.now = c.mark_all.auto.marks in
    let all : length c.mark_all.new.marks ≡ c.loop-offset.marks.len = same ∙ c.deref_mut.ensures.len in
    rw (put_back c.loop-offset.marks.len c.mark_all.new.marks c.loop-offset.marks.items all) record {
      long = same ∙ long;
      swept = swept_next c.args.members.now c.args.a c.args.b (c.loop-offset.offset - 1) c.loop-offset.offset c.loop-offset.marks.items c.mark_all.new.marks c.as_slice-preds.result.now c.index.result.now
          c.requires.lower (omega arith) (omega arith) (omega arith) (omega arith) c.index.ensures c.if-index.true
          (rw c.as_slice-preds.ensures c.index-members-a.is) (rw lent at same) (rw lent at c.mark_all.ensures) c.loop-offset.invariant.swept;
      inside = omega (arith, c.lowest-low.ensures.least, c.loop-offset.invariant.inside);
      bare = λ j under.
          bare_next c.args.a j c.loop-offset.marks.items c.mark_all.new.marks c.as_slice-preds.result.now
          ((rw lent at c.mark_all.ensures) j (omega (arith, under, c.lowest-low.ensures.least, c.loop-offset.invariant.inside, c.loop-offset.invariant.long)))
          (c.loop-offset.invariant.bare j (omega (arith, under, c.lowest-low.ensures.least))) (c.lowest-low.ensures.below j under);
    }

pub returns : goal.returns
returns c =
    let marks = c.loop-offset.marks.items in
    get_or_read marks 0 c.index-2.result.now (omega (arith, c.loop-offset.invariant.long)) c.index-2.ensures false
    ∙ swept_end c.args.members.now c.args.a c.args.b c.loop-offset.offset marks (omega arith) c.loop-offset.invariant.swept

pub returns-then-offset-low : goal.returns-then-offset-low
returns-then-offset-low c =
    swept_bare c.args.members.now c.args.a c.args.b c.loop-offset.offset c.loop-offset.low c.loop-offset.marks.items (omega arith) c.loop-offset.invariant.bare c.loop-offset.invariant.swept
