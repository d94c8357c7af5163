use Rattle.std.proofs.Common.{◌≡◌, ℕ, ◌<◌, ◌==◌, Bool, ◌&&◌, List, get_or, length, ap, ◌∙◌, arith}
use Rattle.std.proofs.lemmas.Bool.{eq-eqb, eqb-true, false_from_ne_true}
use Rattle.tuple_state.specs.Known.{count_to}
use Rattle.tuple_state.proofs.Raising.{grown_count}
use Rattle.tuple_state.proofs.Tallying.{count_few, none_yet, not_counted, one_counted}
use Rattle.tuple_state.proofs.known.add_shown.Goals as goal
use Rattle.tuple_state.proofs.known.add_shown.Goals.{then-causes-place-eq0, else-causes-place-eq0}

pub overflow_add-shown : goal.overflow_add-shown
overflow_add-shown c =
    let n = c.loop-place.place in
    let group = get_or c.args.groups.now n 0 in
    let so_far = c.loop-place.invariant.counts group in
    let few = count_few (λ k. (get_or c.args.causes.now k 0 == 0) && (get_or c.args.groups.now k 0 == group)) n in
    omega (arith, so_far, few, c.loop-place-test.true, c.requires.few)

pub loop-place-init : goal.loop-place-init
loop-place-init c = record {
  counts = λ group. c.clear.ensures group ∙ none_yet (λ k. (get_or c.args.causes.now k 0 == 0) && (get_or c.args.groups.now k 0 == group));
  most = omega arith;
}

pub loop-place-preserved : goal.loop-place-preserved
loop-place-preserved c = record {
  counts = λ group.
      let causes = c.args.causes.now in
      let groups = c.args.groups.now in
      let n = c.loop-place.place in
      let test : ℕ → Bool = λ k. (get_or causes k 0 == 0) && (get_or groups k 0 == group) in
      let so_far = c.loop-place.invariant.counts group in
      elim c.if-causes-place-eq0.branch [
        | then-causes-place-eq0 w ↦
            let low = c.requires.inside n c.loop-place-test.true in
            let inside : get_or groups n 0 < length c.loop-place.shown = omega (arith, low, c.loop-place-test.true, c.requires.room, c.clear.auto.causes, c.loop-place.auto.shown) in
            ap (λ (l : List ℕ). get_or l group 0) w.shown-is ∙ grown_count c.loop-place.shown (get_or groups n 0) inside group
            ∙ one_counted test n (get_or c.loop-place.shown group 0) (get_or groups n 0 == group) so_far (ap (λ b. b && (get_or groups n 0 == group)) (eq-eqb (get_or causes n 0) 0 w.if-causes-place-eq0.true))
        | else-causes-place-eq0 w ↦
            ap (λ (l : List ℕ). get_or l group 0) w.shown-is ∙ not_counted test n (get_or c.loop-place.shown group 0) so_far (ap (λ b. b && (get_or groups n 0 == group)) (false_from_ne_true (get_or causes n 0 == 0) (λ h. w.if-causes-place-eq0.false (eqb-true (get_or causes n 0) 0 h))))
      ];
  most = omega (arith, c.loop-place-test.true);
}

pub returns : goal.returns
returns c group =
    let end : c.loop-place.place ≡ length c.args.groups.now = omega (arith, c.loop-place-test.false, c.loop-place.invariant.most) in
    c.loop-place.invariant.counts group ∙ ap (count_to (λ k. (get_or c.args.causes.now k 0 == 0) && (get_or c.args.groups.now k 0 == group))) end
