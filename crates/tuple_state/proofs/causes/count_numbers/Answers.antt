use Rattle.std.proofs.Common.{rules, ◌≡◌, ◌+◌, ◌<◌, ℕ, List, ap, get_or, length, sym, take, ◌∙◌, arith}
use Rattle.std.proofs.lemmas.List.Sums.{sum_by_more_le}
use Rattle.tuple_state.specs.Causes.{absent_times, one_at}
use Rattle.tuple_state.specs.declared.links.Link.{Link}
use Rattle.std.specs.Prelude.{◌==◌}
use Rattle.tuple_state.proofs.Raising.{absent_fewer, grown_count, number_counted, number_passed, one_here, rising_at, unit}
use Rattle.tuple_state.proofs.causes.count_numbers.Goals as goal
use Rattle.tuple_state.proofs.causes.count_numbers.Goals.{then-causes-link-ne0, else-causes-link-ne0}

pub offset_bounds-causes-link : goal.offset_bounds-causes-link
offset_bounds-causes-link c =
    let at = rising_at 0 (length c.args.causes.now) c.args.links.now c.loop-link.link-index (record { place = 0; number = 0 }) c.requires.rising c.loop-link-test.true in
    let below : (get_or c.args.links.now c.loop-link.link-index (record { place = 0; number = 0 })).place < length c.loop-link.causes = (let a = at.0 in let b = at.1 in omega (arith, a, b, c.loop-link.auto.causes)) in
    search (rules, below)

pub bounds-causes-link : goal.bounds-causes-link
bounds-causes-link c =
    let at = rising_at 0 (length c.args.causes.now) c.args.links.now c.loop-link.link-index (record { place = 0; number = 0 }) c.requires.rising c.loop-link-test.true in
    let a = at.0 in
    let b = at.1 in
    omega (arith, a, b, c.loop-link.auto.causes)

pub bounds-causes-link-then-causes-link-ne0 : goal.bounds-causes-link-then-causes-link-ne0
bounds-causes-link-then-causes-link-ne0 c =
    let at = rising_at 0 (length c.args.causes.now) c.args.links.now c.loop-link.link-index (record { place = 0; number = 0 }) c.requires.rising c.loop-link-test.true in
    let a = at.0 in
    omega (arith, a, c.loop-link.auto.causes)

pub bounds-causes-link-then-causes-link-ne0-2 : goal.bounds-causes-link-then-causes-link-ne0-2
bounds-causes-link-then-causes-link-ne0-2 c =
    let at = rising_at 0 (length c.args.causes.now) c.args.links.now c.loop-link.link-index (record { place = 0; number = 0 }) c.requires.rising c.loop-link-test.true in
    let a = at.0 in
    omega (arith, a, c.loop-link.auto.causes)

pub overflow_add-causes : goal.overflow_add-causes
overflow_add-causes c =
    let links = c.args.links.now in
    let i = c.loop-link.link-index in
    let nobody : Link = record { place = 0; number = 0 } in
    let n = (get_or links i nobody).number in
    let so_far = c.loop-link.invariant n in
    let fewer = absent_fewer (take i links) c.loop-link.causes n in
    let more = sum_by_more_le (λ (l : Link). unit (l.number == n)) links i nobody c.loop-link-test.true in
    let one = one_here n in
    let few = c.requires.few n in
    omega (arith, so_far, fewer, more, one, few)

pub loop-link-preserved : goal.loop-link-preserved
loop-link-preserved c k =
    let links = c.args.links.now in
    let i = c.loop-link.link-index in
    let nobody : Link = record { place = 0; number = 0 } in
    let high = length c.args.causes.now in
    let at = rising_at 0 high links i nobody c.requires.rising c.loop-link-test.true in
    let below = at.0 in
    let so_far = c.loop-link.invariant k in
    elim c.if-causes-link-ne0.branch [
      | then-causes-link-ne0 w ↦
          let inside : (get_or links i nobody).number < length c.loop-link.causes = omega (arith, below, c.loop-link.auto.causes) in
          let count = grown_count c.loop-link.causes (get_or links i nobody).number inside k in
          let more = number_counted 0 high links c.loop-link.causes i nobody c.requires.rising c.loop-link-test.true w.if-causes-link-ne0.true inside k in
          let new : get_or c.loop-link.causes k 0 + one_at (get_or links i nobody).number k ≡ get_or c.args.causes.now k 0 + (absent_times (take i links) c.loop-link.causes k + one_at (get_or links i nobody).number k) = omega (arith, so_far) in
          ap (λ (l : List ℕ). get_or l k 0) w.causes-is ∙ count ∙ new ∙ ap (λ n. get_or c.args.causes.now k 0 + n) (sym more ∙ ap (λ (l : List ℕ). absent_times (take (i + 1) links) l k) (sym w.causes-is))
      | else-causes-link-ne0 w ↦
          let more = number_passed 0 high links c.loop-link.causes i nobody c.requires.rising c.loop-link-test.true w.if-causes-link-ne0.false k in
          ap (λ (l : List ℕ). get_or l k 0) w.causes-is ∙ so_far ∙ ap (λ n. get_or c.args.causes.now k 0 + n) (sym more ∙ ap (λ (l : List ℕ). absent_times (take (i + 1) links) l k) (sym w.causes-is))
    ]
