use Rattle.std.proofs.Common.{◌+◌, ◌<◌, ◌==◌, ◌&&◌, ℕ, List, Option, None, get_or, length, sym, subst, ap, ◌∙◌, arith}
use Rattle.tuple_state.specs.Least.{IsLeastOf, is_first, is_standing}
use Rattle.tuple_state.proofs.Dropping.{row_there}
use Rattle.tuple_state.proofs.Leasts.{least_else, least_then}
use Rattle.tuple_state.proofs.Threading.{least_onward, standing_others, table_is}
use Rattle.tuple_state.proofs.settling.find_least.Goals as goal
use Rattle.tuple_state.proofs.settling.find_least.Goals.{then-is_better, else-is_better}

pub loop-place-preserved : goal.loop-place-preserved
loop-place-preserved c =
    let rows = c.args.members.now.rows.now in
    let causes = c.args.causes.now in
    let groups = c.args.groups.now in
    let table = c.args.members.now.table in
    let old = c.loop-place.least in
    let n = c.loop-place.place in
    let below : n < length rows = c.loop-place-test.true in
    let row = row_there rows n below in
    let own = c.loop-place.invariant.own below in
    let next = c.requires.threaded.onward n (omega arith) own in
    let group_low = c.requires.inside n (omega (arith, below, c.requires.all)) in
    let inside : get_or groups n 0 < length old = omega (arith, group_low, below, c.requires.room, c.loop-place.auto.least) in
    let better = ap (λ a. (a && (get_or causes n 0 == 0)) && is_first rows row.0 (get_or old (get_or groups n 0) None)) (table_is rows table n row.0 row.1 own) ∙ sym (c.is_better.ensures row.0 row.1) in
    record {
      least = λ k of.
          let group = get_or groups k 0 in
          let so_far = c.loop-place.invariant.least k of in
          let more : IsLeastOf rows (is_standing causes groups table group) (n + 1) (get_or c.if-is_better.least group None) =
          elim c.if-is_better.branch [
            | then-is_better w ↦
                subst (λ (l : List (Option ℕ)). IsLeastOf rows (is_standing causes groups table group) (n + 1) (get_or l group None)) (sym w.least-is)
                (least_then rows causes groups old table n row.0 row.1 group so_far (better ∙ w.if-is_better.true) inside)
            | else-is_better w ↦
                subst (λ (l : List (Option ℕ)). IsLeastOf rows (is_standing causes groups table group) (n + 1) (get_or l group None)) (sym w.least-is)
                (least_else rows causes groups old table n row.0 row.1 group so_far (better ∙ w.if-is_better.false))
          ] in
          least_onward rows (is_standing causes groups table group) table (n + 1) (get_or c.args.members.now.nexts.now n 0) (λ j it at out. standing_others rows causes groups table group j it at out) next (get_or c.if-is_better.least group None) more;
      own = next.own;
    }
