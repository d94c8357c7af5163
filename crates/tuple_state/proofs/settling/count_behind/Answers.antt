use Rattle.std.proofs.Common.{◌≡◌, ◌+◌, ◌<◌, ℕ, Bool, List, cond, nat_lt, get_or, length, sym, ap, ◌∙◌, arith}
use Rattle.std.specs.Prelude.{slice_get}
use Rattle.table_model.specs.Counts.{one_where}
use Rattle.tuple_state.specs.Least.{is_behind}
use Rattle.tuple_state.proofs.Dropping.{row_there}
use Rattle.tuple_state.proofs.Raising.{grown_count}
use Rattle.tuple_state.proofs.Settles.{behind_else, behind_end, behind_first, behind_then}
use Rattle.tuple_state.proofs.Threading.{behind_others, behind_own, counted_onward}
use Rattle.tuple_state.proofs.settling.count_behind.Goals as goal
use Rattle.tuple_state.proofs.settling.count_behind.Goals.{then-is_lesser, else-is_lesser}

pub overflow_add-causes : goal.overflow_add-causes
overflow_add-causes c =
    let n = c.loop-place.place in
    let so_far = behind_first n (get_or c.loop-place.causes n 0) (get_or c.args.causes.now n 0) _ (c.loop-place.invariant.counted n) in
    let few = c.requires.few n in
    omega (arith, so_far, few)

pub loop-place-preserved : goal.loop-place-preserved
loop-place-preserved c =
    let rows = c.args.members.now.rows.now in
    let groups = c.args.groups.now in
    let least = c.args.least.now in
    let table = c.args.members.now.table in
    let n = c.loop-place.place in
    let below : n < length rows = c.loop-place-test.true in
    let row = row_there rows n below in
    let own = c.loop-place.invariant.own below in
    let next = c.requires.threaded.onward n (omega arith) own in
    let v : ℕ → Bool = λ m. is_behind rows groups least table m (slice_get rows m) in
    let here = behind_own rows groups least table n row.0 row.1 own ∙ sym (c.is_lesser.ensures row.0 row.1) in
    record {
      counted = λ k.
          let more : get_or c.if-is_lesser.causes k 0 ≡ get_or c.args.causes.now k 0 + cond (nat_lt k (n + 1)) (one_where (v k)) 0 =
          elim c.if-is_lesser.branch [
            | then-is_lesser w ↦
                let inside : n < length c.loop-place.causes = omega (arith, below, c.requires.each, c.loop-place.auto.causes) in
                ap (λ (l : List ℕ). get_or l k 0) w.causes-is ∙ grown_count c.loop-place.causes n inside k
                ∙ behind_then v n k (get_or c.loop-place.causes k 0) (get_or c.args.causes.now k 0) (c.loop-place.invariant.counted k) (here ∙ w.if-is_lesser.true)
            | else-is_lesser w ↦
                ap (λ (l : List ℕ). get_or l k 0) w.causes-is
                ∙ behind_else v n k (get_or c.loop-place.causes k 0) (get_or c.args.causes.now k 0) (c.loop-place.invariant.counted k) (here ∙ w.if-is_lesser.false)
          ] in
          counted_onward (n + 1) (get_or c.args.members.now.nexts.now n 0) k (get_or c.if-is_lesser.causes k 0) (get_or c.args.causes.now k 0) (one_where (v k)) next.ahead (λ low high. ap one_where (behind_others rows groups least table k (next.none k low high))) more;
      own = next.own;
    }

pub returns : goal.returns
returns c k =
    behind_end c.args.members.now.rows.now c.args.groups.now c.args.least.now c.args.members.now.table c.loop-place.place k (get_or c.loop-place.causes k 0) (get_or c.args.causes.now k 0) c.loop-place-test.false (c.loop-place.invariant.counted k)
