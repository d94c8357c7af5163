use Rattle.std.proofs.Common.{◌≡◌, ◌+◌, ◌<◌, ◌≤◌, ◌==◌, ℕ, List, true, cond, nat_lt, get_or, get_or-set_other, length, set, subst, sym, ap, ◌∙◌, arith}
use Rattle.std.specs.Prelude.{count_by, slice_get}
use Rattle.std.proofs.lemmas.List.Sums.{length-filter}
use Rattle.table_model.proofs.Standing.{all_filtered}
use Rattle.tuple_state.specs.Causes.{absent_times, is_absent}
use Rattle.tuple_state.specs.Least.{is_in}
use Rattle.tuple_state.specs.Links.{are_inside}
use Rattle.tuple_state.specs.declared.links.Link.{Link}
use Rattle.tuple_state.proofs.Adding.{rising_inside}
use Rattle.tuple_state.proofs.Parting.{absent_before, absent_parents}
use Rattle.tuple_state.proofs.Raising.{absent_fewer}
use Rattle.tuple_state.proofs.Settles.{behind_first}
use Rattle.tuple_state.proofs.Threading.{counted_onward, counted_row, grown_by}
use Rattle.tuple_state.proofs.settling.count_in.Goals as goal

pub absent_among-absent-requires-clause-inside : goal.absent_among-absent-requires-clause-inside
absent_among-absent-requires-clause-inside c =
    let links = c.args.grounds.now.children.now in
    let n = c.loop-place.place in
    let size : length c.args.grounds.now.rows.now ≡ length c.loop-place.causes = sym (c.loop-place.auto.causes ∙ c.requires.each) in
    let whole : are_inside (length c.loop-place.causes) links ≡ true = subst (λ m. are_inside m links ≡ true) size (rising_inside 0 (length c.args.grounds.now.rows.now) links c.requires.rising) in
    subst (λ (l : List Link). are_inside (length c.loop-place.causes) l ≡ true) (sym c.parents.ensures)
    (all_filtered (λ (l : Link). l.number == n) (λ (l : Link). nat_lt l.place (length c.loop-place.causes)) links whole)

pub absent_among-absent-requires-clause-few : goal.absent_among-absent-requires-clause-few
absent_among-absent-requires-clause-few c =
    let n = c.loop-place.place in
    let len = ap length c.parents.ensures ∙ length-filter (λ (l : Link). l.number == n) c.args.grounds.now.children.now in
    let few = c.requires.few n in
    omega (arith, len, few)

pub overflow_add-causes : goal.overflow_add-causes
overflow_add-causes c =
    let links = c.args.grounds.now.children.now in
    let causes = c.loop-place.causes in
    let n = c.loop-place.place in
    let more : c.absent_among-absent.result ≡ absent_times links causes n = c.absent_among-absent.ensures ∙ ap (λ (l : List Link). count_by (λ (x : Link). is_absent causes x.place) l) c.parents.ensures ∙ absent_parents causes links n in
    let so_far = behind_first n (get_or causes n 0) (get_or c.args.causes.now n 0) _ (c.loop-place.invariant.counted n) in
    let fewer = absent_fewer links causes n in
    let few = c.requires.few n in
    omega (arith, more, so_far, fewer, few)

pub loop-place-preserved : goal.loop-place-preserved
loop-place-preserved c =
    let rows = c.args.grounds.now.rows.now in
    let links = c.args.grounds.now.children.now in
    let causes = c.loop-place.causes in
    let table = c.args.members.now.table in
    let n = c.loop-place.place in
    let absent = c.absent_among-absent.result in
    let new = set causes n (get_or causes n 0 + absent) in
    let below : n < length rows = c.loop-place-test.true in
    let inside : n < length causes = omega (arith, below, c.requires.each, c.loop-place.auto.causes) in
    let own = c.loop-place.invariant.own below in
    let next = c.requires.threaded.onward n (omega arith) own in
    let more : absent ≡ absent_times links causes n = c.absent_among-absent.ensures ∙ ap (λ (l : List Link). count_by (λ (x : Link). is_absent causes x.place) l) c.parents.ensures ∙ absent_parents causes links n in
    let stay : (j : ℕ) → j < n → get_or new j 0 ≡ get_or causes j 0 = λ j low. get_or-set_other causes n j (get_or causes n 0 + absent) 0 (λ e. omega (arith, e, low)) in
    record {
      counted = λ k.
          let was : ℕ = cond (is_in table (slice_get rows k)) (absent_times links causes k) 0 in
          let is : ℕ = cond (is_in table (slice_get rows k)) (absent_times links new k) 0 in
          let same : k ≤ n → is ≡ was = λ low. ap (λ m. cond (is_in table (slice_get rows k)) m 0) (absent_before (length rows) links new causes n k c.requires.rising stay low) in
          let here : n ≡ k → absent ≡ was = λ e.
          more ∙ ap (λ b. cond b (absent_times links causes n) 0) (sym own) ∙ ap (λ m. cond (is_in table (slice_get rows m)) (absent_times links causes m) 0) e in
          let one = grown_by causes n absent inside k ∙ counted_row n k (get_or causes k 0) (get_or c.args.causes.now k 0) absent was is same here (c.loop-place.invariant.counted k) in
          counted_onward (n + 1) (get_or c.args.members.now.nexts.now n 0) k (get_or new k 0) (get_or c.args.causes.now k 0) is next.ahead (λ low high. ap (λ b. cond b (absent_times links new k) 0) (next.none k low high)) one;
      own = next.own;
    }
