use Rattle.std.proofs.Common.{◌≡◌, ◌+◌, ◌-◌, ◌<◌, ℕ, length, length-set, get_or, set, sym, subst, ap, ◌∙◌, arith}
use Rattle.tuple_state.specs.Threads.{AreThreads}
use Rattle.tuple_state.specs.declared.inserted.Inserted.{Inserted}
use Rattle.tuple_state.proofs.Marking.{slice_get_from}
use Rattle.tuple_state.proofs.Threading.{threads_more, threads_none}
use Rattle.tuple_state.proofs.threads.thread.Goals as goal

pub loop-place-preserved : goal.loop-place-preserved
loop-place-preserved c =
    let rows = c.args.rows.now in
    let n = c.loop-place.place - 1 in
    let it = c.index-rows-place.result in
    let positive = c.loop-place-test.true in
    let below : n < length rows = omega (arith, positive, c.loop-place.invariant.low) in
    let at = slice_get_from rows n it below c.index-rows-place.is in
    let before : c.loop-place.place ≡ n + 1 = omega (arith, positive) in
    let threaded = subst (λ m. AreThreads rows c.loop-place.firsts c.loop-place.nexts m) before c.loop-place.invariant.threaded in
    let room : n < length c.loop-place.nexts = omega (arith, below, c.requires.room, c.loop-place.auto.nexts) in
    let inside : it.entry.table < length c.loop-place.firsts =
    (let e = ap (λ (x : Inserted). x.entry.table) c.index-rows-place.is in omega (arith, e, c.index-rows-place.element_fits, c.loop-place.invariant.long)) in
    record {
      low = omega (arith, below);
      long = length-set c.loop-place.firsts c.from-table.result n ∙ c.loop-place.invariant.long;
      threaded = subst (λ (t : ℕ). AreThreads rows (set c.loop-place.firsts t n) (set c.loop-place.nexts n (get_or c.loop-place.firsts t 0)) n) (sym (c.from-table.ensures ∙ ap (λ (x : Inserted). x.entry.table) (sym c.index-rows-place.is))) (threads_more rows c.loop-place.firsts c.loop-place.nexts n it at room inside threaded);
    }

pub loop-place-init : goal.loop-place-init
loop-place-init c = record {
  low = omega arith;
  long = c.told-firsts;
  threaded = threads_none c.args.rows.now c.args.firsts.now c.args.nexts.now (λ table inside. c.requires.none table (omega (arith, inside, c.told-firsts)));
}
