use Rattle.std.proofs.Common.{◌≡◌, ◌+◌, ◌<◌, ◌≤◌, ◌==◌, ◌++◌, ◌∷◌, ℕ, List, [], Some, get_or, length, length-append, ap, sym, subst, ◌∙◌, inl, inr, arith}
use Rattle.std.specs.Prelude.{slice_get}
use Rattle.tuple_state.specs.declared.inserted.Inserted.{Inserted}
use Rattle.tuple_state.proofs.Grouping.{get_or_last, get_or_left, last_or}
use Rattle.tuple_state.proofs.Settles.{push_low}
use Rattle.tuple_state.proofs.settling.own_causes.Goals as goal

pub loop-place-preserved : goal.loop-place-preserved
loop-place-preserved g c =
    let old = c.loop-place.causes.items in
    let n = c.loop-place.place in
    let x = c.count_of.result in
    let items = c.push_reserved.ensures.items in
    let len = ap length items in
    let more = length-append old (x ∷ []) in
    record {
      own = λ k it below at.
          ap (λ (l : List ℕ). get_or l k 0 == 0) items
          ∙ elim (last_or k n below) [
            | inl low ↦ ap (λ m. m == 0) (get_or_left old (x ∷ []) k 0 (omega (arith, low, c.loop-place.invariant.len))) ∙ c.loop-place.invariant.own k it low at
            | inr last ↦
                ap (λ m. m == 0) (get_or_last old x 0 k (omega (arith, last, c.loop-place.invariant.len))) ∙ c.count_of.ensures.zero
                ∙ c.in_ok-left.ensures it (ap (slice_get c.args.tables.now.inserted) (sym last) ∙ at)
          ];
      few = λ k. subst (λ (l : List ℕ). get_or l k 0 ≤ 1) (sym items) (push_low old x k c.loop-place.invariant.few c.count_of.ensures.few);
      len = omega (arith, len, more, c.loop-place.invariant.len);
      room = omega (arith, c.push_reserved.ensures.capacity, c.loop-place.invariant.room);
    }
