use Rattle.std.proofs.Common.{◌≤◌, length, sym, subst}
use Rattle.std.specs.Int.{w16}
use Rattle.std.specs.List.Sorted.{IsStrictlySortedBy}
use Rattle.update_model.specs.Entry.{id_cmp}
use Rattle.sync_frames.proofs.Takes.{counted_kept}
use Rattle.sync_frames.proofs.payloads.turn_of.Goals as goal

pub asking-requires-clause-few : goal.asking-requires-clause-few
asking-requires-clause-few c =
    subst (λ ids. length ids ≤ 4096) (sym c.from_vec.ensures) (counted_kept w16 4096 c.in_ok-first.rest.now c.in_ok-needs.needs.items c.in_ok-needs.rest.now c.in_ok-needs.ensures).0

pub asking-requires-clause-rising : goal.asking-requires-clause-rising
asking-requires-clause-rising c =
    subst (IsStrictlySortedBy id_cmp) (sym c.from_vec.ensures) (counted_kept w16 4096 c.in_ok-first.rest.now c.in_ok-needs.needs.items c.in_ok-needs.rest.now c.in_ok-needs.ensures).1
