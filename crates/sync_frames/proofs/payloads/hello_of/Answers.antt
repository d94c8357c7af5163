use Rattle.std.proofs.Common.{◌≤◌, length, sym, ap, subst, arith}
use Rattle.std.specs.Int.{w16, w32}
use Rattle.std.specs.List.Sorted.{IsStrictlySortedBy}
use Rattle.update_model.specs.Entry.{id_cmp}
use Rattle.sync_frames.proofs.Takes.{counted_kept, filter_kept}
use Rattle.sync_frames.proofs.payloads.hello_of.Goals as goal

pub new-requires-clause-few_heads : goal.new-requires-clause-few_heads
new-requires-clause-few_heads c =
    subst (λ ids. length ids ≤ 131072) (sym c.from_vec.ensures) (counted_kept w32 131072 c.in_ok-node.rest.now c.in_ok-heads.heads.items c.in_ok-heads.rest.now c.in_ok-heads.ensures).0

pub new-requires-clause-heads : goal.new-requires-clause-heads
new-requires-clause-heads c =
    subst (IsStrictlySortedBy id_cmp) (sym c.from_vec.ensures) (counted_kept w32 131072 c.in_ok-node.rest.now c.in_ok-heads.heads.items c.in_ok-heads.rest.now c.in_ok-heads.ensures).1

pub new-requires-clause-few_old : goal.new-requires-clause-few_old
new-requires-clause-few_old c =
    subst (λ ids. length ids ≤ 4096) (sym c.from_vec-2.ensures) (counted_kept w16 4096 c.in_ok-heads.rest.now c.in_ok-old.old.items c.in_ok-old.rest.now c.in_ok-old.ensures).0

pub new-requires-clause-old : goal.new-requires-clause-old
new-requires-clause-old c =
    subst (IsStrictlySortedBy id_cmp) (sym c.from_vec-2.ensures) (counted_kept w16 4096 c.in_ok-heads.rest.now c.in_ok-old.old.items c.in_ok-old.rest.now c.in_ok-old.ensures).1

pub new-requires-clause-small : goal.new-requires-clause-small
new-requires-clause-small c =
    let small = filter_kept c.in_ok-old.rest.now c.in_ok-filter.filter.now c.in_ok-filter.rest.now c.in_ok-filter.ensures in
    omega (arith, small, ap length c.from_vec-3.ensures, c.in_ok-filter-2.ensures.len)
