use Rattle.std.proofs.Common.{◌≡◌, ℕ, List, get_or, ap, arith}
use Rattle.std.specs.Prelude.{count_by}
use Rattle.tuple_state.specs.Links.{is_of}
use Rattle.tuple_state.specs.declared.links.Link.{Link}
use Rattle.tuple_state.proofs.Leasts.{settled_based}
use Rattle.tuple_state.proofs.settling.recount.Goals as goal

pub returns-clause-counted : goal.returns-clause-counted
returns-clause-counted c e =
    let based : (k : ℕ) → get_or c.count_places.new.causes k 0 ≡ count_by (is_of k) c.args.deleters.now.links =
    λ k.
    let zero_is = c.clear.ensures k in
    let count = c.count_places.ensures k in
    let same = ap (λ (l : List Link). count_by (is_of k) l) c.links.ensures.links in
    omega (arith, zero_is, count, same) in
    settled_based c.args.grounds.now.shapes.now c.args.grounds.now.rows.now c.args.grounds.now.children.now (λ k. get_or c.count_places.new.causes k 0) (λ k. count_by (is_of k) c.args.deleters.now.links) c.spread_causes.new.causes based c.spread_causes.ensures
