use Rattle.std.proofs.Common.{◌∙◌, ◌<◌, ◌≤◌, ℕ, List, All, length, map, take, sym, ap, subst, arith}
use Rattle.std.proofs.lemmas.List.{length-map, length-take-le}
use Rattle.update_codec.specs.Parts.{entry_of}
use Rattle.history.proofs.Arriving.{length-before}
use Rattle.history.proofs.Numbers.{old_low}
use Rattle.update_check.specs.Holding.{ArePositionsSince}
use Rattle.history.proofs.Behind.{positions_since}
use Rattle.history.proofs.since.positions_since.Goals as goal

pub returns : goal.returns
returns c =
    subst (λ (l : List ℕ). ArePositionsSince c.args.graph.now c.args.below c.args.old.now l) (sym c.in_ok-positions.ensures)
    (positions_since c.args.graph.now c.args.below c.args.ancestry.now c.args.old.now c.as_slice.result.now c.requires.held c.len.ensures.closed c.requires.places c.len-2.ensures.lower
    (c.as_slice.ensures.value ∙ c.in_ok-places.ensures))

pub since-requires-clause-held : goal.since-requires-clause-held
since-requires-clause-held c =
    let all : length c.args.graph.now ≤ length c.args.graph.now = omega arith in
    let size = ap length c.requires.places ∙ length-before c.args.graph.now (length c.args.graph.now) all in omega (arith, size)

pub since-requires-clause-earlier : goal.since-requires-clause-earlier
since-requires-clause-earlier c =
    let all : length c.args.graph.now ≤ length c.args.graph.now = omega arith in
    let size = ap length c.requires.places ∙ length-before c.args.graph.now (length c.args.graph.now) all in
    let front = map entry_of (take c.args.below c.args.graph.now) in
    let many = length-map (take c.args.below c.args.graph.now) entry_of ∙ length-take-le c.args.below c.args.graph.now c.requires.held in
    let few : length front ≤ length c.args.ancestry.now = omega (arith, size, many) in
    subst (λ (l : List ℕ). All (λ p. p < length c.args.ancestry.now) l) (sym (c.as_slice.ensures.value ∙ c.in_ok-places.ensures)) (old_low front c.args.old.now (length c.args.ancestry.now) few)
