use Rattle.std.proofs.Common.{◌≡◌, inl, ℕ, ◌++◌, ◌+◌, List, [], drop, map, sym, subst, append-nil, rules}
use Rattle.std.proofs.lemmas.List.{drop_more, drop_all}
use Rattle.ready_batch.specs.Steps.{AllPlaced}
use Rattle.ready_batch.proofs.Waves.{behind_then, from_then, further_then}
use Rattle.ready_batch.proofs.adding.add_wave.Goals as goal

pub returns-in_err-try_place-clause-from : goal.returns-in_err-try_place-clause-from
returns-in_err-try_place-clause-from g c =
    from_then g.M.Member.entry c.args.graph.now c.places.graph c.try_place.new.graph c.args.slots.now.items c.places.slots.items c.places.invariant.slots c.places.invariant.from c.try_place.ensures.from

pub places-preserved : goal.places-preserved
places-preserved g c = record {
  slots = λ batch are. c.in_ok-try_place.ensures.slots batch (c.places.invariant.slots batch are);
  from = from_then g.M.Member.entry c.args.graph.now c.places.graph c.try_place.new.graph c.args.slots.now.items c.places.slots.items c.places.invariant.slots c.places.invariant.from c.try_place.ensures.from;
  placed = λ batch are placed.
      let wave = c.args.wave.now in
      let at = c.places.place-index in
      let P : List ℕ → Type 0 = λ l. AllPlaced g.M.Member.entry (map g.M.Member.entry c.places.graph) batch c.places.slots.items c.places.parked (l ++ c.places.next.items) in
      c.in_ok-try_place.ensures.placed batch (drop (at + 1) wave) (c.places.invariant.slots batch are) (subst P (drop_more wave at _ c.places-test.true) (c.places.invariant.placed batch are placed));
  further = further_then c.places.next.items c.try_place.new.next.items c.args.graph.now c.places.graph c.try_place.new.graph c.places.invariant.behind c.try_place.ensures.behind c.places.invariant.further c.in_ok-try_place.ensures.further;
  behind = behind_then c.args.graph.now c.places.graph c.try_place.new.graph c.places.invariant.behind c.try_place.ensures.behind;
}

pub returns-clause-placed : goal.returns-clause-placed
returns-clause-placed g c batch are placed =
    let P : List ℕ → Type 0 = λ l. AllPlaced g.M.Member.entry (map g.M.Member.entry c.places.graph) batch c.places.slots.items c.places.parked (l ++ c.places.next.items) in
    subst P (drop_all c.places.place-index c.args.wave.now c.places-test.false) (c.places.invariant.placed batch are placed)

pub places-init : goal.places-init
places-init g c = record {
  slots = λ batch are. are;
  from = λ batch are. ([], sym (append-nil c.args.graph.now), tt);
  placed = λ batch are all.
      let none : c.args.wave.now ++ c.new-next.result.items ≡ c.args.wave.now = search rules in
      subst (AllPlaced g.M.Member.entry (map g.M.Member.entry c.args.graph.now) batch c.args.slots.now.items c.args.parked.now) (sym none) all;
  further = inl (search rules);
  behind = ([], sym (append-nil c.args.graph.now));
}
