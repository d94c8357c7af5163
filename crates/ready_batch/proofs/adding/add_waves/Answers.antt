use Rattle.std.proofs.Common.{◌<◌, ℕ, List, length, map, sym, subst, rules}
use Rattle.std.proofs.lemmas.Bool.Decides.{nat_tests}
use Rattle.std.proofs.lemmas.List.{nil_from_length}
use Rattle.update_model.specs.declared.limits.TheConstants.{MAX_MEMBERS}
use Rattle.ready_batch.specs.Steps.{AllPlaced}
use Rattle.ready_batch.proofs.Waves.{behind_longer, behind_then, from_then, fewer_left}
use Rattle.ready_batch.proofs.adding.add_waves.Goals as goal

pub returns-in_err-wave-clause-from : goal.returns-in_err-wave-clause-from
returns-in_err-wave-clause-from g c =
    from_then g.M.Member.entry c.args.graph.now c.waves.graph c.add_wave.new.graph c.args.slots.now.items c.waves.slots.items c.waves.invariant.slots c.waves.invariant.from c.add_wave.ensures.from

pub waves-preserved : goal.waves-preserved
waves-preserved g c = record {
  slots = λ batch are. c.in_ok-wave.ensures.slots batch (c.waves.invariant.slots batch are);
  from = from_then g.M.Member.entry c.args.graph.now c.waves.graph c.add_wave.new.graph c.args.slots.now.items c.waves.slots.items c.waves.invariant.slots c.waves.invariant.from c.add_wave.ensures.from;
  placed = λ batch are all. c.in_ok-wave.ensures.placed batch (c.waves.invariant.slots batch are)
      (subst (λ (l : List ℕ). AllPlaced g.M.Member.entry (map g.M.Member.entry c.waves.graph) batch c.waves.slots.items c.waves.parked l) (sym c.deref.ensures.value) (c.waves.invariant.placed batch are all));
  behind = behind_then c.args.graph.now c.waves.graph c.add_wave.new.graph c.waves.invariant.behind c.add_wave.ensures.behind;
}

pub waves-smaller : goal.waves-smaller
waves-smaller g c =
    let some : 0 < length c.waves.wave.items = search (rules, nat_tests) in
    fewer_left MAX_MEMBERS (length c.waves.graph) (length c.add_wave.new.graph) c.waves.wave.items c.in_ok-wave.wave.items some
    (behind_longer c.waves.graph c.add_wave.new.graph c.add_wave.ensures.behind) c.in_ok-wave.ensures.few c.in_ok-wave.ensures.further

pub returns-clause-stuck : goal.returns-clause-stuck
returns-clause-stuck g c batch are all =
    let none = nil_from_length c.waves.wave.items (search (rules, nat_tests)) in
    (c.waves.parked, subst (λ (l : List ℕ). AllPlaced g.M.Member.entry (map g.M.Member.entry c.waves.graph) batch c.waves.slots.items c.waves.parked l) none (c.waves.invariant.placed batch are all))
