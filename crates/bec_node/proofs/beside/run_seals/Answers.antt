use Rattle.std.proofs.Common.{ℕ, List, refl, subst}
use Rattle.schema_verdict.specs.Written.{SinkState}
use Rattle.seal_commands.specs.Unsealing.{UnsealAnswer}
use Rattle.outcomes.specs.Outcome.{ComesTo}
use Rattle.outcomes.specs.Outside.{outside}
use Rattle.bec_node.specs.Families.{from_seal}
use Rattle.bec_node.proofs.Answered.{source_answered}
use Rattle.bec_node.proofs.Drawing.{drawn_only}
use Rattle.bec_node.proofs.Unsealing.{unsealed_once}
use Rattle.bec_node.proofs.beside.run_seals.Goals as goal

pub returns-in-Hsskey : goal.returns-in-Hsskey
returns-in-Hsskey g c =
    let sink : SinkState = record { held = g.K.Sink.held c.args.out.now; faults = g.K.Counted.faults c.args.out.now } in
    let sink_new : SinkState = record { held = g.K.Sink.held c.finish.new.out; faults = g.K.Counted.faults c.finish.new.out } in
    rw c.in-Hsskey.is
    (record {
      outcome = c.drawn_hss-outcome.result;
      comes = record { draws = c.drawn_hss-outcome.ensures; source = refl };
      said = c.finish.ensures;
      only = λ tells. drawn_only c.in-Hsskey.height c.in-Hsskey.width (g.R.Rng.stream c.args.outside.now.random) (g.R.Rng.stream c.drawn_hss-outcome.new.random) c.in-Hsskey.directory.now
          (g.H.Shelf.state c.args.outside.now.shelf) (g.H.Shelf.state c.drawn_hss-outcome.new.shelf) tells sink sink_new c.finish.result (g.H.Counted.faults c.args.outside.now.shelf)
          (g.H.Counted.faults c.drawn_hss-outcome.new.shelf) c.drawn_hss-outcome.result c.drawn_hss-outcome.ensures c.finish.ensures;
    })

pub returns-in-Seal : goal.returns-in-Seal
returns-in-Seal g c = rw c.in-Seal.is (record { outcome = c.sealed-outcome.result; comes = c.sealed-outcome.ensures; said = c.finish-in-Seal.ensures; only = tt })

pub returns-in-Unseal : goal.returns-in-Unseal
returns-in-Unseal g c =
    let seen = outside g.S.Source.left g.S.Counted.faults g.H.Shelf.state g.H.Counted.faults g.R.Rng.stream c.args.outside.now.input c.args.outside.now.shelf c.args.outside.now.random in
    let then = outside g.S.Source.left g.S.Counted.faults g.H.Shelf.state g.H.Counted.faults g.R.Rng.stream c.unsealed-outcome.new.input c.args.outside.now.shelf c.args.outside.now.random in
    let sink : SinkState = record { held = g.K.Sink.held c.args.out.now; faults = g.K.Counted.faults c.args.out.now } in
    let sink_new : SinkState = record { held = g.K.Sink.held c.finish-in-Unseal.new.out; faults = g.K.Counted.faults c.finish-in-Unseal.new.out } in
    let key = c.in-Unseal.key in
    let sig = c.in-Unseal.signature.items in
    let came = subst (λ (s : List ℕ). ComesTo (UnsealAnswer from_seal key s) seen.left then.left seen.source_faults then.source_faults c.unsealed-outcome.result) c.deref.ensures.value c.unsealed-outcome.ensures in
    rw c.in-Unseal.is
    (source_answered seen then sink sink_new c.finish-in-Unseal.result (UnsealAnswer from_seal key sig) (unsealed_once key sig) c.unsealed-outcome.result (record { comes = came; shelf = refl; random = refl }) c.finish-in-Unseal.ensures)
