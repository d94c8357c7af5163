use Rattle.std.proofs.Common.{refl}
use Rattle.command_words.specs.AuditRequests.{audit, confirm}
use Rattle.command_words.specs.Seen.{seal_seen, watch_seen}
use Rattle.command_words.specs.WorldRequests.{demo, world}
use Rattle.schema_verdict.specs.Written.{SinkState}
use Rattle.audit_commands.specs.Audits.{ShowsDoubled}
use Rattle.audit_commands.specs.Confirming.{ConfirmAnswer}
use Rattle.outcomes.specs.Outside.{outside}
use Rattle.outcomes.specs.StoreAnswers.{Printing}
use Rattle.bec_node.specs.Beside.{of_keys, over_seals, over_views, over_worlds}
use Rattle.bec_node.proofs.Answered.{source_answered, store_answered}
use Rattle.bec_node.proofs.beside.run_asked.Goals as goal

pub returns-in-Seals : goal.returns-in-Seals
returns-in-Seals g c = rw c.in-Seals.is (over_seals (seal_seen c.in-Seals.request) c.run_seals.ensures)

pub returns-in-Audits-Audit : goal.returns-in-Audits-Audit
returns-in-Audits-Audit g c =
    let seen = outside g.S.Source.left g.S.Counted.faults g.H.Shelf.state g.H.Counted.faults g.R.Rng.stream c.args.outside.now.input c.args.outside.now.shelf c.args.outside.now.random in
    let then = outside g.S.Source.left g.S.Counted.faults g.H.Shelf.state g.H.Counted.faults g.R.Rng.stream c.args.outside.now.input c.audit-outcome.new.shelf c.args.outside.now.random in
    let sink : SinkState = record { held = g.K.Sink.held c.args.out.now; faults = g.K.Counted.faults c.args.out.now } in
    let sink_new : SinkState = record { held = g.K.Sink.held c.finish.new.out; faults = g.K.Counted.faults c.finish.new.out } in
    let dir = c.in-Audits-Audit.directory.now in
    let which = rw c.in-Audits-Audit.is at c.in-Audits-Audit.field-0-is in
    rw (c.in-Audits-Audit.is, which)
    (of_keys (audit dir) (store_answered seen then sink sink_new c.finish.result (Printing ShowsDoubled) c.one_answer_of_audits.ensures.audit dir c.audit-outcome.result
    (record { runs = c.audit-outcome.ensures; source = refl; random = refl }) c.finish.ensures))

pub returns-in-Audits-Confirm : goal.returns-in-Audits-Confirm
returns-in-Audits-Confirm g c =
    let seen = outside g.S.Source.left g.S.Counted.faults g.H.Shelf.state g.H.Counted.faults g.R.Rng.stream c.args.outside.now.input c.args.outside.now.shelf c.args.outside.now.random in
    let then = outside g.S.Source.left g.S.Counted.faults g.H.Shelf.state g.H.Counted.faults g.R.Rng.stream c.confirm-outcome.new.input c.args.outside.now.shelf c.args.outside.now.random in
    let sink : SinkState = record { held = g.K.Sink.held c.args.out.now; faults = g.K.Counted.faults c.args.out.now } in
    let sink_new : SinkState = record { held = g.K.Sink.held c.finish-in-Audits-Confirm.new.out; faults = g.K.Counted.faults c.finish-in-Audits-Confirm.new.out } in
    let which = rw c.in-Audits-Confirm.is at c.in-Audits-Confirm.field-0-is in
    rw (c.in-Audits-Confirm.is, which)
    (of_keys confirm (source_answered seen then sink sink_new c.finish-in-Audits-Confirm.result ConfirmAnswer c.one_answer_of_audits.ensures.confirm c.confirm-outcome.result
    (record { comes = c.confirm-outcome.ensures; shelf = refl; random = refl }) c.finish-in-Audits-Confirm.ensures))

pub returns-in-Views : goal.returns-in-Views
returns-in-Views g c =
    rw c.in-Views.is
    (over_views (watch_seen c.in-Views.request) (record { watches = c.watch.ensures; random = refl }))

pub returns-in-Worlds-World : goal.returns-in-Worlds-World
returns-in-Worlds-World g c =
    let which = rw c.in-Worlds-World.is at c.in-Worlds-World.field-0-is in
    rw (c.in-Worlds-World.is, which)
    (over_worlds (world c.in-Worlds-World.audit) (record { tells = c.tell_world.ensures; shelf = refl; random = refl }))

pub returns-in-Worlds-Demo : goal.returns-in-Worlds-Demo
returns-in-Worlds-Demo g c =
    let which = rw c.in-Worlds-Demo.is at c.in-Worlds-Demo.field-0-is in
    rw (c.in-Worlds-Demo.is, which)
    (over_worlds (demo c.in-Worlds-Demo.number c.in-Worlds-Demo.count) (record { tells = (c.tell_demo.ensures, refl); shelf = refl; random = refl }))
