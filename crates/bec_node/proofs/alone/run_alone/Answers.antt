use Rattle.std.proofs.Common.{ap, map, refl}
use Rattle.std.specs.String.{string_bytes}
use Rattle.command_words.specs.Seen.{request_seen}
use Rattle.outcomes.specs.Outside.{outside}
use Rattle.schema_verdict.specs.Written.{SinkState}
use Rattle.node_commands.proofs.Answer.{OneAnswer}
use Rattle.node_commands.proofs.MakersOnce.{OneOfMakers}
use Rattle.node_commands.proofs.PartsOnce.{OneOfParts}
use Rattle.bec_node.proofs.Ending.{names_apart, runs, runs_none, runs_unread, short_note}
use Rattle.bec_node.proofs.alone.run_alone.Goals as goal

pub returns-in_default : goal.returns-in_default
returns-in_default g c =
    let seen = outside g.S.Source.left g.S.Counted.faults g.H.Shelf.state g.H.Counted.faults g.R.Rng.stream c.args.outside.now.input c.args.outside.now.shelf c.args.outside.now.random in
    let sink : SinkState = record { held = g.K.Sink.held c.args.out.now; faults = g.K.Counted.faults c.args.out.now } in
    runs_unread c.args.words.now seen seen sink sink 5 c.requires (λ same. (refl, refl)) (record { source = refl; shelf = refl; random = refl }) refl refl

pub returns-in_default-asked : goal.returns-in_default-asked
returns-in_default-asked g c =
    let seen = outside g.S.Source.left g.S.Counted.faults g.H.Shelf.state g.H.Counted.faults g.R.Rng.stream c.args.outside.now.input c.args.outside.now.shelf c.args.outside.now.random in
    let sink : SinkState = record { held = g.K.Sink.held c.args.out.now; faults = g.K.Counted.faults c.args.out.now } in
    let sink_new : SinkState = record { held = g.K.Sink.held c.no_command.new.out; faults = g.K.Counted.faults c.no_command.new.out } in
    let no_request = rw c.in_default-asked.is at c.in-Ok.ensures in
    runs_none c.args.words.now seen seen sink sink_new c.no_command.result c.requires (λ same. (refl, refl)) no_request (record { source = refl; shelf = refl; random = refl }) c.no_command.ensures

pub returns : goal.returns
returns g c =
    let seen = outside g.S.Source.left g.S.Counted.faults g.H.Shelf.state g.H.Counted.faults g.R.Rng.stream c.args.outside.now.input c.args.outside.now.shelf c.args.outside.now.random in
    let then = outside g.S.Source.left g.S.Counted.faults g.H.Shelf.state g.H.Counted.faults g.R.Rng.stream c.outcome_of-outcome.new.outside.input c.outcome_of-outcome.new.outside.shelf c.outcome_of-outcome.new.outside.random in
    let sink : SinkState = record { held = g.K.Sink.held c.args.out.now; faults = g.K.Counted.faults c.args.out.now } in
    let sink_new : SinkState = record { held = g.K.Sink.held c.finish.new.out; faults = g.K.Counted.faults c.finish.new.out } in
    let asks = rw c.in-Some.is at c.in-Ok.ensures in
    let laws = c.one_answer.ensures in
    let one : OneAnswer = record { heads = laws.heads; check = laws.check; dump = laws.dump } in
    let stored = c.one_answer_of_parts.ensures in
    let parts : OneOfParts = record { heads = stored.heads; dump = stored.dump; export = stored.export; query = stored.query; notes = stored.notes } in
    let made = c.one_answer_of_makers.ensures in
    let makers : OneOfMakers = record { init = made.init; keygen = made.keygen; apply = made.apply; join = made.join } in
    runs c.args.words.now seen then sink sink_new c.finish.result c.requires (λ same. (ap g.H.Shelf.state same, ap g.H.Counted.faults same)) one parts makers c.one_answer_of_merge.ensures c.one_request.ensures (request_seen c.in-Some.request) asks
    c.outcome_of-outcome.result c.outcome_of-outcome.ensures c.finish.ensures

pub outcome_of-outcome-requires-clause-apart : goal.outcome_of-outcome-requires-clause-apart
outcome_of-outcome-requires-clause-apart g c =
    let asks = rw c.in-Some.is at c.in-Ok.ensures in
    names_apart (map string_bytes c.args.words.now) (request_seen c.in-Some.request) asks

pub outcome_of-outcome-requires-clause-short : goal.outcome_of-outcome-requires-clause-short
outcome_of-outcome-requires-clause-short g c =
    let asks = rw c.in-Some.is at c.in-Ok.ensures in
    short_note (map string_bytes c.args.words.now) (request_seen c.in-Some.request) asks
