use Rattle.std.proofs.Common.{◌≡◌, ◌∙◌, ap, arith, map, refl, sym, None, Some}
use Rattle.std.specs.String.{string_bytes}
use Rattle.bec_node.proofs.Asking.{appends_none}
use Rattle.bec_node.proofs.Leaving.{beside_net}
use Rattle.bec_node.specs.Run.{unread as nothing_read}
use Rattle.command_words.specs.ImportRequests.{import_request_of}
use Rattle.command_words.specs.LookRequests.{look_request_of}
use Rattle.command_words.specs.Seen.{import_seen, look_seen}
use Rattle.look_commands.specs.Ending.{lacks_one}
use Rattle.outcomes.specs.Outside.{outside}
use Rattle.schema_verdict.specs.Written.{SinkState}
use Rattle.schema_verdict.specs.declared.status.TheConstants.{STORE_FAULT, STREAM_FAULT}
use Rattle.front.specs.Front.{brings, looks, runs, unread}
use Rattle.front.proofs.Asked.{NothingBeside, known_unasked}
use Rattle.front.proofs.Ending.{fault_with, look_blames, look_home}
use Rattle.front.proofs.running.run.Goals as goal

pub returns-in_default : goal.returns-in_default
returns-in_default g c = record {
  runs = unread (record { source = refl; shelf = refl; random = refl }) refl c.unread.ensures (appends_none (g.K.Sink.held c.args.out.now));
  known = λ is. nothing_read (record { source = refl; shelf = refl; random = refl }) refl c.unread.ensures (appends_none (g.K.Sink.held c.args.out.now));
  leaves = record { links = refl; store_fault = λ e. absurd (omega (arith, e, c.unread.ensures)); stream_fault = λ e. absurd (omega (arith, e, c.unread.ensures)) };
  home = c.requires;
}

pub returns-in-Some : goal.returns-in-Some
returns-in-Some g c =
    let seen = outside g.S.Source.left g.S.Counted.faults g.H.Shelf.state g.H.Counted.faults g.R.Rng.stream c.args.outside.now.input c.args.outside.now.shelf c.args.outside.now.random in
    let then = outside g.S.Source.left g.S.Counted.faults g.H.Shelf.state g.H.Counted.faults g.R.Rng.stream c.looked.new.outside.input c.looked.new.outside.shelf c.looked.new.outside.random in
    let sink : SinkState = record { held = g.K.Sink.held c.args.out.now; faults = g.K.Counted.faults c.args.out.now } in
    let sink_new : SinkState = record { held = g.K.Sink.held c.looked.new.out; faults = g.K.Counted.faults c.looked.new.out } in
    let law : NothingBeside look_request_of = record { alone = c.nothing_beside_looks.ensures.alone; over_net = c.nothing_beside_looks.ensures.over_net; sealed = c.nothing_beside_looks.ensures.sealed; watched = c.nothing_beside_looks.ensures.watched; audited = c.nothing_beside_looks.ensures.audited; of_worlds = c.nothing_beside_looks.ensures.of_worlds } in
    let request = look_seen c.in-Some.request in
    let comes = c.looked.ensures in
    let asked : look_request_of (map string_bytes c.args.words.now) ≡ Some request = sym (rw c.in-Some.is at c.in-Ok.ensures) in
    let blames = look_blames seen then sink sink_new comes.own request comes.outcome comes.comes comes.said in
    let lacking = lacks_one request comes.outcome in
    record {
      runs = looks request asked comes refl;
      known = λ is. absurd (let none : Some request ≡ None = sym asked ∙ known_unasked look_request_of law c.args.words.now is in cc);
      leaves = record {
        links = refl;
        store_fault = λ e. blames.0 (fault_with lacking comes.own STORE_FAULT (λ d. omega (arith, d)) (sym comes.status_is ∙ e));
        stream_fault = λ e. beside_net (blames.1 (fault_with lacking comes.own STREAM_FAULT (λ d. omega (arith, d)) (sym comes.status_is ∙ e)));
      };
      home = look_home seen then c.requires (λ same. (ap g.H.Shelf.state same, ap g.H.Counted.faults same)) request comes.outcome comes.comes;
    }

pub returns-in_default-parse_import_request : goal.returns-in_default-parse_import_request
returns-in_default-parse_import_request g c = record {
  runs = unread (record { source = refl; shelf = refl; random = refl }) refl c.unread-in_default-parse_import_request.ensures (appends_none (g.K.Sink.held c.args.out.now));
  known = λ is. nothing_read (record { source = refl; shelf = refl; random = refl }) refl c.unread-in_default-parse_import_request.ensures (appends_none (g.K.Sink.held c.args.out.now));
  leaves = record { links = refl; store_fault = λ e. absurd (omega (arith, e, c.unread-in_default-parse_import_request.ensures)); stream_fault = λ e. absurd (omega (arith, e, c.unread-in_default-parse_import_request.ensures)) };
  home = c.requires;
}

pub returns-in-Some-bringing : goal.returns-in-Some-bringing
returns-in-Some-bringing g c =
    let law : NothingBeside import_request_of = record { alone = c.nothing_beside_imports.ensures.alone; over_net = c.nothing_beside_imports.ensures.over_net; sealed = c.nothing_beside_imports.ensures.sealed; watched = c.nothing_beside_imports.ensures.watched; audited = c.nothing_beside_imports.ensures.audited; of_worlds = c.nothing_beside_imports.ensures.of_worlds } in
    let request = import_seen c.in-Some-bringing.request in
    let asked : import_request_of (map string_bytes c.args.words.now) ≡ Some request = sym (rw c.in-Some-bringing.is at c.in-Ok-parse_import_request.ensures) in
    record {
      runs = brings request asked c.brought.ensures.brings refl;
      known = λ is. absurd (let none : Some request ≡ None = sym asked ∙ known_unasked import_request_of law c.args.words.now is in cc);
      leaves = record { links = refl; store_fault = c.brought.ensures.blames.store; stream_fault = λ e. beside_net (c.brought.ensures.blames.stream e) };
      home = c.brought.ensures.home;
    }

pub returns-in-None : goal.returns-in-None
returns-in-None g c =
    let ran = c.run-status.ensures in
    record {
      runs = runs (sym (rw c.in_default-looking.is at c.in-Ok.ensures)) (sym (rw c.in-None.is at c.in-Ok-parse_import_request.ensures)) ran.runs;
      known = λ is. ran.runs;
      leaves = ran.leaves;
      home = ran.home;
    }
