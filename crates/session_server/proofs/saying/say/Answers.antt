use Rattle.std.proofs.Common.{List, ℕ, map, filter_map, slice_get, option_map, subst}
use Rattle.session_rules.specs.Pair.{hello_frames, turn_frames}
use Rattle.session_rules.specs.State.{Item}
use Rattle.sync_session.specs.Kept.{hello_of, turn_of}
use Rattle.update_codec.specs.Parts.{entry_of}
use Rattle.shared_replica.specs.Entries.{updates_of}
use Rattle.link_frames.specs.Saying.{Says}
use Rattle.session_server.proofs.Passing.{say_first, say_second, say_third}
use Rattle.session_server.proofs.saying.say.Goals as goal

pub returns-in-Err-clause-said : goal.returns-in-Err-clause-said
returns-in-Err-clause-said g c =
    say_first _ (g.K.Sink.held c.args.link.now) (g.K.Sink.held c.say_hello.new.link) c.say_hello.result c.in-Err.halt (hello_frames (option_map hello_of c.args.out.now.hello)) _ c.in-Err.is c.say_hello.ensures.said

pub returns-in-Err-told-clause-said : goal.returns-in-Err-told-clause-said
returns-in-Err-told-clause-said g c =
    let graph = map entry_of (updates_of c.args.pass.seen) in
    say_second _ (g.K.Sink.held c.args.link.now) (g.K.Sink.held c.say_hello.new.link) (g.K.Sink.held c.say_updates-pass.new.link) c.say_hello.result c.say_updates-pass.result.1 c.in_default.field-0 c.in-Err-told.halt
    (hello_frames (option_map hello_of c.args.out.now.hello)) (map Item (filter_map (slice_get graph) c.args.out.now.send)) (turn_frames (option_map turn_of c.args.out.now.turn))
    c.in_default.is c.say_hello.ensures.said c.in-Err-told.is
    (subst (λ (ps : List ℕ). Says (g.K.Sink.held c.say_hello.new.link) (g.K.Sink.held c.say_updates-pass.new.link) c.say_updates-pass.result.1 (map Item (filter_map (slice_get graph) ps))) c.as_slice.ensures c.say_updates-pass.ensures.said)

pub returns-clause-said : goal.returns-clause-said
returns-clause-said g c =
    let graph = map entry_of (updates_of c.args.pass.seen) in
    say_third _ (g.K.Sink.held c.args.link.now) (g.K.Sink.held c.say_hello.new.link) (g.K.Sink.held c.say_updates-pass.new.link) (g.K.Sink.held c.say_turn-told.new.link) c.say_hello.result c.say_updates-pass.result.1 c.say_turn-told.result
    c.in_default.field-0 c.in_default-told.field-0
    (hello_frames (option_map hello_of c.args.out.now.hello)) (map Item (filter_map (slice_get graph) c.args.out.now.send)) (turn_frames (option_map turn_of c.args.out.now.turn))
    c.in_default.is c.say_hello.ensures.said c.in_default-told.is
    (subst (λ (ps : List ℕ). Says (g.K.Sink.held c.say_hello.new.link) (g.K.Sink.held c.say_updates-pass.new.link) c.say_updates-pass.result.1 (map Item (filter_map (slice_get graph) ps))) c.as_slice.ensures c.say_updates-pass.ensures.said)
    c.say_turn-told.ensures.said
