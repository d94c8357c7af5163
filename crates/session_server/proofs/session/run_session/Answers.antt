use Rattle.std.proofs.Common.{[], None, Err, refl, sym, subst, Bool, ℕ, true}
use Rattle.session_server.specs.declared.ending.Ending.TheVariants.{Broken, Memory}
use Rattle.link_frames.specs.declared.saying.Halt.{Halt}
use Rattle.std.specs.Prelude.{Result}
use Rattle.session_server.specs.Talks.{IsTalk, Start, over_by}
use Rattle.session_server.proofs.Talking.{begins_goes}
use Rattle.session_server.proofs.Finishing.{begun_talk, reads_nothing_to, session_ended}
use Rattle.session_server.proofs.session.run_session.Goals as goal

pub go_through-talk-requires-clause-belongs : goal.go_through-talk-requires-clause-belongs
go_through-talk-requires-clause-belongs g c κs within = (begins_goes c.args.pass c.in-Ok.talk.pass c.args.role c.recalled_of-recalled.result.now c.in-Ok.talk.session c.in-Ok.out c.in-Ok.ensures.begun.0).belongs

pub returns-in-Ok-say_hello : goal.returns-in-Ok-say_hello
returns-in-Ok-say_hello g c =
    let start : Start = record { first = c.args.pass; name = c.args.name; held = g.K.Sink.held c.args.link.now; faults = g.K.Counted.faults c.args.link.now } in
    let said = begun_talk c.args.common.now.rule.now c.args.role c.args.pass c.in-Ok.talk.pass c.args.name c.recalled_of-recalled.result.now c.in-Ok.talk.session c.in-Ok.out (g.K.Sink.held c.args.link.now) (g.K.Sink.held c.say_hello.new.link)
    (g.K.Counted.faults c.args.link.now) (g.K.Counted.faults c.say_hello.new.link) c.in-Ok.ensures.begun.0 c.requires.rule _ c.say_hello.result c.say_hello.ensures.said c.say_hello.ensures.cause in
    let running = subst (λ (r : Result _ Halt). IsTalk c.args.common.now.rule.now c.args.role start c.recalled_of-recalled.result.now c.in-Ok.talk.pass c.in-Ok.talk.session true (g.K.Sink.held c.say_hello.new.link) (g.K.Counted.faults c.say_hello.new.link) [] (over_by r None))
    c.in-Ok-say_hello.is said in
    let fresh = subst (λ (b : Bool). IsTalk c.args.common.now.rule.now c.args.role start c.recalled_of-recalled.result.now c.in-Ok.talk.pass c.in-Ok.talk.session b (g.K.Sink.held c.say_hello.new.link) (g.K.Counted.faults c.say_hello.new.link) [] None)
    (sym c.in-Ok.ensures.begun.1) running in
    let h = c.go_through-talk.ensures.talk start [] (c.recalled_of-recalled.result.now, c.recalled_of-recalled.ensures.value, fresh) refl in
    session_ended c.args.common.now.rule.now c.args.role c.args.common.now.peers.now start c.go_through-talk.result.0.pass c.concluded.result.0 c.go_through-talk.result.0.session c.go_through-talk.result.0.is_fresh (g.K.Source.left c.args.link.now)
    (g.K.Source.left c.say_hello.new.link) (g.K.Source.left c.go_through-talk.new.link) (g.K.Sink.held c.go_through-talk.new.link) (g.K.Counted.faults c.go_through-talk.new.link) h.0 c.go_through-talk.result.1 c.concluded.result.1
    h.1 h.2 c.say_hello.ensures.left c.concluded.ensures.served c.concluded.ensures.pass

pub returns-in-Err-Broken : goal.returns-in-Err-Broken
returns-in-Err-Broken g c =
    let start : Start = record { first = c.args.pass; name = c.args.name; held = g.K.Sink.held c.args.link.now; faults = g.K.Counted.faults c.args.link.now } in
    let said = begun_talk c.args.common.now.rule.now c.args.role c.args.pass c.in-Ok.talk.pass c.args.name c.recalled_of-recalled.result.now c.in-Ok.talk.session c.in-Ok.out (g.K.Sink.held c.args.link.now) (g.K.Sink.held c.say_hello.new.link)
    (g.K.Counted.faults c.args.link.now) (g.K.Counted.faults c.say_hello.new.link) c.in-Ok.ensures.begun.0 c.requires.rule _ c.say_hello.result c.say_hello.ensures.said c.say_hello.ensures.cause in
    let ended = subst (λ (r : Result _ Halt). IsTalk c.args.common.now.rule.now c.args.role start c.recalled_of-recalled.result.now c.in-Ok.talk.pass c.in-Ok.talk.session true (g.K.Sink.held c.say_hello.new.link) (g.K.Counted.faults c.say_hello.new.link) [] (over_by r None))
    c.in-Err-Broken.is said in
    let broken = subst (λ (h : Halt). IsTalk c.args.common.now.rule.now c.args.role start c.recalled_of-recalled.result.now c.in-Ok.talk.pass c.in-Ok.talk.session true (g.K.Sink.held c.say_hello.new.link) (g.K.Counted.faults c.say_hello.new.link) [] (over_by {T = ℕ} (Err h) None))
    c.in-Err-Broken.field-0-is ended in
    session_ended c.args.common.now.rule.now c.args.role c.args.common.now.peers.now start c.in-Ok.talk.pass c.concluded-in-Err-Broken.result.0 c.in-Ok.talk.session true (g.K.Source.left c.args.link.now) (g.K.Source.left c.say_hello.new.link) (g.K.Source.left c.say_hello.new.link)
    (g.K.Sink.held c.say_hello.new.link) (g.K.Counted.faults c.say_hello.new.link) [] Broken c.concluded-in-Err-Broken.result.1 (c.recalled_of-recalled.result.now, c.recalled_of-recalled.ensures.value, broken)
    (reads_nothing_to c.args.common.now.rule.now (g.K.Source.left c.say_hello.new.link) Broken refl) c.say_hello.ensures.left c.concluded-in-Err-Broken.ensures.served c.concluded-in-Err-Broken.ensures.pass

pub returns : goal.returns
returns g c =
    let start : Start = record { first = c.args.pass; name = c.args.name; held = g.K.Sink.held c.args.link.now; faults = g.K.Counted.faults c.args.link.now } in
    let said = begun_talk c.args.common.now.rule.now c.args.role c.args.pass c.in-Ok.talk.pass c.args.name c.recalled_of-recalled.result.now c.in-Ok.talk.session c.in-Ok.out (g.K.Sink.held c.args.link.now) (g.K.Sink.held c.say_hello.new.link)
    (g.K.Counted.faults c.args.link.now) (g.K.Counted.faults c.say_hello.new.link) c.in-Ok.ensures.begun.0 c.requires.rule _ c.say_hello.result c.say_hello.ensures.said c.say_hello.ensures.cause in
    let ended = subst (λ (r : Result _ Halt). IsTalk c.args.common.now.rule.now c.args.role start c.recalled_of-recalled.result.now c.in-Ok.talk.pass c.in-Ok.talk.session true (g.K.Sink.held c.say_hello.new.link) (g.K.Counted.faults c.say_hello.new.link) [] (over_by r None))
    c.in-Err-Memory.is said in
    let starved = subst (λ (h : Halt). IsTalk c.args.common.now.rule.now c.args.role start c.recalled_of-recalled.result.now c.in-Ok.talk.pass c.in-Ok.talk.session true (g.K.Sink.held c.say_hello.new.link) (g.K.Counted.faults c.say_hello.new.link) [] (over_by {T = ℕ} (Err h) None))
    c.in-Err-Memory.field-0-is ended in
    session_ended c.args.common.now.rule.now c.args.role c.args.common.now.peers.now start c.in-Ok.talk.pass c.concluded-in-Err-Memory.result.0 c.in-Ok.talk.session true (g.K.Source.left c.args.link.now) (g.K.Source.left c.say_hello.new.link) (g.K.Source.left c.say_hello.new.link)
    (g.K.Sink.held c.say_hello.new.link) (g.K.Counted.faults c.say_hello.new.link) [] Memory c.concluded-in-Err-Memory.result.1 (c.recalled_of-recalled.result.now, c.recalled_of-recalled.ensures.value, starved)
    (reads_nothing_to c.args.common.now.rule.now (g.K.Source.left c.say_hello.new.link) Memory refl) c.say_hello.ensures.left c.concluded-in-Err-Memory.ensures.served c.concluded-in-Err-Memory.ensures.pass
