use Rattle.std.proofs.Common.{◌+◌, [], ◌∷◌, List, ℕ, map, take, drop, ◌∙◌, subst, arith}
use Rattle.session_rules.specs.State.{Item}
use Rattle.update_codec.specs.Parts.{entry_of}
use Rattle.link_frames.specs.Saying.{Says}
use Rattle.session_server.proofs.Passing.{item_more, item_split, said_halts, said_on}
use Rattle.session_server.proofs.saying.say_piece.Goals as goal

pub returns-in-Err-clause-said : goal.returns-in-Err-clause-said
returns-in-Err-clause-said g c =
    let us = c.args.piece.now in
    let at = c.updates.update-index in
    let update = c.update-item.result in
    let said = subst (λ (u : List ℕ). Says (g.K.Sink.held c.updates.link) (g.K.Sink.held c.say_item.new.link) c.say_item.result (Item (entry_of u) ∷ [])) c.as_slice.ensures c.say_item.ensures.said in
    said_halts _ (g.K.Sink.held c.args.link.now) (g.K.Sink.held c.updates.link) (g.K.Sink.held c.say_item.new.link) c.say_item.result c.in-Err.halt (map Item (map entry_of (take at us))) (Item (entry_of update) ∷ [])
    (map Item (map entry_of (drop (at + 1) us))) (map Item (map entry_of us)) c.updates.invariant.said said c.in-Err.is (item_split us at update c.updates-test.true c.update-item.is)

pub updates-preserved : goal.updates-preserved
updates-preserved g c =
    let us = c.args.piece.now in
    let at = c.updates.update-index in
    let update = c.update-item.result in
    let said = subst (λ (u : List ℕ). Says (g.K.Sink.held c.updates.link) (g.K.Sink.held c.say_item.new.link) c.say_item.result (Item (entry_of u) ∷ [])) c.as_slice.ensures c.say_item.ensures.said in
    record {
      left = c.say_item.ensures.left ∙ c.updates.invariant.left;
      later = omega (arith, c.updates.invariant.later, c.say_item.ensures.cause.later);
      said = said_on _ (g.K.Sink.held c.args.link.now) (g.K.Sink.held c.updates.link) (g.K.Sink.held c.say_item.new.link) c.say_item.result c.in_default.field-0 (map Item (map entry_of (take at us)))
          (Item (entry_of update) ∷ []) (map Item (map entry_of (take (at + 1) us))) c.updates.invariant.said said c.in_default.is (item_more us at update c.updates-test.true c.update-item.is);
    }
