use Rattle.std.proofs.Common.{sym, ◌∙◌}
use Rattle.std.proofs.lemmas.Bool.{both_ways}
use Rattle.std.proofs.lemmas.Result.{IfOk-weaker}
use Rattle.tuple_state.specs.State.{rules_of_state}
use Rattle.tuple_state.proofs.Answering.{layered_then, resting_then}
use Rattle.tuple_state.proofs.Layers.{grounded_is}
use Rattle.tuple_state.proofs.at.known_then.Goals as goal

pub known_then-requires-clause-layered : goal.known_then-requires-clause-layered
known_then-requires-clause-layered g c =
    let it = c.requires.past in
    layered_then it.rules it.nodes it.node c.args.tables.now _ it.is it.past_of

pub known_then-requires-clause-grounded : goal.known_then-requires-clause-grounded
known_then-requires-clause-grounded g c =
    let it = c.requires.past in
    grounded_is (rules_of_state c.args.tables.now) _ ∙ resting_then it.rules it.nodes it.node c.args.tables.now _ it.is it.past_of

pub known_then-requires-clause-keeps : goal.known_then-requires-clause-keeps
known_then-requires-clause-keeps g c = sym c.keeps.ensures ∙ c.if-keeps.true

pub returns-then-keeps : goal.returns-then-keeps
returns-then-keeps g c = IfOk-weaker c.known_then.result _ _ (λ v are keeps. are) c.known_then.ensures

pub returns-else-keeps : goal.returns-else-keeps
returns-else-keeps g c keeps = absurd (both_ways _ (sym c.keeps.ensures ∙ c.if-keeps.false) keeps)
