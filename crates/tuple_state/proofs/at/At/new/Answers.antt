use Rattle.tuple_state.proofs.Answering.{lasts_then, layered_then, resting_then}
use Rattle.std.proofs.Common.{◌∙◌}
use Rattle.tuple_state.specs.State.{rules_of_state}
use Rattle.tuple_state.proofs.Layers.{grounded_is}
use Rattle.tuple_state.proofs.Holding.{referred_now}
use Rattle.tuple_state.proofs.Keeping.{layered_now}
use Rattle.tuple_state.proofs.at.At.new.Goals as goal

pub invariant_of-result : goal.invariant_of-result
invariant_of-result g c =
    let it = c.requires.past in record {
      founded = layered_now it.rules it.nodes c.args.tables.now it.is;
      referred = referred_now it.rules it.nodes c.args.tables.now it.is;
      lasting = lasts_then it.rules it.nodes it.node c.args.tables.now _ it.is it.past_of;
      layered = layered_then it.rules it.nodes it.node c.args.tables.now _ it.is it.past_of;
      grounded = grounded_is (rules_of_state c.args.tables.now) _ ∙ resting_then it.rules it.nodes it.node c.args.tables.now _ it.is it.past_of;
      counted = c.in_ok-known.ensures;
    }
