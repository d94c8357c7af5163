use Rattle.std.proofs.Common.{ap, map, reverse, ◌∙◌}
use Rattle.tuple_state.specs.declared.voided.Voided.{Voided}
use Rattle.tuple_state.specs.State.{State, done_in}
use Rattle.tuple_state.proofs.Effects.{did_is, voids_are}
use Rattle.tuple_state.proofs.laws.states_are_effects.Goals as goal

pub returns-clause-did : goal.returns-clause-did
returns-clause-did c rules nodes state held = ap (λ (s : State). done_in s) held.is ∙ did_is rules nodes

pub returns-clause-voids : goal.returns-clause-voids
returns-clause-voids c rules nodes state held = ap (λ (s : State). reverse (map (λ (it : Voided). it.line) s.voids)) held.is ∙ voids_are rules nodes
