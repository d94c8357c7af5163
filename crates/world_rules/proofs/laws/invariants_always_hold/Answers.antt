use Rattle.world_rules.proofs.Standing.{of_invariants, stands_always}
use Rattle.world_rules.proofs.Schemas.{SchemaLaws}
use Rattle.world_rules.proofs.laws.invariants_always_hold.Goals as goal

pub returns : goal.returns
returns c ask schema w r site reached there =
    let laws : SchemaLaws = record { one = c.one_schema.ensures; sound = c.declared_is_sound.ensures } in
    of_invariants laws ask schema w r site reached.1.taken (stands_always laws ask schema w reached) there
