use Rattle.world_rules.proofs.Standing.{of_heads, stands_always}
use Rattle.world_rules.proofs.Schemas.{SchemaLaws}
use Rattle.world_rules.proofs.laws.equal_heads_mean_equal_tables.Goals as goal

pub returns : goal.returns
returns c ask schema w r q a b heads reached at_a at_b heads_a heads_b alike =
    let laws : SchemaLaws = record { one = c.one_schema.ensures; sound = c.declared_is_sound.ensures } in
    of_heads ask schema w r q a b heads (stands_always laws ask schema w reached) at_a at_b heads_a heads_b alike
