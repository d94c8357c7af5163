use Rattle.world_rules.proofs.Standing.{sound_talk, stands_always}
use Rattle.world_rules.proofs.Schemas.{SchemaLaws}
use Rattle.world_rules.proofs.laws.sessions_are_sound.Goals as goal

pub returns : goal.returns
returns c ask schema w s ends a b reached there at_a at_b =
    let laws : SchemaLaws = record { one = c.one_schema.ensures; sound = c.declared_is_sound.ensures } in
    sound_talk schema w s ends a b (stands_always laws ask schema w reached) there at_a at_b
