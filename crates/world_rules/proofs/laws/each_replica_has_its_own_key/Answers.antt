use Rattle.world_rules.proofs.Owning.{drawn_always, own_key, own_seed}
use Rattle.world_rules.proofs.Schemas.{SchemaLaws}
use Rattle.world_rules.proofs.laws.each_replica_has_its_own_key.Goals as goal

pub returns-clause-kept : goal.returns-clause-kept
returns-clause-kept c ask schema first w types number new run drawn =
    let laws : SchemaLaws = record { one = c.one_schema.ensures; sound = c.declared_is_sound.ensures } in
    drawn_always laws ask schema first w types number new run drawn

pub returns-clause-own : goal.returns-clause-own
returns-clause-own c ask schema w types number r q a b reached drawn at_a at_b same =
    let laws : SchemaLaws = record { one = c.one_schema.ensures; sound = c.declared_is_sound.ensures } in
    own_key laws ask schema w types number r q a b reached drawn at_a at_b same

pub returns-clause-seed : goal.returns-clause-seed
returns-clause-seed c ask schema w types number r q a b reached drawn at_a at_b same =
    let laws : SchemaLaws = record { one = c.one_schema.ensures; sound = c.declared_is_sound.ensures } in
    own_seed laws ask schema w types number r q a b reached drawn at_a at_b same
