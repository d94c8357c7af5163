use Rattle.world_rules.proofs.Standing.{keeps_list, stands_always}
use Rattle.world_rules.proofs.Schemas.{SchemaLaws}
use Rattle.world_rules.proofs.laws.lists_only_grow.Goals as goal

pub returns-clause-closed : goal.returns-clause-closed
returns-clause-closed c ask schema w r site reached there =
    let laws : SchemaLaws = record { one = c.one_schema.ensures; sound = c.declared_is_sound.ensures } in
    ((stands_always laws ask schema w reached).sound.sites r site there).members

pub returns-clause-grows : goal.returns-clause-grows
returns-clause-grows c ask schema w next event answer r site reached happens there =
    let laws : SchemaLaws = record { one = c.one_schema.ensures; sound = c.declared_is_sound.ensures } in
    keeps_list laws ask schema w next event answer r site reached happens there
