use Rattle.world_rules.proofs.Doubles.{one_message}
use Rattle.world_rules.proofs.Standing.{stands_always}
use Rattle.world_rules.proofs.Schemas.{SchemaLaws}
use Rattle.world_rules.proofs.laws.correct_keys_are_never_doubled.Goals as goal

pub returns : goal.returns
returns c ask schema w q r site first second reached honest there has_first has_second key_first key_second index =
    let laws : SchemaLaws = record { one = c.one_schema.ensures; sound = c.declared_is_sound.ensures } in
    one_message schema w q r site first second (stands_always laws ask schema w reached) honest there has_first has_second key_first key_second index
