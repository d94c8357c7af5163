use Rattle.std.proofs.Common.{subst}
use Rattle.world_rules.specs.Laws.{IsOfMake}
use Rattle.world_rules.specs.Worlds.{held_by}
use Rattle.world_rules.proofs.Owning.{only_one}
use Rattle.world_rules.proofs.Standing.{of_make, stands_always}
use Rattle.world_rules.proofs.Schemas.{SchemaLaws}
use Rattle.world_rules.proofs.laws.members_were_made.Goals as goal

pub returns-clause-made : goal.returns-clause-made
returns-clause-made c ask schema w q r site update reached honest there held key =
    let laws : SchemaLaws = record { one = c.one_schema.ensures; sound = c.declared_is_sound.ensures } in
    of_make schema w q r site update (stands_always laws ask schema w reached) honest there held key

pub returns-clause-by_itself : goal.returns-clause-by_itself
returns-clause-by_itself c ask schema w q r site update reached honest there held key only =
    let laws : SchemaLaws = record { one = c.one_schema.ensures; sound = c.declared_is_sound.ensures } in
    let made = of_make schema w q r site update (stands_always laws ask schema w reached) honest there held key in
    subst (λ n. IsOfMake w n (held_by site) update) (only made.0 made.1) made.2

pub returns-clause-by_own_key : goal.returns-clause-by_own_key
returns-clause-by_own_key c ask schema w types number q r site update reached drawn honest there held key =
    let laws : SchemaLaws = record { one = c.one_schema.ensures; sound = c.declared_is_sound.ensures } in
    let made = of_make schema w q r site update (stands_always laws ask schema w reached) honest there held key in
    subst (λ n. IsOfMake w n (held_by site) update) (only_one laws ask schema w types number r made.0 update reached drawn key made.1) made.2
