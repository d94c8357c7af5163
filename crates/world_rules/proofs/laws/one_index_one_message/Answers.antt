use Rattle.session_rules.proofs.Words.{each_member}
use Rattle.world_rules.proofs.Owning.{once_by_key}
use Rattle.world_rules.proofs.Signing.{IsSignature}
use Rattle.world_rules.proofs.Standing.{stands_always, used_through}
use Rattle.world_rules.proofs.Schemas.{SchemaLaws}
use Rattle.world_rules.proofs.laws.one_index_one_message.Goals as goal

pub returns-clause-once : goal.returns-clause-once
returns-clause-once c ask schema w reached =
    let laws : SchemaLaws = record { one = c.one_schema.ensures; sound = c.declared_is_sound.ensures } in
    (stands_always laws ask schema w reached).signed.distinct

pub returns-clause-used : goal.returns-clause-used
returns-clause-used c ask schema w s reached signed =
    let laws : SchemaLaws = record { one = c.one_schema.ensures; sound = c.declared_is_sound.ensures } in
    let g = each_member (IsSignature w) w.signed s (stands_always laws ask schema w reached).signed.each signed in
    (g.site, g.there, g.used)

pub returns-clause-any_moment : goal.returns-clause-any_moment
returns-clause-any_moment c ask schema w next event answer s site reached happens signed there =
    let laws : SchemaLaws = record { one = c.one_schema.ensures; sound = c.declared_is_sound.ensures } in
    used_through laws ask schema w next event answer s site reached happens signed there

pub returns-clause-by_key : goal.returns-clause-by_key
returns-clause-by_key c ask schema w types number i j a b reached drawn at_a at_b author index =
    let laws : SchemaLaws = record { one = c.one_schema.ensures; sound = c.declared_is_sound.ensures } in
    once_by_key laws ask schema w types number i j a b reached drawn at_a at_b author index
