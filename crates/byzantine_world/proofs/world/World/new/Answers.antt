use Rattle.std.proofs.Common.{◌≤◌, ℕ, arith, rules, subst}
use Rattle.byzantine_world.proofs.Started.{begins_with, stands_first}
use Rattle.byzantine_world.proofs.world.World.new.Goals as goal
use Rattle.world_rules.proofs.Schemas.{SchemaLaws}
use Rattle.world_rules.specs.Drawn.{HaveDrawnKeys}

pub invariant_of-result : goal.invariant_of-result
invariant_of-result c runs =
    let laws : SchemaLaws = record { one = c.one_schema.ensures; sound = c.declared_is_sound.ensures } in
    let some : 1 ≤ c.args.count = omega arith in
    let few : c.args.count ≤ 16 = omega arith in
    stands_first laws c.args.text.now c.args.count c.in_ok-sites.sites.items c.in_ok-talks.talks.items some few c.in_ok-sites.ensures.many c.in_ok-sites.ensures.new c.in_ok-talks.ensures.many c.in_ok-talks.ensures.none

pub returns-clause-new : goal.returns-clause-new
returns-clause-new c =
    let laws : SchemaLaws = record { one = c.one_schema.ensures; sound = c.declared_is_sound.ensures } in
    let some : 1 ≤ c.args.count = omega arith in
    let few : c.args.count ≤ 16 = omega arith in
    let keys = subst (λ (number : ℕ). HaveDrawnKeys c.args.types number c.in_ok-sites.sites.items) c.new-words.ensures c.in_ok-sites.ensures.keys in
    begins_with laws c.args.text.now c.args.count c.args.types c.args.number c.in_ok-sites.sites.items c.in_ok-talks.talks.items some few c.in_ok-sites.ensures.many c.in_ok-sites.ensures.new keys
    c.in_ok-talks.ensures.many c.in_ok-talks.ensures.none

pub returns-in_err-check_text-clause-refused : goal.returns-in_err-check_text-clause-refused
returns-in_err-check_text-clause-refused c = let refused = c.in_err-check_text.ensures.refused c.args.count in search rules
