use Rattle.std.proofs.Common.{subst}
use Rattle.std.specs.Prelude.{IfOk}
use Rattle.row_check.specs.Checksum.{is_luhn}
use Rattle.byzantine_world.specs.Codes.{Shows, ShowsWorld, WorldCode}
use Rattle.byzantine_world.proofs.world.World.step.Goals as goal
use Rattle.world_rules.specs.Happens.{Happens}
use Rattle.world_rules.specs.Worlds.{WorldData}

pub returns-clause-happens : goal.returns-clause-happens
returns-clause-happens c =
    let new = c.happen-stepped.new.self in
    subst (λ (code : WorldCode). IfOk c.happen-stepped.result (λ answer. (w : WorldData) → ShowsWorld code w → (next : WorldData) × Happens is_luhn w c.args.event.now answer next × Shows new.sites.items new.talks.items next))
    c.self.view_is c.happen-stepped.ensures.step
