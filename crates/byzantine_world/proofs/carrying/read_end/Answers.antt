use Rattle.std.proofs.Common.{rules, ◌≡◌, Some, refl, subst}
use Rattle.world_rules.proofs.Outcomes.{if_ok_map}
use Rattle.byzantine_world.specs.Taking.{Reads, both_in, view_from}
use Rattle.byzantine_world.specs.declared.talk.Both.{Both}
use Rattle.byzantine_world.proofs.carrying.read_end.Goals as goal

pub returns-in-Some-Both : goal.returns-in-Some-Both
returns-in-Some-Both c =
    let here : both_in c.args.talk.now ≡ Some c.in-Some-Both.both = search rules in
    if_ok_map c.read.result _ _ (λ read h both is.
    let same : c.in-Some-Both.both ≡ both = cc in
    (c.read.new.self, refl, subst (λ (b : Both). Reads read c.args.site.now (view_from c.args.forward b) c.read.new.site (view_from c.args.forward c.read.new.self)) same h)) c.read.ensures
