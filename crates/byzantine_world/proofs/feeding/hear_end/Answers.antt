use Rattle.std.proofs.Common.{rules, ◌≡◌, Some}
use Rattle.byzantine_world.specs.Taking.{liar_in}
use Rattle.byzantine_world.proofs.Fed.{heard_of}
use Rattle.byzantine_world.proofs.feeding.hear_end.Goals as goal

pub hear-requires : goal.hear-requires
hear-requires c = let here : liar_in c.args.talk.now ≡ Some c.in-Some-Liar.liar = search rules in c.requires c.in-Some-Liar.liar here

pub returns-in-Some-Liar : goal.returns-in-Some-Liar
returns-in-Some-Liar c =
    let here : liar_in c.args.talk.now ≡ Some c.in-Some-Liar.liar = search rules in
    heard_of c.args.site.now c.hear.new.site c.args.talk.now c.in-Some-Liar.liar c.hear.new.self c.args.bytes.now c.hear.result here c.hear.ensures.hears c.hear.ensures.ended
