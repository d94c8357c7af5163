use Rattle.world_rules.specs.Worlds.{held_by}
use Rattle.byzantine_world.proofs.Entries.{no_entry}
use Rattle.byzantine_world.proofs.laws.no_correct_key_is_doubled.Goals as goal

pub returns : goal.returns
returns c ask schema w q r site other entries entry reached honest at_q found has at_r key =
    no_entry w r other (held_by site) entries entry
    (λ first second held_first held_second key_first key_second index.
    c.correct_keys_are_never_doubled.ensures ask schema w q r site first second reached honest at_q held_first held_second key_first key_second index)
    found has at_r key
