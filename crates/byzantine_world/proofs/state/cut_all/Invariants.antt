use Rattle.std.proofs.Common.{◌≡◌, ◌++◌, map, take, drop}
use Rattle.byzantine_world.specs.Events.{cut_code_with}
use Rattle.byzantine_world.proofs.state.cut_all.Given as goal

-- the sessions so far are cut
abbrev pub invariant-talks : goal.invariant-talks
invariant-talks l = l.talks ≡ map (cut_code_with l.replica) (take l.talk-index l.fn.talks) ++ drop l.talk-index l.fn.talks
