use Rattle.std.proofs.Common.{◌≡◌, take}
use Rattle.std.specs.Prelude.{count_by}
use Rattle.tuple_state.specs.Causes.{is_absent}
use Rattle.tuple_state.specs.declared.links.Link.{Link}
use Rattle.tuple_state.proofs.settling.absent_among.Given as goal

-- the links so far are counted
abbrev pub invariant-loop-link : goal.invariant-loop-link
invariant-loop-link l = l.count ≡ count_by (λ (link : Link). is_absent l.causes link.place) (take l.link-index l.links)
