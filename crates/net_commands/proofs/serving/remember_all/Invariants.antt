use Rattle.std.proofs.Common.{List, drop}
use Rattle.peer_memory.specs.declared.peer.Peer.{Peer}
use Rattle.net_commands.specs.Meetings.{RemembersAll}
use Rattle.net_commands.proofs.serving.remember_all.Given as goal

-- what is remembered once the sessions that are left are gone through is so after all of them
abbrev pub invariant-loop-served : goal.invariant-loop-served
invariant-loop-served l = (final : List Peer) → RemembersAll l.peers (drop l.served-index l.sessions) final → RemembersAll l.initial.peers l.sessions final
