use Rattle.std.proofs.Common.{◌≡◌, ◌++◌, take}
use Rattle.std.specs.List.{flat_map}
use Rattle.world_report.specs.Reports.{session_text}
use Rattle.world_report.proofs.printing.push_sessions.Given as goal

-- the sessions so far
abbrev pub invariant-loop-session : goal.invariant-loop-session
invariant-loop-session l = l.out.items ≡ l.fn.out.items ++ flat_map session_text (take l.session-index l.sessions)
