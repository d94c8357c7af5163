use Rattle.std.proofs.Common.{◌≡◌, take}
use Rattle.byzantine_world.specs.Shown.{talks_shown}
use Rattle.byzantine_world.proofs.reporting.shown_sessions.Given as goal

-- the sessions so far are shown
abbrev pub invariant-talks : goal.invariant-talks
invariant-talks l = (l.number ≡ l.talk-index) × (l.shown.items ≡ talks_shown 0 (take l.talk-index l.talks))
