use Rattle.std.proofs.Common.{◌≡◌, Vec, Global, arith, ap, ◌∙◌, subst}
use Rattle.std.proofs.lemmas.Result.{IfOk-weaker}
use Rattle.std.specs.Prelude.{IfOk}
use Rattle.byzantine_world.specs.Codes.{ShowsWorld, WorldCode}
use Rattle.byzantine_world.specs.Shown.{sessions_shown, talks_shown}
use Rattle.byzantine_world.proofs.Reported.{shown_of}
use Rattle.byzantine_world.proofs.world.World.sessions.Goals as goal
use Rattle.world_report.specs.declared.shown.ShownSession.{ShownSession}
use Rattle.world_rules.specs.Worlds.{WorldData}

pub shown_sessions-requires : goal.shown_sessions-requires
shown_sessions-requires c =
    let same = c.as_slice.ensures.len in
    let many = (c.self.invariant c.if-self.false).numbers in
    omega (arith, same, many)

pub returns : goal.returns
returns c =
    let state = c.self.inside.state in
    let standing = c.self.invariant c.if-self.false in
    let code : WorldCode = record { sites = state.sites.items; talks = state.talks.items; is_over = c.self.inside.is_over } in
    subst (λ (code : WorldCode). IfOk c.shown_sessions.result (λ shown. (w : WorldData) → ShowsWorld code w → shown.items ≡ sessions_shown 0 w.sessions)) c.self.view_is
    (IfOk-weaker c.shown_sessions.result (λ (shown : Vec ShownSession Global). shown.items ≡ talks_shown 0 c.as_slice.result.now)
    (λ (shown : Vec ShownSession Global). (w : WorldData) → ShowsWorld code w → shown.items ≡ sessions_shown 0 w.sessions)
    (λ shown is w shows. is ∙ ap (talks_shown 0) c.as_slice.ensures.value ∙ shown_of code.sites code.talks w standing shows) c.shown_sessions.ensures)
