use Rattle.std.proofs.Common.{◌≡◌, ◌&&◌, ◌==◌, ℕ, Bool, List, Option, Some, true, set, sym, ap, ap₂, subst, ◌∙◌}
use Rattle.std.proofs.lemmas.Option.{get_or_from_slice_get}
use Rattle.std.specs.Prelude.{not, slice_get}
use Rattle.row_check.specs.Checksum.{is_luhn}
use Rattle.byzantine_world.specs.Events.{IsStep, way_of}
use Rattle.byzantine_world.specs.declared.talk.Talk.{Talk}
use Rattle.byzantine_world.specs.declared.talk.Talk.TheVariants as talks
use Rattle.byzantine_world.specs.Sessions.{BeginBoth}
use Rattle.byzantine_world.proofs.Made.{up_site}
use Rattle.byzantine_world.proofs.Starting.{apart_test, two_stand, two_steps}
use Rattle.byzantine_world.proofs.state.State.start_with.Goals as goal
use Rattle.world_rules.specs.Worlds.{SiteData, is_up}
use Rattle.world_rules.specs.declared.event.Event.TheVariants as events
use Rattle.world_rules.specs.declared.event.Stepped.TheVariants as stepped

-- the two ends, over what the replicas hold
both_begin : (c : goal.After-put) → BeginBoth (up_site c.args.self.now.sites.items c.args.first (sym c.is_up.ensures ∙ c.if-not-is_up.false)).0
    (up_site c.args.self.now.sites.items c.args.second (sym c.is_up-else-not-is_up.ensures ∙ c.if-not-is_up-2.false)).0 c.args.first c.args.second c.in_ok-both.both
both_begin c =
    let sites = c.args.self.now.sites.items in
    let one = up_site sites c.args.first (sym c.is_up.ensures ∙ c.if-not-is_up.false) in
    let two = up_site sites c.args.second (sym c.is_up-else-not-is_up.ensures ∙ c.if-not-is_up-2.false) in
    let here : c.index-one.result.now ≡ one.0 = c.index-one.ensures ∙ get_or_from_slice_get sites c.args.first one.0 _ one.1 in
    let there : c.index-other.result.now ≡ two.0 = c.index-other.ensures ∙ get_or_from_slice_get sites c.args.second two.0 _ two.1 in
    subst (λ (s : SiteData). BeginBoth one.0 s c.args.first c.args.second c.in_ok-both.both) there (subst (λ (s : SiteData). BeginBoth s c.index-other.result.now c.args.first c.args.second c.in_ok-both.both) here c.in_ok-both.ensures)

pub returns-clause-step : goal.returns-clause-step
returns-clause-step c =
    let sites = c.args.self.now.sites.items in
    let all = c.args.self.now.talks.items in
    let session = c.args.session in
    let first = c.args.first in
    let second = c.args.second in
    let up = sym c.is_up.ensures ∙ c.if-not-is_up.false in
    let up_too = sym c.is_up-else-not-is_up.ensures ∙ c.if-not-is_up-2.false in
    let one = up_site sites first up in
    let two = up_site sites second up_too in
    let begin = both_begin c in
    let a = begin.starts.begins in
    let b = begin.waits in
    let both = c.in_ok-both.both in
    let can : (is_up (slice_get sites first) && (is_up (slice_get sites second) && not (first == second))) ≡ true =
    ap₂ (λ (a b : Bool). a && b) up (ap₂ (λ (a b : Bool). a && b) up_too (apart_test first second c.if-first-second.false)) in
    let steps = two_steps sites all c.requires.stands session both a.begun b.begun a.gives b.gives one.0 two.0 (ap (slice_get sites) begin.first_is ∙ one.1) (ap (slice_get sites) begin.second_is ∙ two.1) a.starts b.starts a.side_is b.side_is begin.to_a_is
    (begin.starts.way_is ∙ ap way_of a.hello_is) c.requires.free
    (ap₂ (λ (n m : ℕ). is_up (slice_get sites n) && (is_up (slice_get sites m) && not (n == m))) begin.first_is begin.second_is ∙ can) in
    let at : List (Option Talk) = set all session (Some (talks.Both both)) in
    rw (c.put.ensures.sites, c.put.ensures.talks)
    (subst (λ (n : ℕ). IsStep is_luhn sites all (events.Start session first (Some n)) stepped.Done sites at) begin.second_is
    (subst (λ (n : ℕ). IsStep is_luhn sites all (events.Start session n (Some both.second)) stepped.Done sites at) begin.first_is steps))

pub returns-clause-stands : goal.returns-clause-stands
returns-clause-stands c =
    let sites = c.args.self.now.sites.items in
    let one = up_site sites c.args.first (sym c.is_up.ensures ∙ c.if-not-is_up.false) in
    let two = up_site sites c.args.second (sym c.is_up-else-not-is_up.ensures ∙ c.if-not-is_up-2.false) in
    let begin = both_begin c in
    let a = begin.starts.begins in
    let b = begin.waits in
    rw (c.put.ensures.sites, c.put.ensures.talks)
    (two_stand sites c.args.self.now.talks.items c.requires.stands c.args.session c.in_ok-both.both a.begun b.begun a.gives b.gives one.0 two.0 (ap (slice_get sites) begin.first_is ∙ one.1) (ap (slice_get sites) begin.second_is ∙ two.1) a.starts b.starts a.side_is
    b.side_is begin.to_a_is (begin.starts.way_is ∙ ap way_of a.hello_is) a.belongs b.belongs)
