use Rattle.std.proofs.Common.{◌≡◌, ℕ, true, false, List, set, sym, ap, subst, ◌∙◌}
use Rattle.std.proofs.lemmas.Option.{get_or_from_slice_get}
use Rattle.std.specs.Prelude.{IfOk}
use Rattle.row_check.specs.Checksum.{is_luhn}
use Rattle.update_model.specs.declared.op.Op.{Op}
use Rattle.byzantine_world.specs.Events.{IsStep}
use Rattle.byzantine_world.specs.Standing.{IsStanding}
use Rattle.byzantine_world.specs.declared.state.State.{State}
use Rattle.byzantine_world.proofs.Made.{make_ends, stands_of, step_of, up_site}
use Rattle.byzantine_world.proofs.state.State.make.Goals.{then-has_failed, else-has_failed}
use Rattle.byzantine_world.proofs.state.State.make.Goals as goal
use Rattle.world_rules.specs.Happens.{MakesBy, Signs}
use Rattle.world_rules.specs.Worlds.{SignedData, SiteData, sunk}
use Rattle.world_rules.specs.declared.event.Event.TheVariants as events

both : (c : goal.After-answer_of) → IfOk c.answer_of.result (λ answer. IsStep is_luhn c.args.self.now.sites.items c.args.self.now.talks.items (events.Make c.args.replica c.args.ops.now) answer
    c.if-has_failed.self.sites.items c.if-has_failed.self.talks.items × IsStanding c.if-has_failed.self.sites.items c.if-has_failed.self.talks.items)
both c =
    let sites = c.args.self.now.sites.items in
    let talks = c.args.self.now.talks.items in
    let r = c.args.replica in
    let ops = c.args.ops.now in
    let one = up_site sites r (sym c.is_up.ensures ∙ c.if-not-is_up.false) in
    let made = c.make-made in
    let new = made.new.self in
    let here : c.index_mut-site.result.now ≡ one.0 = c.index_mut-site.ensures.value ∙ get_or_from_slice_get sites r one.0 _ one.1 in
    let makes : MakesBy is_luhn one.0.store one.0.key ops c.fill_bytes.new.dst made.result new.store new.key = subst (λ (s : SiteData). MakesBy is_luhn s.store s.key ops c.fill_bytes.new.dst made.result new.store new.key) here
    (subst (λ (o : List Op). MakesBy is_luhn c.index_mut-site.result.now.store c.index_mut-site.result.now.key o c.fill_bytes.new.dst made.result new.store new.key) c.in_ok-ops.ensures made.ensures.makes) in
    let signs : (q event : ℕ) → (signs : List SignedData) × Signs made.result q event one.0.store one.0.key ops signs = subst (λ (s : SiteData). (q event : ℕ) → (signs : List SignedData) × Signs made.result q event s.store s.key ops signs) here
    (subst (λ (o : List Op). (q event : ℕ) → (signs : List SignedData) × Signs made.result q event c.index_mut-site.result.now.store c.index_mut-site.result.now.key o signs) c.in_ok-ops.ensures made.ensures.signs) in
    let is : new ≡ record one.0 { store = new.store; key = new.key } = made.ensures.same ∙ ap (λ (s : SiteData). record s { store = new.store; key = new.key }) here in
    elim c.if-has_failed.branch [
      | then-has_failed w ↦ make_ends sites talks c.requires.stands r one.0 ops c.fill_bytes.new.dst made.result new.store new.key one.1 one.2 makes signs c.answer_of.result true
          (sym c.has_failed.ensures ∙ w.if-has_failed.true) c.answer_of.ensures c.if-has_failed.self.sites.items c.if-has_failed.self.talks.items
          (ap (λ (s : State). s.sites.items) w.self-is ∙ w.cut_with.ensures.sites ∙ ap (λ (s : SiteData). set sites r s) (w.sink.ensures ∙ ap sunk is))
          (ap (λ (s : State). s.talks.items) w.self-is ∙ w.cut_with.ensures.talks)
      | else-has_failed w ↦ make_ends sites talks c.requires.stands r one.0 ops c.fill_bytes.new.dst made.result new.store new.key one.1 one.2 makes signs c.answer_of.result false
          (sym c.has_failed.ensures ∙ w.if-has_failed.false) c.answer_of.ensures c.if-has_failed.self.sites.items c.if-has_failed.self.talks.items
          (ap (λ (s : State). s.sites.items) w.self-is ∙ ap (λ (s : SiteData). set sites r s) is) (ap (λ (s : State). s.talks.items) w.self-is)
    ]

pub returns-clause-step : goal.returns-clause-step
returns-clause-step c = step_of c.answer_of.result _ _ (both c)

pub returns-clause-stands : goal.returns-clause-stands
returns-clause-stands c = stands_of c.answer_of.result _ _ (both c)
