use Rattle.std.proofs.Common.{true, false, refl, sym, ap, set, ◌∙◌}
use Rattle.byzantine_world.proofs.Goes.{hear_required, heard_left}
use Rattle.byzantine_world.proofs.state.State.feed.Goals as goal
use Rattle.world_rules.specs.Worlds.{SiteData}

pub hear_end-requires : goal.hear_end-requires
hear_end-requires c = hear_required c.args.self.now.sites.items c.args.self.now.talks.items c.requires.stands c.args.session c.args.bytes.now c.in-Some.reader (sym c.hearer.ensures ∙ c.in-Some.is) c.index_mut-talk.result.now _ c.index_mut-site.result.now _ c.index_mut-talk.ensures.value c.index_mut-site.ensures.value

pub returns-then-is_store-clause-step : goal.returns-then-is_store-clause-step
returns-then-is_store-clause-step c =
    (heard_left c.args.self.now.sites.items c.args.self.now.talks.items c.requires.stands c.args.session c.args.bytes.now c.in-Some.reader (sym c.hearer.ensures ∙ c.in-Some.is) c.index_mut-talk.result.now _ c.index_mut-site.result.now _ c.index_mut-talk.ensures.value c.index_mut-site.ensures.value
    c.in_ok-end.end c.hear_end.new.site c.hear_end.new.talk true (sym c.is_store.ensures ∙ c.if-is_store.true) c.in_ok-end.ensures _ _ (c.cut_with.ensures.sites ∙ ap (λ (x : SiteData). set c.args.self.now.sites.items c.in-Some.reader x) c.sink.ensures) c.cut_with.ensures.talks).0

pub returns-then-is_store-clause-stands : goal.returns-then-is_store-clause-stands
returns-then-is_store-clause-stands c =
    (heard_left c.args.self.now.sites.items c.args.self.now.talks.items c.requires.stands c.args.session c.args.bytes.now c.in-Some.reader (sym c.hearer.ensures ∙ c.in-Some.is) c.index_mut-talk.result.now _ c.index_mut-site.result.now _ c.index_mut-talk.ensures.value c.index_mut-site.ensures.value
    c.in_ok-end.end c.hear_end.new.site c.hear_end.new.talk true (sym c.is_store.ensures ∙ c.if-is_store.true) c.in_ok-end.ensures _ _ (c.cut_with.ensures.sites ∙ ap (λ (x : SiteData). set c.args.self.now.sites.items c.in-Some.reader x) c.sink.ensures) c.cut_with.ensures.talks).1

pub returns-else-is_store-clause-step : goal.returns-else-is_store-clause-step
returns-else-is_store-clause-step c =
    (heard_left c.args.self.now.sites.items c.args.self.now.talks.items c.requires.stands c.args.session c.args.bytes.now c.in-Some.reader (sym c.hearer.ensures ∙ c.in-Some.is) c.index_mut-talk.result.now _ c.index_mut-site.result.now _ c.index_mut-talk.ensures.value c.index_mut-site.ensures.value
    c.in_ok-end.end c.hear_end.new.site c.hear_end.new.talk false (sym c.is_store.ensures ∙ c.if-is_store.false) c.in_ok-end.ensures _ _ refl refl).0

pub returns-else-is_store-clause-stands : goal.returns-else-is_store-clause-stands
returns-else-is_store-clause-stands c =
    (heard_left c.args.self.now.sites.items c.args.self.now.talks.items c.requires.stands c.args.session c.args.bytes.now c.in-Some.reader (sym c.hearer.ensures ∙ c.in-Some.is) c.index_mut-talk.result.now _ c.index_mut-site.result.now _ c.index_mut-talk.ensures.value c.index_mut-site.ensures.value
    c.in_ok-end.end c.hear_end.new.site c.hear_end.new.talk false (sym c.is_store.ensures ∙ c.if-is_store.false) c.in_ok-end.ensures _ _ refl refl).1
