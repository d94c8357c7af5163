use Rattle.std.proofs.Common.{true, false, refl, sym, ap, set, ◌∙◌}
use Rattle.byzantine_world.proofs.Goes.{frame_left, nothing_left, read_required}
use Rattle.byzantine_world.proofs.state.State.carry.Goals as goal
use Rattle.world_rules.specs.Worlds.{SiteData}

pub read_end-requires : goal.read_end-requires
read_end-requires c = read_required c.args.self.now.sites.items c.args.self.now.talks.items c.requires.stands c.args.session c.args.forward c.in-Some.reader (sym c.reader.ensures ∙ c.in-Some.is) c.index_mut-talk.result.now _ c.index_mut-site.result.now _ c.index_mut-talk.ensures.value c.index_mut-site.ensures.value

pub returns-in-Nothing-clause-step : goal.returns-in-Nothing-clause-step
returns-in-Nothing-clause-step c =
    (nothing_left c.args.self.now.sites.items c.args.self.now.talks.items c.requires.stands c.args.session c.args.forward c.in-Some.reader (sym c.reader.ensures ∙ c.in-Some.is) c.index_mut-talk.result.now _ c.index_mut-site.result.now _ c.index_mut-talk.ensures.value c.index_mut-site.ensures.value
    c.in_ok-read_end.field-0 c.read_end.new.site c.read_end.new.talk c.in-Nothing.is c.in_ok-read_end.ensures).0

pub returns-in-Nothing-clause-stands : goal.returns-in-Nothing-clause-stands
returns-in-Nothing-clause-stands c =
    (nothing_left c.args.self.now.sites.items c.args.self.now.talks.items c.requires.stands c.args.session c.args.forward c.in-Some.reader (sym c.reader.ensures ∙ c.in-Some.is) c.index_mut-talk.result.now _ c.index_mut-site.result.now _ c.index_mut-talk.ensures.value c.index_mut-site.ensures.value
    c.in_ok-read_end.field-0 c.read_end.new.site c.read_end.new.talk c.in-Nothing.is c.in_ok-read_end.ensures).1

pub returns-then-is_store-clause-step : goal.returns-then-is_store-clause-step
returns-then-is_store-clause-step c =
    (frame_left c.args.self.now.sites.items c.args.self.now.talks.items c.requires.stands c.args.session c.args.forward c.in-Some.reader (sym c.reader.ensures ∙ c.in-Some.is) c.index_mut-talk.result.now _ c.index_mut-site.result.now _ c.index_mut-talk.ensures.value c.index_mut-site.ensures.value
    c.in_ok-read_end.field-0 c.in-Frame.end c.read_end.new.site c.read_end.new.talk true c.in-Frame.is (sym c.is_store.ensures ∙ c.if-is_store.true) c.in_ok-read_end.ensures _ _ (c.cut_with.ensures.sites ∙ ap (λ (x : SiteData). set c.args.self.now.sites.items c.in-Some.reader x) c.sink.ensures) c.cut_with.ensures.talks).0

pub returns-then-is_store-clause-stands : goal.returns-then-is_store-clause-stands
returns-then-is_store-clause-stands c =
    (frame_left c.args.self.now.sites.items c.args.self.now.talks.items c.requires.stands c.args.session c.args.forward c.in-Some.reader (sym c.reader.ensures ∙ c.in-Some.is) c.index_mut-talk.result.now _ c.index_mut-site.result.now _ c.index_mut-talk.ensures.value c.index_mut-site.ensures.value
    c.in_ok-read_end.field-0 c.in-Frame.end c.read_end.new.site c.read_end.new.talk true c.in-Frame.is (sym c.is_store.ensures ∙ c.if-is_store.true) c.in_ok-read_end.ensures _ _ (c.cut_with.ensures.sites ∙ ap (λ (x : SiteData). set c.args.self.now.sites.items c.in-Some.reader x) c.sink.ensures) c.cut_with.ensures.talks).1

pub returns-else-is_store-clause-step : goal.returns-else-is_store-clause-step
returns-else-is_store-clause-step c =
    (frame_left c.args.self.now.sites.items c.args.self.now.talks.items c.requires.stands c.args.session c.args.forward c.in-Some.reader (sym c.reader.ensures ∙ c.in-Some.is) c.index_mut-talk.result.now _ c.index_mut-site.result.now _ c.index_mut-talk.ensures.value c.index_mut-site.ensures.value
    c.in_ok-read_end.field-0 c.in-Frame.end c.read_end.new.site c.read_end.new.talk false c.in-Frame.is (sym c.is_store.ensures ∙ c.if-is_store.false) c.in_ok-read_end.ensures _ _ refl refl).0

pub returns-else-is_store-clause-stands : goal.returns-else-is_store-clause-stands
returns-else-is_store-clause-stands c =
    (frame_left c.args.self.now.sites.items c.args.self.now.talks.items c.requires.stands c.args.session c.args.forward c.in-Some.reader (sym c.reader.ensures ∙ c.in-Some.is) c.index_mut-talk.result.now _ c.index_mut-site.result.now _ c.index_mut-talk.ensures.value c.index_mut-site.ensures.value
    c.in_ok-read_end.field-0 c.in-Frame.end c.read_end.new.site c.read_end.new.talk false c.in-Frame.is (sym c.is_store.ensures ∙ c.if-is_store.false) c.in_ok-read_end.ensures _ _ refl refl).1
