use Rattle.std.proofs.Common.{◌≡◌, ◌<◌, Some, length, sym, ap, ◌∙◌, arith}
use Rattle.std.proofs.lemmas.Option.{slice_get-get_or}
use Rattle.std.specs.Prelude.{slice_get}
use Rattle.byzantine_world.proofs.Goes.{cut_goes}
use Rattle.byzantine_world.proofs.state.State.cut.Goals as goal

pub returns-clause-step : goal.returns-clause-step
returns-clause-step c =
    let talks = c.args.self.now.talks.items in
    let many = c.len.ensures in
    let ok = c.args.self.now.talks.ok.0 in
    let low : c.args.session < length talks = let test = c.if-session-len.false in omega arith in
    let there : slice_get talks c.args.session ≡ Some c.index_mut.result.now = slice_get-get_or talks c.args.session _ low ∙ ap Some (sym c.index_mut.ensures.value) in
    (cut_goes c.args.self.now.sites.items talks c.requires.stands c.args.session c.index_mut.result.now c.cut_session.result c.cut_session.new.talk there c.cut_session.ensures).0

pub returns-clause-stands : goal.returns-clause-stands
returns-clause-stands c =
    let talks = c.args.self.now.talks.items in
    let many = c.len.ensures in
    let ok = c.args.self.now.talks.ok.0 in
    let low : c.args.session < length talks = let test = c.if-session-len.false in omega arith in
    let there : slice_get talks c.args.session ≡ Some c.index_mut.result.now = slice_get-get_or talks c.args.session _ low ∙ ap Some (sym c.index_mut.ensures.value) in
    (cut_goes c.args.self.now.sites.items talks c.requires.stands c.args.session c.index_mut.result.now c.cut_session.result c.cut_session.new.talk there c.cut_session.ensures).1
