use Rattle.std.proofs.Common.{◌≡◌, Err, ap, refl, subst}
use Rattle.std.proofs.lemmas.Result.{err_from_is_err_and}
use Rattle.key_index.specs.KeyState.{KeyState}
use Rattle.store_directory.specs.declared.opening.Needs.{Needs}
use Rattle.store_directory.specs.Opening.{LetsAllGo, Opens, Refuses}
use Rattle.outcomes.specs.Outside.{outside}
use Rattle.node_commands.specs.Works.{HasKeyFor, beside, needs_of}
use Rattle.node_commands.proofs.Works.{key_for, key_is_in, work_done, work_out, work_refused}
use Rattle.node_commands.proofs.working.open_and_work.Goals as goal

pub open-requires-clause-key_in : goal.open-requires-clause-key_in
open-requires-clause-key_in g c tells = key_is_in c.needs.result (g.H.Shelf.state c.args.outside.now.shelf) c.args.directory.now (c.requires.home tells)

pub do_work-outcome-requires-clause-key : goal.do_work-outcome-requires-clause-key
do_work-outcome-requires-clause-key g c =
    subst (λ (n : Needs). HasKeyFor n c.in_ok-opened.opened.key) c.needs.ensures
    (key_for c.needs.result (g.H.Shelf.state c.args.outside.now.shelf) (g.H.Shelf.state c.open.new.shelf) c.args.directory.now c.in_ok-opened.opened.store c.in_ok-opened.opened.key c.in_ok-opened.ensures.opens)

pub close-requires-clause-store_of : goal.close-requires-clause-store_of
close-requires-clause-store_of g c tells =
    let before = g.H.Shelf.state c.args.outside.now.shelf in
    let mid = g.H.Shelf.state c.open.new.shelf in
    let o = c.in_ok-opened.opened in
    let n = c.do_work-outcome.new.opened in
    (work_out c.args.work.now (beside g.S.Source.left g.S.Counted.faults g.R.Rng.stream c.args.outside.now.input c.args.outside.now.random) (beside g.S.Source.left g.S.Counted.faults g.R.Rng.stream c.do_work-outcome.new.input c.do_work-outcome.new.random)
    before mid c.args.directory.now o.store o.key n.store n.key c.do_work-outcome.result
    (subst (λ (w : Needs). Opens w before c.args.directory.now o.store o.key mid) c.needs.ensures c.in_ok-opened.ensures.opens) c.do_work-outcome.ensures tells).0

pub close-requires-clause-key_of : goal.close-requires-clause-key_of
close-requires-clause-key_of g c tells =
    let before = g.H.Shelf.state c.args.outside.now.shelf in
    let mid = g.H.Shelf.state c.open.new.shelf in
    let o = c.in_ok-opened.opened in
    let n = c.do_work-outcome.new.opened in
    (work_out c.args.work.now (beside g.S.Source.left g.S.Counted.faults g.R.Rng.stream c.args.outside.now.input c.args.outside.now.random) (beside g.S.Source.left g.S.Counted.faults g.R.Rng.stream c.do_work-outcome.new.input c.do_work-outcome.new.random)
    before mid c.args.directory.now o.store o.key n.store n.key c.do_work-outcome.result
    (subst (λ (w : Needs). Opens w before c.args.directory.now o.store o.key mid) c.needs.ensures c.in_ok-opened.ensures.opens) c.do_work-outcome.ensures tells).1

pub returns-in_err-opened : goal.returns-in_err-opened
returns-in_err-opened g c =
    let p = err_from_is_err_and c.from_residual.result c.from_residual.ensures.1 in
    let before = g.H.Shelf.state c.args.outside.now.shelf in
    let after = g.H.Shelf.state c.open.new.shelf in
    let e = c.in_err-opened.ensures in
    let why = c.in_err-opened.field-0.0 in
    rw (p.1, p.2) (work_refused c.args.directory.now (outside g.S.Source.left g.S.Counted.faults g.H.Shelf.state g.H.Counted.faults g.R.Rng.stream c.args.outside.now.input c.args.outside.now.shelf c.args.outside.now.random)
    (outside g.S.Source.left g.S.Counted.faults g.H.Shelf.state g.H.Counted.faults g.R.Rng.stream c.args.outside.now.input c.open.new.shelf c.args.outside.now.random) c.requires.home why refl refl refl
    (λ is. e.store_failed (ap Err is)) (λ is. e.key_failed (ap Err is)) c.args.work.now
    (subst (λ (w : Needs). LetsAllGo w before c.args.directory.now after) c.needs.ensures e.lets_go) (subst (λ (w : Needs). Refuses why w before c.args.directory.now) c.needs.ensures e.refused))

pub returns : goal.returns
returns g c =
    let before = g.H.Shelf.state c.args.outside.now.shelf in
    let mid = g.H.Shelf.state c.open.new.shelf in
    let o = c.in_ok-opened.opened in
    let n = c.do_work-outcome.new.opened in
    work_done c.args.directory.now (outside g.S.Source.left g.S.Counted.faults g.H.Shelf.state g.H.Counted.faults g.R.Rng.stream c.args.outside.now.input c.args.outside.now.shelf c.args.outside.now.random)
    (outside g.S.Source.left g.S.Counted.faults g.H.Shelf.state g.H.Counted.faults g.R.Rng.stream c.do_work-outcome.new.input c.close.new.shelf c.do_work-outcome.new.random) c.requires.home
    mid (g.H.Counted.faults c.open.new.shelf) o.store o.key n.store n.key c.do_work-outcome.result c.one_schema.ensures c.in_ok-opened.ensures.later c.close.ensures.closes c.args.work.now
    (subst (λ (w : Needs). Opens w before c.args.directory.now o.store o.key mid) c.needs.ensures c.in_ok-opened.ensures.opens) c.do_work-outcome.ensures
