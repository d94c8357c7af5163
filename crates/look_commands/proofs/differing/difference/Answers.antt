use Rattle.std.proofs.Common.{Bool, inl, inr, option_map, refl, subst}
use Rattle.std.proofs.lemmas.Result.{err_from_is_err_and}
use Rattle.look_commands.specs.Differences.{LacksSide, ListsSide, differ, lacks_first, lacks_second}
use Rattle.outcomes.specs.Outside.{outside}
use Rattle.look_commands.proofs.differing.difference.Goals as goal

pub returns-in_err-firsts : goal.returns-in_err-firsts
returns-in_err-firsts g c =
    let p = err_from_is_err_and c.from_residual.result c.from_residual.ensures.1 in
    let seen = outside g.S.Source.left g.S.Counted.faults g.H.Shelf.state g.H.Counted.faults g.R.Rng.stream c.args.outside.now.input c.args.outside.now.shelf c.args.outside.now.random in
    let between = outside g.S.Source.left g.S.Counted.faults g.H.Shelf.state g.H.Counted.faults g.R.Rng.stream c.side_entries.new.outside.input c.side_entries.new.outside.shelf c.side_entries.new.outside.random in
    rw (p.1, p.2) (lacks_first c.in_err-firsts.field-0.0
    (subst (λ (b : Bool). LacksSide b seen between c.in_err-firsts.field-0.0 (option_map (λ d. d.now) c.args.first)) c.is_bundle-framed.ensures c.in_err-firsts.ensures.lacks) refl)

pub returns-in_err-seconds : goal.returns-in_err-seconds
returns-in_err-seconds g c =
    let p = err_from_is_err_and c.from_residual-in_err-seconds.result c.from_residual-in_err-seconds.ensures.1 in
    let seen = outside g.S.Source.left g.S.Counted.faults g.H.Shelf.state g.H.Counted.faults g.R.Rng.stream c.args.outside.now.input c.args.outside.now.shelf c.args.outside.now.random in
    let between = outside g.S.Source.left g.S.Counted.faults g.H.Shelf.state g.H.Counted.faults g.R.Rng.stream c.side_entries.new.outside.input c.side_entries.new.outside.shelf c.side_entries.new.outside.random in
    rw (p.1, p.2) (lacks_second between c.in_ok-firsts.firsts c.in_err-seconds.field-0.0
    (subst (λ (b : Bool). ListsSide b seen between c.in_ok-firsts.firsts (option_map (λ d. d.now) c.args.first)) c.is_bundle-framed.ensures c.in_ok-firsts.ensures.listed) c.in_err-seconds.ensures.lacks refl)

pub returns-in_err-diff_text : goal.returns-in_err-diff_text
returns-in_err-diff_text g c =
    let p = err_from_is_err_and c.from_residual-in_err-diff_text.result c.from_residual-in_err-diff_text.ensures.1 in
    let seen = outside g.S.Source.left g.S.Counted.faults g.H.Shelf.state g.H.Counted.faults g.R.Rng.stream c.args.outside.now.input c.args.outside.now.shelf c.args.outside.now.random in
    let between = outside g.S.Source.left g.S.Counted.faults g.H.Shelf.state g.H.Counted.faults g.R.Rng.stream c.side_entries.new.outside.input c.side_entries.new.outside.shelf c.side_entries.new.outside.random in
    rw (p.1, p.2) (differ between c.in_ok-firsts.firsts c.in_ok-seconds.seconds
    (subst (λ (b : Bool). ListsSide b seen between c.in_ok-firsts.firsts (option_map (λ d. d.now) c.args.first)) c.is_bundle-framed.ensures c.in_ok-firsts.ensures.listed) c.in_ok-seconds.ensures.listed (inr refl))

pub returns : goal.returns
returns g c =
    let seen = outside g.S.Source.left g.S.Counted.faults g.H.Shelf.state g.H.Counted.faults g.R.Rng.stream c.args.outside.now.input c.args.outside.now.shelf c.args.outside.now.random in
    let between = outside g.S.Source.left g.S.Counted.faults g.H.Shelf.state g.H.Counted.faults g.R.Rng.stream c.side_entries.new.outside.input c.side_entries.new.outside.shelf c.side_entries.new.outside.random in
    differ between c.in_ok-firsts.firsts c.in_ok-seconds.seconds
    (subst (λ (b : Bool). ListsSide b seen between c.in_ok-firsts.firsts (option_map (λ d. d.now) c.args.first)) c.is_bundle-framed.ensures c.in_ok-firsts.ensures.listed) c.in_ok-seconds.ensures.listed (inl c.in_ok-diff_text.ensures)
