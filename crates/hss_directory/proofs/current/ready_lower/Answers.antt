use Rattle.std.proofs.Common.{◌≡◌, ℕ, ◌<◌, ◌^◌, refl, sym, ap, subst, IsTrue, Some, None}
use Rattle.key_directory.proofs.Putting.{told}
use Rattle.hss_directory.specs.Calls.{KeepsHss, Readies, RefusesToReady, hss_of}
use Rattle.hss_directory.specs.Lower.{MakesLower, RefusesLower}
use Rattle.hss_directory.specs.Values.{HasLeft, HssState, LowerState}
use Rattle.hss_directory.specs.declared.fault.HssFault.{HssFault}
use Rattle.hss_directory.proofs.Held.{both_ok, kept_holds, lower_back, lower_held, lower_tells, one_err, one_ok, ready_kept, ready_made, ready_refused, shed_puts}
use Rattle.hss_directory.proofs.current.ready_lower.Goals as goal

pub unspent-requires : goal.unspent-requires
unspent-requires g c tells = lower_held (g.H.Shelf.state c.args.shelf.now) c.args.dir.now c.args.lower (c.requires.held tells).lower

pub next_lower-requires : goal.next_lower-requires
next_lower-requires g c tells =
    let before = g.H.Shelf.state c.args.shelf.now in
    let mid = g.H.Shelf.state c.unspent.new.shelf in
    let puts = shed_puts before mid c.args.lower c.in-None.ensures.keeps in
    let t : IsTrue before.tells = told mid.tells before.tells (sym (lower_tells before mid c.args.lower puts)) tells in
    (lower_back before mid c.args.dir.now c.args.top.now c.args.lower c.requires.sound t (c.requires.held t).top (c.requires.held t).lower puts).1

pub returns-in-Some-clause-readies : goal.returns-in-Some-clause-readies
returns-in-Some-clause-readies g c = record { kept = Some c.in-Some.kept; mid = g.H.Shelf.state c.unspent.new.shelf; keeps = c.in-Some.ensures.keeps; ready = (refl, refl, refl) }

pub returns-in-Some-clause-has_left : goal.returns-in-Some-clause-has_left
returns-in-Some-clause-has_left g c =
    (kept_holds (g.H.Shelf.state c.args.shelf.now) (g.H.Shelf.state c.unspent.new.shelf) c.args.dir.now c.args.top.now c.args.lower c.in-Some.kept c.in-Some.ensures.keeps).1.1

pub returns-in-Some-clause-keeps : goal.returns-in-Some-clause-keeps
returns-in-Some-clause-keeps g c =
    ready_kept (g.H.Shelf.state c.args.shelf.now) (g.H.Shelf.state c.unspent.new.shelf) (hss_of c.args.dir.now c.args.top.now c.args.lower) c.in-Some.kept c.requires.sound c.requires.held c.in-Some.ensures.keeps

pub returns-in-None-clause-readies : goal.returns-in-None-clause-readies
returns-in-None-clause-readies g c =
    one_ok c.next_lower.result _ _ (λ lower makes. record { kept = None; mid = g.H.Shelf.state c.unspent.new.shelf; keeps = c.in-None.ensures.keeps; ready = (lower, refl, makes) }) c.next_lower.ensures.makes

pub returns-in-None-clause-refused : goal.returns-in-None-clause-refused
returns-in-None-clause-refused g c =
    one_err c.next_lower.result _ _ (λ why refuses. record { mid = g.H.Shelf.state c.unspent.new.shelf; keeps = c.in-None.ensures.keeps; refuses = refuses; now = refl }) c.next_lower.ensures.refused

pub returns-in-None-clause-has_left : goal.returns-in-None-clause-has_left
returns-in-None-clause-has_left g c = one_ok c.next_lower.result _ _ (λ lower makes. makes.has_left) c.next_lower.ensures.makes

pub returns-in-None-clause-keeps : goal.returns-in-None-clause-keeps
returns-in-None-clause-keeps g c =
    both_ok c.next_lower.result _ _ _
    (λ lower makes small. ready_made (g.R.Rng.stream c.args.random.now) (g.R.Rng.stream c.next_lower.new.random) (g.H.Shelf.state c.args.shelf.now) (g.H.Shelf.state c.next_lower.new.shelf) (hss_of c.args.dir.now c.args.top.now c.args.lower)
    c.next_lower.new.top lower c.requires.sound c.requires.held small (g.H.Shelf.state c.unspent.new.shelf) c.in-None.ensures.keeps makes)
    c.next_lower.ensures.makes c.next_lower.ensures.small

pub returns-in-None-clause-keeps_none : goal.returns-in-None-clause-keeps_none
returns-in-None-clause-keeps_none g c =
    one_err c.next_lower.result _ _
    (λ why refuses. ready_refused (g.R.Rng.stream c.args.random.now) (g.R.Rng.stream c.next_lower.new.random) why (g.H.Shelf.state c.args.shelf.now) (g.H.Shelf.state c.next_lower.new.shelf) (hss_of c.args.dir.now c.args.top.now c.args.lower)
    (hss_of c.args.dir.now c.next_lower.new.top None) c.requires.sound c.requires.held
    (record { mid = g.H.Shelf.state c.unspent.new.shelf; keeps = c.in-None.ensures.keeps; refuses = refuses; now = refl }))
    c.next_lower.ensures.refused
