use Rattle.std.proofs.Common.{refl, sym}
use Rattle.key_directory.proofs.Putting.{told}
use Rattle.outcomes.specs.Outside.{outside}
use Rattle.look_commands.proofs.Sides.{bundle_side, store_side}
use Rattle.look_commands.proofs.differing.side_entries.Goals as goal

pub returns-in-Some-clause-listed : goal.returns-in-Some-clause-listed
returns-in-Some-clause-listed g c =
    let seen = outside g.S.Source.left g.S.Counted.faults g.H.Shelf.state g.H.Counted.faults g.R.Rng.stream c.args.outside.now.input c.args.outside.now.shelf c.args.outside.now.random in
    let then = outside g.S.Source.left g.S.Counted.faults g.H.Shelf.state g.H.Counted.faults g.R.Rng.stream c.args.outside.now.input c.store_entries.new.shelf c.args.outside.now.random in
    rw c.in-Some.is (store_side c.args.framed seen then c.in-Some.directory.now c.store_entries.result c.store_entries.ensures (record { source = refl; left = refl; faults = refl; random = refl })).0

pub returns-in-Some-clause-lacks : goal.returns-in-Some-clause-lacks
returns-in-Some-clause-lacks g c =
    let seen = outside g.S.Source.left g.S.Counted.faults g.H.Shelf.state g.H.Counted.faults g.R.Rng.stream c.args.outside.now.input c.args.outside.now.shelf c.args.outside.now.random in
    let then = outside g.S.Source.left g.S.Counted.faults g.H.Shelf.state g.H.Counted.faults g.R.Rng.stream c.args.outside.now.input c.store_entries.new.shelf c.args.outside.now.random in
    rw c.in-Some.is (store_side c.args.framed seen then c.in-Some.directory.now c.store_entries.result c.store_entries.ensures (record { source = refl; left = refl; faults = refl; random = refl })).1

pub returns-in-None-clause-listed : goal.returns-in-None-clause-listed
returns-in-None-clause-listed g c =
    let seen = outside g.S.Source.left g.S.Counted.faults g.H.Shelf.state g.H.Counted.faults g.R.Rng.stream c.args.outside.now.input c.args.outside.now.shelf c.args.outside.now.random in
    let then = outside g.S.Source.left g.S.Counted.faults g.H.Shelf.state g.H.Counted.faults g.R.Rng.stream c.bundle_entries.new.input c.args.outside.now.shelf c.args.outside.now.random in
    rw c.in-None.is (bundle_side c.args.framed seen then c.bundle_entries.result c.bundle_entries.ensures.listed c.bundle_entries.ensures.lacks (record { shelf = refl; store = refl; faults = refl; random = refl; later = c.bundle_entries.ensures.later })).0

pub returns-in-None-clause-lacks : goal.returns-in-None-clause-lacks
returns-in-None-clause-lacks g c =
    let seen = outside g.S.Source.left g.S.Counted.faults g.H.Shelf.state g.H.Counted.faults g.R.Rng.stream c.args.outside.now.input c.args.outside.now.shelf c.args.outside.now.random in
    let then = outside g.S.Source.left g.S.Counted.faults g.H.Shelf.state g.H.Counted.faults g.R.Rng.stream c.bundle_entries.new.input c.args.outside.now.shelf c.args.outside.now.random in
    rw c.in-None.is (bundle_side c.args.framed seen then c.bundle_entries.result c.bundle_entries.ensures.listed c.bundle_entries.ensures.lacks (record { shelf = refl; store = refl; faults = refl; random = refl; later = c.bundle_entries.ensures.later })).1

pub returns-in-Some-clause-home : goal.returns-in-Some-clause-home
returns-in-Some-clause-home g c tells =
    c.store_entries.ensures.home (told (g.H.Shelf.state c.store_entries.new.shelf).tells (g.H.Shelf.state c.args.outside.now.shelf).tells (sym c.store_entries.ensures.tells) tells)
