use Rattle.std.proofs.Common.{refl}
use Rattle.command_words.specs.ImportRequests.{ImportText, CloneBundle, CloneStore, Import}
use Rattle.outcomes.specs.Outside.{outside}
use Rattle.import_commands.specs.Bringing.{Brings}
use Rattle.import_commands.proofs.Ending.{brings_blames, brings_home}
use Rattle.import_commands.proofs.bringing.bring.Goals as goal

pub returns-in-Import : goal.returns-in-Import
returns-in-Import g c =
    let seen = outside g.S.Source.left g.S.Counted.faults g.H.Shelf.state g.H.Counted.faults g.R.Rng.stream c.args.outside.now.input c.args.outside.now.shelf c.args.outside.now.random in
    let then = outside g.S.Source.left g.S.Counted.faults g.H.Shelf.state g.H.Counted.faults g.R.Rng.stream c.import.new.outside.input c.import.new.outside.shelf c.import.new.outside.random in
    let request : ImportText = Import c.in-Import.directory.now in
    let brings : Brings request seen then c.import.result = c.import.ensures in
    rw c.in-Import.is (record { brings = brings; blames = brings_blames request seen then c.import.result brings; home = brings_home request seen then c.import.result c.requires brings })

pub returns-in-CloneBundle : goal.returns-in-CloneBundle
returns-in-CloneBundle g c =
    let seen = outside g.S.Source.left g.S.Counted.faults g.H.Shelf.state g.H.Counted.faults g.R.Rng.stream c.args.outside.now.input c.args.outside.now.shelf c.args.outside.now.random in
    let then = outside g.S.Source.left g.S.Counted.faults g.H.Shelf.state g.H.Counted.faults g.R.Rng.stream c.clone_bundle.new.outside.input c.clone_bundle.new.outside.shelf c.clone_bundle.new.outside.random in
    let request : ImportText = CloneBundle c.in-CloneBundle.directory.now in
    let brings : Brings request seen then c.clone_bundle.result = c.clone_bundle.ensures in
    rw c.in-CloneBundle.is (record { brings = brings; blames = brings_blames request seen then c.clone_bundle.result brings; home = brings_home request seen then c.clone_bundle.result c.requires brings })

pub returns-in-CloneStore : goal.returns-in-CloneStore
returns-in-CloneStore g c =
    let seen = outside g.S.Source.left g.S.Counted.faults g.H.Shelf.state g.H.Counted.faults g.R.Rng.stream c.args.outside.now.input c.args.outside.now.shelf c.args.outside.now.random in
    let then = outside g.S.Source.left g.S.Counted.faults g.H.Shelf.state g.H.Counted.faults g.R.Rng.stream c.args.outside.now.input c.clone_store.new.shelf c.clone_store.new.random in
    let request : ImportText = CloneStore c.in-CloneStore.from.now c.in-CloneStore.directory.now in
    let brings : Brings request seen then c.clone_store.result = record { clones = c.clone_store.ensures; source = refl; left = refl; source_faults = refl } in
    rw c.in-CloneStore.is (record { brings = brings; blames = brings_blames request seen then c.clone_store.result brings; home = brings_home request seen then c.clone_store.result c.requires brings })
