use Rattle.std.proofs.Common.{◌≡◌, ◌∙◌, ◌++◌, ℕ, List, [], ap, length, rules, subst}
use Rattle.std.proofs.lemmas.Result.{err_from_is_err_and}
use Rattle.row_check.specs.Checksum.{is_luhn}
use Rattle.bec_disk.specs.declared.part.Part.TheVariants.{Schema, Updates}
use Rattle.node_commands.proofs.NewStores.{made_slots}
use Rattle.store_directory.specs.Holding.{OpenData}
use Rattle.outcomes.specs.StoreAnswers.{after_bytes, next_bytes}
use Rattle.key_directory.specs.Parts.{LetsNewGo, part_in, reading}
use Rattle.store_directory.specs.Making.{IsNewStoreCause, MakesStore}
use Rattle.store_directory.specs.Standing.{Stands}
use Rattle.outcomes.specs.Texts.{database_text}
use Rattle.import_commands.proofs.NewStores.{lacks_memory, made, not_made}
use Rattle.import_commands.proofs.making.make_empty.Goals as goal

pub put_store-requires-clause-schema_of : goal.put_store-requires-clause-schema_of
put_store-requires-clause-schema_of g c κs lives tells =
    (made_slots (g.H.Shelf.state c.args.shelf.now) (g.H.Shelf.state c.new_store.new.shelf) c.args.dir.now c.fill_bytes.new.dst c.deref.result.now c.in_ok-store.store c.in_ok-store.ensures.makes tells).0

pub put_store-requires-clause-updates_of : goal.put_store-requires-clause-updates_of
put_store-requires-clause-updates_of g c κs lives tells =
    (made_slots (g.H.Shelf.state c.args.shelf.now) (g.H.Shelf.state c.new_store.new.shelf) c.args.dir.now c.fill_bytes.new.dst c.deref.result.now c.in_ok-store.store c.in_ok-store.ensures.makes tells).1

pub returns-in_err-line : goal.returns-in_err-line
returns-in_err-line g c =
    let p = err_from_is_err_and c.from_residual.result c.from_residual.ensures.1 in
    rw (p.1, p.2) (lacks_memory c.args.contents.now.text.items c.args.dir.now (g.R.Rng.stream c.args.random.now) (g.H.Shelf.state c.args.shelf.now) (g.H.Shelf.state c.args.shelf.now)
    (g.H.Counted.faults c.args.shelf.now) (g.H.Counted.faults c.args.shelf.now) c.requires.home c.requires.none)

pub returns-in_err-store : goal.returns-in_err-store
returns-in_err-store g c =
    let p = err_from_is_err_and c.from_residual-in_err-store.result c.from_residual-in_err-store.ensures.1 in
    let text = c.args.contents.now.text.items in
    let before = g.H.Shelf.state c.args.shelf.now in
    let after = g.H.Shelf.state c.new_store.new.shelf in
    let e = c.in_err-store.ensures in
    let drawn : c.fill_bytes.new.dst ≡ next_bytes (g.R.Rng.stream c.args.random.now) = search rules in
    let went : g.R.Rng.stream c.fill_bytes.new.self ≡ after_bytes (g.R.Rng.stream c.args.random.now) = search rules in
    let lets : LetsNewGo Schema Updates (c.fill_bytes.new.dst ++ text) [] before c.args.dir.now after =
    subst (λ (t : List ℕ). LetsNewGo Schema Updates (c.fill_bytes.new.dst ++ t) [] before c.args.dir.now after) c.deref.ensures.value e.lets_go in
    rw (p.1, p.2) (not_made text c.args.dir.now (g.R.Rng.stream c.args.random.now) before after (g.H.Counted.faults c.args.shelf.now) (g.H.Counted.faults c.new_store.new.shelf) c.requires.home c.requires.none
    c.requires.text.0 c.requires.text.1.taken c.fill_bytes.new.dst (g.R.Rng.stream c.fill_bytes.new.self) drawn went c.taken_or_refused.ensures c.in_err-store.field-0.0 lets
    (λ tells. subst (λ (t : List ℕ). IsNewStoreCause is_luhn (reading (part_in before c.args.dir.now Schema)) t c.in_err-store.field-0.0) c.deref.ensures.value (e.refused tells)) e.later e.failed)

pub returns : goal.returns
returns g c =
    let text = c.args.contents.now.text.items in
    let before = g.H.Shelf.state c.args.shelf.now in
    let opened = g.H.Shelf.state c.new_store.new.shelf in
    let same : c.store.inside.replica ≡ c.in_ok-store.store.replica = ap (λ (o : OpenData). o.replica) c.store.view_is in
    let stands : Stands c.in_ok-store.store.replica = subst Stands same c.each_stands.ensures in
    let drawn : c.fill_bytes.new.dst ≡ next_bytes (g.R.Rng.stream c.args.random.now) = search rules in
    let went : g.R.Rng.stream c.fill_bytes.new.self ≡ after_bytes (g.R.Rng.stream c.args.random.now) = search rules in
    let size : length c.fill_bytes.new.dst ≡ 32 = search rules in
    let makes : MakesStore is_luhn before c.args.dir.now c.fill_bytes.new.dst text c.in_ok-store.store opened =
    subst (λ (t : List ℕ). MakesStore is_luhn before c.args.dir.now c.fill_bytes.new.dst t c.in_ok-store.store opened) c.deref.ensures.value c.in_ok-store.ensures.makes in
    made text c.args.dir.now (g.R.Rng.stream c.args.random.now) before (g.H.Shelf.state c.put_store.new.shelf) (g.H.Counted.faults c.args.shelf.now) (g.H.Counted.faults c.put_store.new.shelf)
    c.requires.home c.requires.none c.requires.text.0 c.requires.text.1.taken c.fill_bytes.new.dst (g.R.Rng.stream c.fill_bytes.new.self) drawn went c.one_schema.ensures opened
    (g.H.Counted.faults c.new_store.new.shelf) c.in_ok-store.store size makes stands.history_is.members c.put_store.ensures.puts c.in_ok-store.ensures.later c.put_store.ensures.later c.in_ok-line.line
    (c.in_ok-line.ensures ∙ ap database_text c.requires.text.1.id)
