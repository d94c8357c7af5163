use Rattle.std.proofs.Common.{◌≡◌, ◌∙◌, ◌++◌, ℕ, List, [], ap, length, refl, rules, subst, sym, IsTrue}
use Rattle.std.proofs.lemmas.Result.{err_from_is_err_and}
use Rattle.row_check.specs.Checksum.{is_luhn}
use Rattle.bec_disk.specs.declared.part.Part.TheVariants.{Schema, Updates}
use Rattle.update_model.specs.Rule.{RuleData}
use Rattle.confluence_test.specs.Taking.{TakesSchema}
use Rattle.store_directory.specs.Holding.{OpenData}
use Rattle.outcomes.specs.Comes.{readings}
use Rattle.outcomes.specs.Parts.{HasSchema}
use Rattle.outcomes.specs.StoreAnswers.{after_bytes, next_bytes}
use Rattle.key_directory.specs.Parts.{LetsNewGo, part_in, reading}
use Rattle.store_directory.specs.Making.{IsNewStoreCause, MakesStore}
use Rattle.store_directory.specs.Stores.{IsNoStore}
use Rattle.schema_verdict.specs.Inputs.{ReadsText}
use Rattle.outcomes.specs.Outside.{outside}
use Rattle.store_directory.specs.Standing.{Stands}
use Rattle.outcomes.specs.Texts.{database_text}
use Rattle.outcomes.proofs.Saying.{rose_later}
use Rattle.node_commands.proofs.NewStores.{init_lacked, init_made, init_not_made, init_refused, init_there, init_unlooked, init_unread, made_slots}
use Rattle.node_commands.proofs.commands.init.init.Goals as goal

pub put_store-requires-clause-schema_of : goal.put_store-requires-clause-schema_of
put_store-requires-clause-schema_of g c κs lives tells =
    (made_slots (g.H.Shelf.state c.is_there.new.shelf) (g.H.Shelf.state c.new_store.new.shelf) c.args.dir.now c.fill_bytes.new.dst c.deref-2.result.now c.in_ok-store.store c.in_ok-store.ensures.makes tells).0

pub put_store-requires-clause-updates_of : goal.put_store-requires-clause-updates_of
put_store-requires-clause-updates_of g c κs lives tells =
    (made_slots (g.H.Shelf.state c.is_there.new.shelf) (g.H.Shelf.state c.new_store.new.shelf) c.args.dir.now c.fill_bytes.new.dst c.deref-2.result.now c.in_ok-store.store c.in_ok-store.ensures.makes tells).1

pub returns-in_err-is_there : goal.returns-in_err-is_there
returns-in_err-is_there g c =
    let p = err_from_is_err_and c.from_residual.result c.from_residual.ensures.1 in
    let before = outside g.S.Source.left g.S.Counted.faults g.H.Shelf.state g.H.Counted.faults g.R.Rng.stream c.args.input.now c.args.shelf.now c.args.random.now in
    let after = outside g.S.Source.left g.S.Counted.faults g.H.Shelf.state g.H.Counted.faults g.R.Rng.stream c.args.input.now c.is_there.new.shelf c.args.random.now in
    rw (p.1, p.2) (init_unlooked c.args.dir.now before after c.requires c.is_there.ensures.untouched c.is_there.ensures.others refl c.in_err-is_there.field-0.0 refl (λ is. c.in_err-is_there.ensures.failed (search rules)))

pub returns-then-branch : goal.returns-then-branch
returns-then-branch g c =
    let before = outside g.S.Source.left g.S.Counted.faults g.H.Shelf.state g.H.Counted.faults g.R.Rng.stream c.args.input.now c.args.shelf.now c.args.random.now in
    let after = outside g.S.Source.left g.S.Counted.faults g.H.Shelf.state g.H.Counted.faults g.R.Rng.stream c.args.input.now c.is_there.new.shelf c.args.random.now in
    let there : IsTrue (g.H.Shelf.state c.args.shelf.now).tells → HasSchema (readings (g.H.Shelf.state c.args.shelf.now) c.args.dir.now) = search rules in
    init_there c.args.dir.now before after c.requires c.is_there.ensures.untouched c.is_there.ensures.others refl refl there

pub returns-in_err-text : goal.returns-in_err-text
returns-in_err-text g c =
    let p = err_from_is_err_and c.from_residual-in_err-text.result c.from_residual-in_err-text.ensures.1 in
    let before = outside g.S.Source.left g.S.Counted.faults g.H.Shelf.state g.H.Counted.faults g.R.Rng.stream c.args.input.now c.args.shelf.now c.args.random.now in
    let after = outside g.S.Source.left g.S.Counted.faults g.H.Shelf.state g.H.Counted.faults g.R.Rng.stream c.read_text.new.input c.is_there.new.shelf c.args.random.now in
    let none : IsTrue (g.H.Shelf.state c.args.shelf.now).tells → IsNoStore (reading (part_in (g.H.Shelf.state c.args.shelf.now) c.args.dir.now Schema)) = search rules in
    rw (p.1, p.2) (init_unread c.args.dir.now before after c.requires c.is_there.ensures.untouched c.is_there.ensures.others refl none c.in_err-text.field-0.0 c.in_err-text.ensures.failed)

pub returns-in_err-schema : goal.returns-in_err-schema
returns-in_err-schema g c =
    let p = err_from_is_err_and c.from_residual-in_err-schema.result c.from_residual-in_err-schema.ensures.1 in
    let before = outside g.S.Source.left g.S.Counted.faults g.H.Shelf.state g.H.Counted.faults g.R.Rng.stream c.args.input.now c.args.shelf.now c.args.random.now in
    let after = outside g.S.Source.left g.S.Counted.faults g.H.Shelf.state g.H.Counted.faults g.R.Rng.stream c.read_text.new.input c.is_there.new.shelf c.args.random.now in
    let none : IsTrue (g.H.Shelf.state c.args.shelf.now).tells → IsNoStore (reading (part_in (g.H.Shelf.state c.args.shelf.now) c.args.dir.now Schema)) = search rules in
    let P : List ℕ → Type 0 = λ w. ReadsText 65536 (g.S.Source.left c.args.input.now) (g.S.Source.left c.read_text.new.input) w in
    rw (p.1, p.2) (init_refused c.args.dir.now before after c.requires c.is_there.ensures.untouched c.is_there.ensures.others refl none c.deref.result.now c.in_err-schema.field-0.0
    (subst P (sym c.deref.ensures.value) c.in_ok-text.ensures.text) c.in_err-schema.ensures.refused)

pub returns-in_err-line : goal.returns-in_err-line
returns-in_err-line g c =
    let p = err_from_is_err_and c.from_residual-in_err-line.result c.from_residual-in_err-line.ensures.1 in
    let before = outside g.S.Source.left g.S.Counted.faults g.H.Shelf.state g.H.Counted.faults g.R.Rng.stream c.args.input.now c.args.shelf.now c.args.random.now in
    let after = outside g.S.Source.left g.S.Counted.faults g.H.Shelf.state g.H.Counted.faults g.R.Rng.stream c.read_text.new.input c.is_there.new.shelf c.args.random.now in
    let none : IsTrue (g.H.Shelf.state c.args.shelf.now).tells → IsNoStore (reading (part_in (g.H.Shelf.state c.args.shelf.now) c.args.dir.now Schema)) = search rules in
    rw (p.1, p.2) (init_lacked c.args.dir.now before after c.requires c.is_there.ensures.untouched c.is_there.ensures.others refl none)

pub returns-in_err-store : goal.returns-in_err-store
returns-in_err-store g c =
    let p = err_from_is_err_and c.from_residual-in_err-store.result c.from_residual-in_err-store.ensures.1 in
    let before = outside g.S.Source.left g.S.Counted.faults g.H.Shelf.state g.H.Counted.faults g.R.Rng.stream c.args.input.now c.args.shelf.now c.args.random.now in
    let after = outside g.S.Source.left g.S.Counted.faults g.H.Shelf.state g.H.Counted.faults g.R.Rng.stream c.read_text.new.input c.new_store.new.shelf c.fill_bytes.new.self in
    let none : IsTrue (g.H.Shelf.state c.args.shelf.now).tells → IsNoStore (reading (part_in (g.H.Shelf.state c.args.shelf.now) c.args.dir.now Schema)) = search rules in
    let e = c.in_err-store.ensures in
    let drawn : c.fill_bytes.new.dst ≡ next_bytes (g.R.Rng.stream c.args.random.now) = search rules in
    let went : g.R.Rng.stream c.fill_bytes.new.self ≡ after_bytes (g.R.Rng.stream c.args.random.now) = search rules in
    let lets : LetsNewGo Schema Updates (c.fill_bytes.new.dst ++ c.in_ok-text.text.items) [] (g.H.Shelf.state c.is_there.new.shelf) c.args.dir.now (g.H.Shelf.state c.new_store.new.shelf) =
    subst (λ (t : List ℕ). LetsNewGo Schema Updates (c.fill_bytes.new.dst ++ t) [] (g.H.Shelf.state c.is_there.new.shelf) c.args.dir.now (g.H.Shelf.state c.new_store.new.shelf)) c.deref-2.ensures.value e.lets_go in
    rw (p.1, p.2) (init_not_made c.args.dir.now before after c.requires (g.H.Shelf.state c.is_there.new.shelf) c.is_there.ensures.tells c.is_there.ensures.untouched c.is_there.ensures.others none
    c.in_ok-text.text.items c.in_ok-schema.schema (subst (λ (t : List ℕ). TakesSchema is_luhn t c.in_ok-schema.schema) c.deref.ensures.value c.in_ok-schema.ensures.taken)
    c.taken_or_refused.ensures c.fill_bytes.new.dst c.in_err-store.field-0.0 drawn went c.in_ok-text.ensures.text lets
    (λ tells. subst (λ (t : List ℕ). IsNewStoreCause is_luhn (reading (part_in (g.H.Shelf.state c.is_there.new.shelf) c.args.dir.now Schema)) t c.in_err-store.field-0.0) c.deref-2.ensures.value (e.refused tells))
    (λ is. rose_later (g.H.Counted.faults c.args.shelf.now) (g.H.Counted.faults c.is_there.new.shelf) (g.H.Counted.faults c.new_store.new.shelf) c.is_there.ensures.later (e.failed is)))

pub returns : goal.returns
returns g c =
    let before = outside g.S.Source.left g.S.Counted.faults g.H.Shelf.state g.H.Counted.faults g.R.Rng.stream c.args.input.now c.args.shelf.now c.args.random.now in
    let after = outside g.S.Source.left g.S.Counted.faults g.H.Shelf.state g.H.Counted.faults g.R.Rng.stream c.read_text.new.input c.put_store.new.shelf c.fill_bytes.new.self in
    let none : IsTrue (g.H.Shelf.state c.args.shelf.now).tells → IsNoStore (reading (part_in (g.H.Shelf.state c.args.shelf.now) c.args.dir.now Schema)) = search rules in
    let same : c.store.inside.replica ≡ c.in_ok-store.store.replica = ap (λ (o : OpenData). o.replica) c.store.view_is in
    let stands : Stands c.in_ok-store.store.replica = subst Stands same c.each_stands.ensures in
    let drawn : c.fill_bytes.new.dst ≡ next_bytes (g.R.Rng.stream c.args.random.now) = search rules in
    let went : g.R.Rng.stream c.fill_bytes.new.self ≡ after_bytes (g.R.Rng.stream c.args.random.now) = search rules in
    let size : length c.fill_bytes.new.dst ≡ 32 = search rules in
    let makes : MakesStore is_luhn (g.H.Shelf.state c.is_there.new.shelf) c.args.dir.now c.fill_bytes.new.dst c.in_ok-text.text.items c.in_ok-store.store (g.H.Shelf.state c.new_store.new.shelf) =
    subst (λ (t : List ℕ). MakesStore is_luhn (g.H.Shelf.state c.is_there.new.shelf) c.args.dir.now c.fill_bytes.new.dst t c.in_ok-store.store (g.H.Shelf.state c.new_store.new.shelf)) c.deref-2.ensures.value c.in_ok-store.ensures.makes in
    let printed : c.in_ok-line.line.items ≡ database_text c.in_ok-schema.schema.rule.database =
    c.in_ok-line.ensures ∙ ap database_text (ap (λ (r : RuleData). r.database) c.behind-schema.view_is ∙ ap (λ (r : RuleData). r.database) c.rule.ensures) in
    init_made c.args.dir.now before after c.requires (g.H.Shelf.state c.is_there.new.shelf) c.is_there.ensures.tells c.is_there.ensures.untouched c.is_there.ensures.others none
    c.in_ok-text.text.items c.in_ok-schema.schema (subst (λ (t : List ℕ). TakesSchema is_luhn t c.in_ok-schema.schema) c.deref.ensures.value c.in_ok-schema.ensures.taken)
    c.one_schema.ensures (g.H.Shelf.state c.new_store.new.shelf) c.fill_bytes.new.dst c.in_ok-store.store drawn went size makes stands.history_is.members c.put_store.ensures.puts c.in_ok-text.ensures.text
    c.in_ok-line.line printed
