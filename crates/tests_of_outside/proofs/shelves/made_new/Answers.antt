use Rattle.std.proofs.Common.{◌≢◌, Result, Ok, Err, OnErr, OnOk, refl, sym, ap, subst, ◌∙◌}
use Rattle.bec_disk.specs.Replay.{state_of}
use Rattle.bec_disk.specs.Shelf.{KeepsOthers, ShelfState, out}
use Rattle.bec_disk.specs.Shelved.{shelf_of}
use Rattle.bec_disk.specs.Slot.{Slot, slot}
use Rattle.bec_disk.proofs.Homes.{finds_of, home_again, makes_home, makes_others}
use Rattle.tests_of_outside.proofs.shelves.made_new.Goals as goal

on_err : {T E : Type 0} (result : Result T E) (P : Type 0) → P → OnErr result P
on_err (Ok value) P holds = tt {0}
on_err (Err error) P holds = holds

pub returns-in_err-disk-clause-home : goal.returns-in_err-disk-clause-home
returns-in_err-disk-clause-home c =
    on_err c.from_residual.result ((place : Slot) → (shelf_of c.find.new.self).parts place ≢ out)
    (λ place. subst (λ (s : ShelfState). s.parts place ≢ out) (sym c.in_err-disk.ensures.finds) (c.requires.home place))

pub make-requires : goal.make-requires
make-requires c tells =
    let finds = rw c.in-None.is at c.in_ok-disk.ensures.finds in
    ap (λ (s : ShelfState). s.parts (slot c.args.dir.now c.args.part)) finds.1 ∙ finds.0 refl

pub returns-in-Some-clause-home : goal.returns-in-Some-clause-home
returns-in-Some-clause-home c =
    let place = slot c.args.dir.now c.args.part in
    let old = shelf_of c.args.shelf.now in
    let mid = shelf_of c.find.new.self in
    let finds = rw c.in-Some.is at c.in_ok-disk.ensures.finds in
    home_again old mid (shelf_of c.put_back.new.self) place (state_of c.in-Some.disk) finds.others (c.put_back.ensures.puts place (finds_of old mid place c.in-Some.disk refl finds)) refl c.requires.home

pub returns-in-None-clause-home : goal.returns-in-None-clause-home
returns-in-None-clause-home c =
    let finds = rw c.in-None.is at c.in_ok-disk.ensures.finds in
    makes_home (shelf_of c.find.new.self) (shelf_of c.make.new.self) (slot c.args.dir.now c.args.part) c.make.result c.make.ensures.makes
    (λ other. subst (λ (s : ShelfState). s.parts other ≢ out) (sym finds.1) (c.requires.home other))

pub returns-in-None-clause-others : goal.returns-in-None-clause-others
returns-in-None-clause-others c =
    let finds = rw c.in-None.is at c.in_ok-disk.ensures.finds in
    let place = slot c.args.dir.now c.args.part in
    let new = shelf_of c.make.new.self in
    subst (λ (s : ShelfState). OnOk c.make.result (KeepsOthers s place new)) finds.1 (makes_others (shelf_of c.find.new.self) new place c.make.result c.make.ensures.makes)
