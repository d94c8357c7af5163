use Rattle.std.proofs.Common.{◌≡◌, ◌∙◌, Some, ap, sym}
use Rattle.tuple_state.specs.declared.inserted.Inserted.{Inserted}
use Rattle.tuple_state.proofs.Finding.{same_some}
use Rattle.tuple_state.proofs.Lending.{absent, hidden, there}
use Rattle.tuple_state.proofs.Lookups.{row_found}
use Rattle.tuple_state.proofs.tables.Tables.lend_named.Goals as goal

pub row-row-requires : goal.row-row-requires
row-row-requires c = (row_found c.args.self.now.inserted c.args.name.now c.in-Some.place (sym c.in-Some.ensures)).below

pub is_listed-requires : goal.is_listed-requires
is_listed-requires c = (row_found c.args.self.now.inserted c.args.name.now c.in-Some.place (sym c.in-Some.ensures)).below

pub returns-then-is_listed : goal.returns-then-is_listed
returns-then-is_listed c =
    let s = c.args.self.now in
    let found = row_found s.inserted c.args.name.now c.in-Some.place (sym c.in-Some.ensures) in
    let it = c.row-row.result.now in
    let named : it.name ≡ c.args.name.now = ap (λ (r : Inserted). r.name) (sym (same_some found.it it (sym found.at ∙ c.row-row.ensures.row))) ∙ found.name_is in
    ap Some c.new.ensures
    ∙ there s c.args.table c.args.name.now c.row-row.ensures.layered c.in-Some.place it c.row-row.ensures.row named (sym (c.is_listed.ensures it c.row-row.ensures.row) ∙ c.if-is_listed.true)

pub returns-else-is_listed : goal.returns-else-is_listed
returns-else-is_listed c =
    let s = c.args.self.now in
    let found = row_found s.inserted c.args.name.now c.in-Some.place (sym c.in-Some.ensures) in
    let it = c.row-row.result.now in
    let named : it.name ≡ c.args.name.now = ap (λ (r : Inserted). r.name) (sym (same_some found.it it (sym found.at ∙ c.row-row.ensures.row))) ∙ found.name_is in
    hidden s c.args.table c.args.name.now c.row-row.ensures.layered c.in-Some.place it c.row-row.ensures.row named (sym (c.is_listed.ensures it c.row-row.ensures.row) ∙ c.if-is_listed.false)

pub returns-in-None : goal.returns-in-None
returns-in-None c = absent c.args.self.now c.args.table c.args.name.now (sym c.in-None.ensures)
