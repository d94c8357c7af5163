use Rattle.std.proofs.Common.{sym, ap, ◌∙◌}
use Rattle.table_model.specs.Visible.{is_visible}
use Rattle.tuple_state.specs.declared.inserted.Inserted.{Inserted}
use Rattle.tuple_state.specs.State.{rules_of_state}
use Rattle.tuple_state.proofs.Finding.{same_some, row_absent, row_hidden, row_shown}
use Rattle.tuple_state.proofs.Lookups.{row_found}
use Rattle.tuple_state.proofs.Layers.{grounded_is}
use Rattle.tuple_state.proofs.at.AtRowsAt.row_at.Goals as goal

pub stands-requires : goal.stands-requires
stands-requires g c = (row_found c.args.self.now.tables.now.inserted c.args.name.now c.in-Some.place (sym c.in-Some.ensures)).below

pub row-requires : goal.row-requires
row-requires g c = (row_found c.args.self.now.tables.now.inserted c.args.name.now c.in-Some.place (sym c.in-Some.ensures)).below

pub returns-then-branch : goal.returns-then-branch
returns-then-branch g c =
    let row = row_found c.args.self.now.tables.now.inserted c.args.name.now c.in-Some.place (sym c.in-Some.ensures) in
    row_shown c.args.self.now.tables.now _ c.args.self.now.founded c.args.self.now.layered (sym (grounded_is (rules_of_state c.args.self.now.tables.now) _) ∙ c.args.self.now.grounded) c.in-Some.place c.row.result.now c.args.name.now c.row.ensures.row (ap (λ (r : Inserted). r.name) (sym (same_some row.it c.row.result.now (sym row.at ∙ c.row.ensures.row))) ∙ row.name_is)
    (sym (c.in_ok-stands-in-Some.ensures c.row.result.now c.row.ensures.row) ∙ c.if-branch.true)

pub returns-else-branch : goal.returns-else-branch
returns-else-branch g c =
    let s = c.args.self.now.tables.now in
    let row = row_found s.inserted c.args.name.now c.in-Some.place (sym c.in-Some.ensures) in
    row_hidden s _ c.args.name.now (ap (is_visible (rules_of_state s) _) (sym row.name_is) ∙ sym (c.in_ok-stands-in-Some.ensures row.it row.at) ∙ c.if-branch.false)

pub returns-in-None : goal.returns-in-None
returns-in-None g c = row_absent c.args.self.now.tables.now _ c.args.name.now (sym c.in-None.ensures)
