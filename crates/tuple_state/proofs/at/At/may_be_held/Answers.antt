use Rattle.std.proofs.Common.{sym, ◌∙◌}
use Rattle.tuple_state.proofs.Holding.{unheld_free, unnamed_free}
use Rattle.tuple_state.proofs.Lookups.{row_found}
use Rattle.tuple_state.proofs.at.At.may_be_held.Goals as goal

pub row-requires : goal.row-requires
row-requires g c = (row_found c.args.self.now.tables.now.inserted c.args.name.now c.in-Some.place (sym c.in-Some.ensures)).below

pub returns-in-Some : goal.returns-in-Some
returns-in-Some g c free =
    let s = c.args.self.now.tables.now in
    unheld_free s _ c.args.name.now c.args.self.now.referred c.args.self.now.founded c.in-Some.place c.row.result.now (sym c.in-Some.ensures) c.row.ensures.row (sym c.is_held.ensures ∙ free)

pub returns-in-None : goal.returns-in-None
returns-in-None g c free = unnamed_free c.args.self.now.tables.now _ c.args.name.now c.args.self.now.referred (sym c.in-None.ensures)
