use Rattle.std.proofs.Common.{◌≡◌, ℕ, Bool, ◌&&◌, Some, ap, sym, ◌∙◌}
use Rattle.std.specs.Prelude.{slice_get}
use Rattle.std.specs.List.{list_any}
use Rattle.schema.specs.Columns.{is_restrict}
use Rattle.table_model.specs.Visible.{is_visible, refs, same_row}
use Rattle.tuple_state.specs.declared.inserted.Inserted.{Inserted}
use Rattle.tuple_state.specs.Past.{done_then}
use Rattle.tuple_state.specs.State.{row_of, rules_of_state}
use Rattle.tuple_state.proofs.Regrowth.{and_true}
use Rattle.tuple_state.proofs.Restricting.{if_ok}
use Rattle.tuple_state.proofs.at.At.restricts.Goals as goal

pub returns-then-restricts : goal.returns-then-restricts
returns-then-restricts g c =
    let s = c.args.self.now.tables.now in
    let past : ℕ → Bool = λ p. g.A.Ancestors.ancestor c.args.self.now.ancestors.now p c.args.self.now.position in
    if_ok (λ (b : Bool). (it : Inserted) → slice_get s.inserted c.args.place ≡ Some it → b ≡ is_visible (rules_of_state s) (done_then s past) it.name)
    (λ (b : Bool). (it : Inserted) → slice_get s.inserted c.args.place ≡ Some it
    → b ≡ (is_visible (rules_of_state s) (done_then s past) it.name && list_any (λ r. is_restrict r.action && same_row r.name c.args.name.now) (refs (rules_of_state s) (row_of it))))
    c.stands.result
    (λ b f it at. f it at ∙ sym (ap (λ x. is_visible (rules_of_state s) (done_then s past) it.name && x) (sym (c.restricts.ensures it at) ∙ c.if-restricts.true) ∙ and_true _))
    c.stands.ensures
