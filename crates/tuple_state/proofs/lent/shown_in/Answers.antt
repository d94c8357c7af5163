use Rattle.std.proofs.Common.{◌≡◌, ◌∙◌, None, Option, Some, ap, arith, length, refl, slice_get, sym}
use Rattle.std.specs.Prelude.{unwrap_or}
use Rattle.std.proofs.lemmas.Option.{slice_get_past, slice_get_read}
use Rattle.update_model.specs.declared.value.Value.{Value}
use Rattle.update_model.specs.declared.value.Value.TheVariants.{Null}
use Rattle.table_model.specs.Visible.{is_visible}
use Rattle.tuple_state.specs.State.{done_in, rules_of_state}
use Rattle.tuple_state.proofs.Lending.{shown_nowhere, shown_past, shown_there}
use Rattle.tuple_state.proofs.lent.shown_in.Goals as goal

pub returns-in-Some-get : goal.returns-in-Some-get
returns-in-Some-get c =
    let s = c.args.tables.now in
    let values = c.args.values.now in
    let columns = c.args.columns.now in
    let n = c.args.number in
    let value = c.in-Some.value.now in
    let column = c.in-Some-get.column.now in
    let v = c.in-Some.ensures.lookup in
    let k = c.in-Some-get.ensures.lookup in
    let of : slice_get values n ≡ Some value = slice_get_read values (length values) n value refl v.3.0 v.1 in
    let at : slice_get columns n ≡ Some column = slice_get_read columns (length columns) n column refl k.3.0 k.1 in
    c.shown_at.ensures ∙ sym (ap (λ (found : Option Value). unwrap_or found Null) (shown_there (is_visible (rules_of_state s) (done_in s)) columns values n column value at of))

pub returns-in-None-get : goal.returns-in-None-get
returns-in-None-get c =
    let s = c.args.tables.now in
    let values = c.args.values.now in
    let columns = c.args.columns.now in
    let n = c.args.number in
    let value = c.in-Some.value.now in
    let v = c.in-Some.ensures.lookup in
    let lookup = c.in-None-get.ensures.lookup in
    let of : slice_get values n ≡ Some value = slice_get_read values (length values) n value refl v.3.0 v.1 in
    let lacks : slice_get columns n ≡ None = slice_get_past columns n (omega (arith, lookup.3)) in
    sym (ap (λ (found : Option Value). unwrap_or found Null) (shown_past (is_visible (rules_of_state s) (done_in s)) columns values n value lacks of))

pub returns-in-None : goal.returns-in-None
returns-in-None c =
    let s = c.args.tables.now in
    let values = c.args.values.now in
    let lookup = c.in-None.ensures.lookup in
    let lacks : slice_get values c.args.number ≡ None = slice_get_past values c.args.number (omega (arith, lookup.3)) in
    sym (ap (λ (found : Option Value). unwrap_or found Null) (shown_nowhere (is_visible (rules_of_state s) (done_in s)) c.args.columns.now values c.args.number lacks))
