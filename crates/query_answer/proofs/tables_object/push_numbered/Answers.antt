use Rattle.std.proofs.Common.{◌≡◌, ◌∙◌, ◌++◌, ℕ, List, Option, Some, None, OnOk, slice_get, sym, ap, ap₂, subst, append_assoc, append-nil, arith, length, refl}
use Rattle.std.proofs.lemmas.Option.{slice_get_past, slice_get_read}
use Rattle.schema.specs.declared.table_def.TableDef.{TableDef}
use Rattle.table_model.specs.declared.shown_row.ShownRow.{ShownRow}
use Rattle.query_answer.specs.TablesJson.{comma_before, json_table, next_table}
use Rattle.query_answer.proofs.Filling.{nothing}
use Rattle.query_answer.proofs.tables_object.push_numbered.Goals as goal

pub returns-in_ok-push_comma-in-Some : goal.returns-in_ok-push_comma-in-Some
returns-in_ok-push_comma-in-Some c =
    let P : List ℕ → Type 0 = λ text. OnOk c.push_table.result (c.push_table.new.out.items ≡ text) in
    let out = c.args.out.now.items in
    let number = c.args.number in
    let table = c.table.result.now in
    let comma = c.in_ok-push_comma-in-Some.ensures in
    let same : c.as_slice.result.now ≡ c.in-Some.rows.now = c.as_slice.ensures in
    let lookup = c.in-Some.ensures.lookup in
    let at : c.from.result ≡ number = c.from.ensures in
    let read : slice_get c.args.lists.now c.from.result ≡ Some c.in-Some.rows.now =
    slice_get_read c.args.lists.now (length c.args.lists.now) c.from.result c.in-Some.rows.now refl lookup.3.0 lookup.1 in
    let found : slice_get c.args.lists.now number ≡ Some c.in-Some.rows.now = subst (λ (n : ℕ). slice_get c.args.lists.now n ≡ Some c.in-Some.rows.now) at read in
    let rows : slice_get c.args.lists.now number ≡ Some c.as_slice.result.now = found ∙ ap Some (sym same) in
    subst P
    (ap (λ (text : List ℕ). text ++ json_table (table, c.as_slice.result.now)) comma
    ∙ append_assoc out (comma_before number) (json_table (table, c.as_slice.result.now))
    ∙ ap₂ (λ (t : Option TableDef) (rs : Option (List ShownRow)). out ++ next_table number t rs) (sym c.table.ensures) (sym rows))
    c.push_table.ensures

pub returns-in-None : goal.returns-in-None
returns-in-None c =
    let out = c.args.out.now.items in
    let number = c.args.number in
    let tables = c.args.schema.now.tables in
    let lookup = c.in-None.ensures.lookup in
    let lacks : slice_get c.args.lists.now number ≡ None = slice_get_past c.args.lists.now number (omega (arith, lookup.3, c.from.ensures)) in
    sym (append-nil out) ∙ ap (λ (text : List ℕ). out ++ text) (sym (nothing number (slice_get tables number)))
    ∙ ap (λ (rs : Option (List ShownRow)). out ++ next_table number (slice_get tables number) rs) (sym lacks)
