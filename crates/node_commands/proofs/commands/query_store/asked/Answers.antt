use Rattle.std.proofs.Common.{◌≡◌, ◌∙◌, inl, Err, ℕ, cond, Bool, IfOk, List, Vec, Result, ap, subst, sym}
use Rattle.std.specs.declared.alloc.Global.{Global}
use Rattle.std.specs.declared.alloc.AllocError.{AllocError}
use Rattle.std.proofs.lemmas.Result.{err_from_is_err_and}
use Rattle.row_check.specs.Checksum.{is_luhn}
use Rattle.schema.specs.Data.{SchemaData}
use Rattle.table_model.specs.Visible.{rules_with}
use Rattle.tuple_state.specs.State.{IsStateOf}
use Rattle.update_model.specs.Node.{NodeData}
use Rattle.query.specs.Outcome.{HasCause, data_of as query_data}
use Rattle.query.specs.Queries.{Reads}
use Rattle.query_answer.specs.Answers.{IsAnswerOver, data_of}
use Rattle.query_answer.specs.Json.{json_text}
use Rattle.query_answer.specs.Lines.{lines_text}
use Rattle.outcomes.specs.declared.refusal.Refusal.{Refusal}
use Rattle.node_commands.specs.Asking.{answers}
use Rattle.outcomes.specs.Rules.{nodes_of}
use Rattle.outcomes.specs.OpenStores.{opened_store}
use Rattle.node_commands.proofs.Asking.{has_answer, query_refused}
use Rattle.node_commands.proofs.commands.query_store.asked.Goals as goal
use Rattle.node_commands.proofs.commands.query_store.asked.Goals.{then-json, else-json}

pub returns-in_err-query : goal.returns-in_err-query
returns-in_err-query g c =
    let p = err_from_is_err_and c.from_residual.result c.from_residual.ensures.1 in
    let at_schema = subst (λ (s : SchemaData). HasCause s c.as_bytes.result.now c.in_err-query.field-0.0) c.schema.ensures c.in_err-query.ensures.fault in
    let cause = subst (λ (t : List ℕ). HasCause c.args.replica.now.history.schema t c.in_err-query.field-0.0) c.as_bytes.ensures.value at_schema in
    query_refused c.args.text.now c.args.json (opened_store c.args.replica.now) c.in_err-query.field-0.0 c.from_residual.result cause (p.1 ∙ ap (λ (r : Refusal). Err r) p.2)

pub returns : goal.returns
returns g c =
    let history = c.args.replica.now.history in
    let q = query_data c.in_ok-query.query in
    let a = data_of c.in_ok-found.found in
    let at_schema = subst (λ (s : SchemaData). Reads s c.as_bytes.result.now q) c.schema.ensures c.in_ok-query.ensures.found in
    let reads = subst (λ (t : List ℕ). Reads history.schema t q) c.as_bytes.ensures.value at_schema in
    let P : SchemaData → Type 0 = λ s. (nodes : List NodeData) → IsStateOf (rules_with is_luhn s.tables) nodes c.tables.result.now → IsAnswerOver (rules_with is_luhn s.tables) nodes q a in
    let is = subst P c.schema-2.ensures c.in_ok-found.ensures (nodes_of history.members) c.tables.ensures in
    let has = has_answer (record { arrivals = c.arrivals_are_closed.ensures; same_tables = c.tables_are_of_the_set.ensures }) c.equal_heads_mean_equal_sets.ensures history.schema history.members q a
    c.each_stands.ensures.history_is.members is in
    inl (answers q a reads has (elim c.if-json.branch [
      | then-json w ↦ (subst (λ (r : Result (Vec ℕ Global) AllocError). IfOk r (λ t. t.items ≡ json_text a)) (sym w.lines-is ∙ c.in_ok-lines.was) w.json_lines-lines.ensures) ∙ ap (λ (b : Bool). cond b (json_text a) (lines_text a.rows)) (sym w.if-json.true)
      | else-json w ↦ (subst (λ (r : Result (Vec ℕ Global) AllocError). IfOk r (λ t. t.items ≡ lines_text a.rows)) (sym w.lines-is ∙ c.in_ok-lines.was) w.print_lines-lines.ensures) ∙ ap (λ (b : Bool). cond b (json_text a) (lines_text a.rows)) (sym w.if-json.false)
    ]))
