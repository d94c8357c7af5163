use Rattle.std.proofs.Common.{◌≡◌, IfOk, Bool, List, ℕ, Option, ap, ◌∙◌, subst}
use Rattle.schema.specs.declared.action.Action.{Action}
use Rattle.schema.specs.declared.table_def.TableDef.{TableDef}
use Rattle.schema_text.specs.Faults.{targets_with}
use Rattle.schema.specs.Least.{holds_steady, steady_tables}
use Rattle.schema_text.proofs.kinds.holds_steady_with.Goals as goal

pub returns : goal.returns
returns c =
    let draft = c.args.draft.now in
    let kept = draft.table.kept in
    let known = c.in_ok-known.ensures ∙ ap (λ (ts : List TableDef). steady_tables ts) c.as_slice.ensures in
    let targets = c.as_slice-2.ensures.value ∙ c.in_ok-targets.ensures in
    subst (λ (k : List Bool). IfOk c.holds_steady.result (λ answer. answer ≡ holds_steady k kept (targets_with draft c.args.table.now c.args.action))) known
    (subst (λ (t : List (Option (ℕ × Action))). IfOk c.holds_steady.result (λ answer. answer ≡ holds_steady c.in_ok-known.known.items kept t)) targets c.holds_steady.ensures)
