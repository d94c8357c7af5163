use Rattle.std.proofs.Common.{◌⊎◌, ◌≡◌, List, ℕ, subst}
use Rattle.std.proofs.lemmas.Result.{err_from_is_err_and}
use Rattle.confluence_test.specs.Taking.{RefusesSchema}
use Rattle.confluence_test.specs.declared.refusal.SchemaRefusal.TheVariants.{Memory}
use Rattle.row_check.specs.Checksum.{is_luhn}
use Rattle.world_commands.proofs.Telling.{schema_refused, script_refused}
use Rattle.world_commands.proofs.script.parse_script.Goals as goal

pub returns-in_err-script-clause-refused : goal.returns-in_err-script-clause-refused
returns-in_err-script-clause-refused c =
    let p = err_from_is_err_and c.from_residual.result c.from_residual.ensures.1 in
    rw (p.1, p.2) (script_refused is_luhn c.args.text.now c.in_err-script.field-0.0 c.in_err-script.ensures.fault)

pub returns-in_err-_schema-clause-refused : goal.returns-in_err-_schema-clause-refused
returns-in_err-_schema-clause-refused c =
    let p = err_from_is_err_and c.from_residual-in_err-_schema.result c.from_residual-in_err-_schema.ensures.1 in
    let script = c.in_ok-script.script in
    let why = c.in_err-_schema.field-0.0 in
    rw (p.1, p.2) (schema_refused is_luhn c.args.text.now script why c.in_ok-script.ensures.found (c.no_fault.ensures is_luhn script.schema)
    (subst (λ (t : List ℕ). RefusesSchema is_luhn t why ⊎ (why ≡ Memory)) c.as_slice.ensures c.in_err-_schema.ensures.refused))
