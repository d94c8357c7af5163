use Rattle.std.proofs.Common.{ℕ, List, Ok, sym, subst}
use Rattle.std.proofs.lemmas.Result.{err_from_is_err_and}
use Rattle.schema_verdict.specs.declared.refusal.VerdictRefusal.TheVariants.{NotTaken}
use Rattle.schema_verdict.specs.Inputs.{ReadsText}
use Rattle.schema_verdict.proofs.Reading.{confluent_read}
use Rattle.schema_verdict.proofs.Telling.{read_refused}
use Rattle.schema_verdict.proofs.judging.verdict.Goals as goal

pub returns-in_err-_schema-clause-refused : goal.returns-in_err-_schema-clause-refused
returns-in_err-_schema-clause-refused g c =
    let p = err_from_is_err_and c.from_residual-in_err-_schema.result c.from_residual-in_err-_schema.ensures.1 in
    let P : List ℕ → Type 0 = λ w. ReadsText 65536 (g.S.Source.left c.args.input.now) (g.S.Source.left c.read_text.new.input) w in
    rw (p.1, p.2) (read_refused (g.S.Source.left c.args.input.now) (g.S.Source.left c.read_text.new.input) (g.S.Counted.faults c.args.input.now) (g.S.Counted.faults c.read_text.new.input)
    c.deref.result.now c.in_err-_schema.field-0.0 (subst P (sym c.deref.ensures.value) c.in_ok-text.ensures.text) c.in_err-_schema.ensures.refused)

pub returns-clause-confluent : goal.returns-clause-confluent
returns-clause-confluent g c =
    let P : List ℕ → Type 0 = λ w. ReadsText 65536 (g.S.Source.left c.args.input.now) (g.S.Source.left c.read_text.new.input) w in
    confluent_read NotTaken (g.S.Source.left c.args.input.now) (g.S.Source.left c.read_text.new.input) c.deref.result.now c.in_ok-_schema._schema (Ok c.in_ok-verdict.verdict)
    (subst P (sym c.deref.ensures.value) c.in_ok-text.ensures.text) c.in_ok-_schema.ensures.taken c.in_ok-verdict.ensures.items
