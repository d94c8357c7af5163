use Rattle.std.proofs.Common.{◌≤◌, length, refl, arith}
use Rattle.std.proofs.lemmas.Result.{err_from_is_err_and}
use Rattle.schema_text.proofs.Lines.{cause_of, answers_err, answers_last}
use Rattle.schema_text.proofs.reading.read_into.Goals as goal

pub returns-in_err-take_lines-clause-only : goal.returns-in_err-take_lines-clause-only
returns-in_err-take_lines-clause-only g c = λ wanted declared.
    let relation = g.L.Relation.answer in
    let text = c.args.text.now in
    let few : length c.args.text.now ≤ 65536 = omega arith in
    let failed = cause_of relation text c.in_err-take_lines.field-0.0 few c.in_err-take_lines.ensures.fault in
    let p = err_from_is_err_and c.from_residual.result c.from_residual.ensures.1 in
    rw (p.1, p.2) (answers_err c.no_fault.ensures relation text c.in_err-take_lines.field-0.0 wanted failed declared)

pub returns-clause-only : goal.returns-clause-only
returns-clause-only g c = λ wanted declared.
    let relation = g.L.Relation.answer in
    let text = c.args.text.now in
    let few : length c.args.text.now ≤ 65536 = omega arith in
    answers_last c.one_schema.ensures relation text c.take_lines.new.draft c.schema_of.result wanted c.schema_of.ensures.schema c.schema_of.ensures.memory
    (few, (c.take_lines.new.draft, c.in_ok-take_lines.ensures.found, c.in_ok-take_lines.ensures.complete, refl)) declared
