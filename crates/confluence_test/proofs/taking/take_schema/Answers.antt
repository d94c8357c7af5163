use Rattle.std.proofs.Common.{inl, subst}
use Rattle.std.proofs.lemmas.Result.{err_from_is_err_and}
use Rattle.table_model.specs.Visible.{rules_with}
use Rattle.confluence_test.specs.declared.tested.Tested.{Tested}
use Rattle.confluence_test.specs.Tests.{IsTested}
use Rattle.confluence_test.proofs.Taken.{faulty, refuses, takes}
use Rattle.confluence_test.proofs.taking.take_schema.Goals as goal

pub returns-in_err-schema-clause-refused : goal.returns-in_err-schema-clause-refused
returns-in_err-schema-clause-refused g c =
    let p = err_from_is_err_and c.from_residual.result c.from_residual.ensures.1 in
    rw p.1 (faulty g.L.Relation.answer c.args.text.now c.in_err-schema.field-0.0 p.0 c.in_err-schema.ensures.fault p.2)

pub returns-in-Accepted-clause-taken : goal.returns-in-Accepted-clause-taken
returns-in-Accepted-clause-taken g c =
    let ask = g.L.Relation.answer in
    let found = c.in_ok-schema.ensures.found in
    let P : Tested → Type 0 = λ t. IsTested (rules_with ask c.in_ok-schema.schema.tables) t in
    takes (record { confluent = c.accepted_is_confluent.ensures; confirmed = c.declared_refusal_is_confirmed.ensures }) ask c.args.text.now c.in_ok-schema.schema found
    (c.declared_is_sound.ensures ask c.args.text.now c.in_ok-schema.schema found).tables (subst P c.in-Accepted.is (c.in_ok-test.ensures ask))

pub returns-in-Refused-clause-refused : goal.returns-in-Refused-clause-refused
returns-in-Refused-clause-refused g c =
    let ask = g.L.Relation.answer in
    let P : Tested → Type 0 = λ t. IsTested (rules_with ask c.in_ok-schema.schema.tables) t in
    inl (refuses (record { confluent = c.accepted_is_confluent.ensures; confirmed = c.declared_refusal_is_confirmed.ensures }) ask c.args.text.now c.in_ok-schema.schema c.in-Refused.which c.in-Refused.example
    c.in_ok-schema.ensures.found (subst P c.in-Refused.is (c.in_ok-test.ensures ask)))
