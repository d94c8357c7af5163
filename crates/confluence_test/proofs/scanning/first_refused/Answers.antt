use Rattle.std.proofs.Common.{◌≡◌, ◌<◌, ◌∙◌, length, ap, arith, Some, None}
use Rattle.schema.specs.declared.table_def.TableDef.{TableDef}
use Rattle.table_model.specs.Invariants.{table_declared, invariants_of}
use Rattle.table_model.specs.Visible.{table_of, bare_rules}
use Rattle.confluence_test.specs.Findings.{declared_of, first_refused, refused_by}
use Rattle.confluence_test.proofs.Scans.{scan_found, scan_past, none_of}
use Rattle.confluence_test.proofs.scanning.first_refused.Goals as goal

pub returns-in-Some-clause-first : goal.returns-in-Some-clause-first
returns-in-Some-clause-first c =
    let tables = c.args.schema.now.tables in
    let number = c.loop-number.number in
    let known : number < length tables = omega arith in
    let found : Some (declared_of c.in-Some.finding) ≡ refused_by c.args.permanence.now (table_declared number (table_of (bare_rules tables) number)) =
    c.in-Some.ensures.first ∙ ap (λ (t : TableDef). refused_by c.args.permanence.now (table_declared number t)) c.table_of.ensures.table in
    scan_found tables c.table_of.ensures.sound c.args.permanence.now c.requires number known (declared_of c.in-Some.finding) (first_refused (bare_rules tables) (invariants_of (bare_rules tables))) found c.loop-number.invariant

pub loop-number-preserved : goal.loop-number-preserved
loop-number-preserved c =
    let tables = c.args.schema.now.tables in
    let number = c.loop-number.number in
    let known : number < length tables = omega arith in
    let none : None ≡ refused_by c.args.permanence.now (table_declared number (table_of (bare_rules tables) number)) =
    none_of c.refused_in.result c.in_default.not-Some ∙ c.refused_in.ensures.first ∙ ap (λ (t : TableDef). refused_by c.args.permanence.now (table_declared number t)) c.table_of.ensures.table in
    scan_past tables c.table_of.ensures.sound c.args.permanence.now c.requires number known (first_refused (bare_rules tables) (invariants_of (bare_rules tables))) none c.loop-number.invariant
