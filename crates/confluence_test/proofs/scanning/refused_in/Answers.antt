use Rattle.std.proofs.Common.{◌∙◌, List, ap, Option}
use Rattle.std.specs.Option.{option_or, option_map}
use Rattle.schema.specs.declared.column.Column.{Column}
use Rattle.confluence_test.specs.Findings.{declared_of, refused_by}
use Rattle.confluence_test.specs.declared.finding.Finding.{Finding}
use Rattle.confluence_test.proofs.Scans.{table_first, references_from}
use Rattle.confluence_test.proofs.scanning.refused_in.Goals as goal

pub returns-clause-first : goal.returns-clause-first
returns-clause-first c =
    let number = c.args.number in
    let u = c.refused_unique-unique.result in
    let a = c.refused_at_most-at_most.result in
    let r = c.refused_reference-reference.result in
    ap (option_map declared_of) (c.or-2.ensures ∙ ap (λ (o : Option Finding). option_or o r) c.or.ensures)
    ∙ table_first c.args.permanence.now number c.args.table.now c.requires.kept u a r
    c.refused_unique-unique.ensures.first
    c.refused_at_most-at_most.ensures.first
    (c.refused_reference-reference.ensures.first ∙ ap (λ (l : List Column). refused_by c.args.permanence.now (references_from number 0 l)) c.as_slice.ensures)
