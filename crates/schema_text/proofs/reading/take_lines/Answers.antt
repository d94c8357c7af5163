use Rattle.std.proofs.Common.{◌≡◌, [], sym, subst, rules}
use Rattle.schema_text.specs.declared.fault.SchemaError.{SchemaError}
use Rattle.schema_text.specs.declared.fault.SchemaKind.TheVariants as fault
use Rattle.schema_text.specs.Outcome.{HasFaultIn}
use Rattle.schema_text.specs.Schemas.{IsComplete}
use Rattle.schema_text.proofs.Lines.{leads_end, fails_end}
use Rattle.schema_text.proofs.reading.take_lines.Goals as goal

pub returns-then-not-is_complete-clause-fault : goal.returns-then-not-is_complete-clause-fault
returns-then-not-is_complete-clause-fault g c =
    let relation = g.L.Relation.answer in
    let none : c.loop-line.rest.now ≡ [] = search rules in
    let not_complete : ¬ IsComplete c.loop-line.draft = search rules in
    subst (λ (e : SchemaError). HasFaultIn relation c.args.text.now e) (sym c.fault.ensures)
    (c.loop-line.invariant.fails fault.Line c.loop-line.number (fails_end relation c.loop-line.number c.loop-line.draft c.loop-line.rest.now none not_complete))

pub returns-clause-found : goal.returns-clause-found
returns-clause-found g c =
    let relation = g.L.Relation.answer in
    let none : c.loop-line.rest.now ≡ [] = search rules in
    c.loop-line.invariant.leads c.loop-line.draft (leads_end relation c.loop-line.number c.loop-line.draft c.loop-line.rest.now none)
