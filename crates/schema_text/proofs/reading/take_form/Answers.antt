use Rattle.schema_text.proofs.Keeping.{kept}
use Rattle.schema_text.proofs.reading.take_form.Goals as goal

pub returns-clause-sound : goal.returns-clause-sound
returns-clause-sound g c =
    let relation = g.L.Relation.answer in
    kept c.one_expression.ensures relation c.args.number c.args.draft.now c.args.form.now c.add.new.self c.requires.draft c.in_ok-pass.ensures.turn c.in_ok-pass.ensures.good c.in_ok-add.ensures
