use Rattle.std.proofs.Common.{◌≡◌, ◌∙◌, ◌≤◌, ◌+◌, [], ◌∷◌, length, length-append, take, ap, arith}
use Rattle.std.proofs.lemmas.List.{take_at}
use Rattle.head_set.specs.Present.{present}
use Rattle.history.proofs.Steps.{heads_count, new_head, views_taken}
use Rattle.history.proofs.views.Views.take.Goals as goal

pub add-requires-clause-room : goal.add-requires-clause-room
add-requires-clause-room g c =
    let low : c.args.position ≤ length c.args.graph.now = omega arith in
    let size = heads_count g.L.Relation.answer c.args.schema.now c.args.graph.now c.args.position c.args.self.now low c.requires.views in
    omega (arith, size)

pub add-requires-clause-new : goal.add-requires-clause-new
add-requires-clause-new g c =
    new_head g.L.Relation.answer c.args.schema.now c.args.graph.now c.args.position c.at-update.result.now c.args.self.now c.id.result c.len.ensures.closed c.at-update.ensures c.id.ensures c.requires.views

pub cut-requires : goal.cut-requires
cut-requires g c =
    let low : c.args.position ≤ length c.args.graph.now = omega arith in
    let size = heads_count g.L.Relation.answer c.args.schema.now c.args.graph.now c.args.position c.args.self.now low c.requires.views in
    let more : length c.add.new.self ≡ length c.args.self.now.heads + 1 = ap length c.in_ok-add.ensures.states ∙ length-append c.args.self.now.heads (present c.add.new.self ∷ []) in
    omega (arith, size, more)

pub returns-in-Ok-clause-views : goal.returns-in-Ok-clause-views
returns-in-Ok-clause-views g c =
    views_taken g.L.Relation.answer c.args.schema.now c.args.graph.now c.args.position c.at-update.result.now c.args.self.now
    (record { heads = c.add.new.self; ancestry = c.take_next.new.ancestry; tables = c.take_next.new.tables }) c.id.result c.preds.result.now c.len.ensures.closed c.at-update.ensures
    c.id.ensures c.preds.ensures.value c.requires.views c.in_ok-add.ensures.graph c.in-Ok.ensures.places c.in-Ok.ensures.state

pub returns-in-Err-clause-same : goal.returns-in-Err-clause-same
returns-in-Err-clause-same g c =
    let low : c.args.position ≤ length c.args.graph.now = omega arith in
    let size = heads_count g.L.Relation.answer c.args.schema.now c.args.graph.now c.args.position c.args.self.now low c.requires.views in
    let heads = c.cut.ensures ∙ ap (take c.args.position) c.in_ok-add.ensures.states ∙ take_at c.args.self.now.heads (present c.add.new.self ∷ []) c.args.position size in
    λ i. record { heads = heads i; ancestry = c.in-Err.ensures.same_places i; tables = c.in-Err.ensures.same_state i }
