use Rattle.std.proofs.Common.{ℕ, [], get_or, max, sym, ap, ◌∙◌}
use Rattle.std.specs.BTreeMap.{get}
use Rattle.std.specs.Option.{unwrap_or}
use Rattle.std.proofs.lemmas.List.Sums.{fold_more}
use Rattle.update_model.specs.declared.update_id.UpdateId.{UpdateId}
use Rattle.update_model.specs.Entry.{id_cmp}
use Rattle.graph_drawing.proofs.depths.greatest_depth.Goals as goal

pub loop-id-preserved : goal.loop-id-preserved
loop-id-preserved c =
    let step : ℕ → UpdateId → ℕ = λ depth id. max depth (unwrap_or (get id_cmp c.args.depths.now id) 0) in
    c.max-greatest.ensures ∙ ap (λ n. max c.loop-id.greatest n) c.depth_of.ensures
    ∙ ap (λ n. step n (get_or c.args.ids.now c.loop-id.id-index (record { 0 = [] }))) c.loop-id.invariant
    ∙ sym (fold_more step 0 c.args.ids.now c.loop-id.id-index (record { 0 = [] }) c.loop-id-test.true)
