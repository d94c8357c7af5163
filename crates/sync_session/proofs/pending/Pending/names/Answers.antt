use Rattle.std.proofs.Common.{◌∙◌, List, ℕ, sym, ap, map}
use Rattle.update_codec.specs.Parts.{entry_of}
use Rattle.update_model.specs.Graph.{names}
use Rattle.sync_session.specs.Pending.{PendingData}
use Rattle.sync_session.proofs.Wanting.{named_at, names_more}
use Rattle.sync_session.proofs.pending.Pending.names.Goals as goal

pub returns-then-is_among : goal.returns-then-is_among
returns-then-is_among c =
    let es = c.deref-update-items.result.now in
    sym (ap (λ (p : PendingData). names (map entry_of p.waiting) c.args.id.now) (sym c.self.view_is) ∙ ap (λ (us : List (List ℕ)). names (map entry_of us) c.args.id.now) (sym c.deref-update-items.ensures.value)
    ∙ named_at es c.loop-update.update-index c.update-item.result c.preds.result.now c.args.id.now c.update-item.is c.loop-update-test.true c.preds.ensures.value (sym c.is_among.ensures ∙ c.if-is_among.true))

pub loop-update-preserved : goal.loop-update-preserved
loop-update-preserved c =
    let es = c.deref-update-items.result.now in
    names_more es c.loop-update.update-index c.update-item.result c.preds.result.now c.args.id.now c.update-item.is c.loop-update-test.true c.preds.ensures.value
    ∙ rw (c.loop-update.invariant, sym c.is_among.ensures) c.if-is_among.false
