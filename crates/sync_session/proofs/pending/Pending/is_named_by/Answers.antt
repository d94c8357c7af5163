use Rattle.std.proofs.Common.{◌≡◌, ◌∙◌, ◌<◌, true, sym, subst, map, length, arith}
use Rattle.update_codec.specs.Parts.{entry_of}
use Rattle.update_model.specs.Graph.{names}
use Rattle.sync_session.specs.Pending.{PendingData}
use Rattle.sync_session.proofs.Wanting.{found_by_search, named_at}
use Rattle.sync_session.proofs.pending.Pending.is_named_by.Goals as goal

pub returns-in-Some : goal.returns-in-Some
returns-in-Some c = λ found.
    let low : c.in-Some.place.now < length c.self.inside.waiting.items = omega (arith, c.if-place-len.true, c.len.ensures) in
    subst (λ (p : PendingData). names (map entry_of p.waiting) c.args.id.now ≡ true) c.self.view_is
    (named_at c.self.inside.waiting.items c.in-Some.place.now c.index.result.now c.preds.result.now c.args.id.now c.index.ensures low c.preds.ensures.value
    (found_by_search c.preds.result.now c.args.id.now c.binary_search.result c.binary_search.ensures.bound c.binary_search.ensures.ok (sym c.is_ok.ensures.value ∙ found)))
