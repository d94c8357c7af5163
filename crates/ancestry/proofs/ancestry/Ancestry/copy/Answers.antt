use Rattle.std.proofs.Common.{◌≡◌, ◌∙◌}
use Rattle.std.proofs.lemmas.List.{take_all}
use Rattle.ancestry.proofs.ancestry.Ancestry.copy.Goals as goal

pub invariant_of-result : goal.invariant_of-result
invariant_of-result c =
    let members : c.loop-preds.members.items ≡ c.self.inside.members.items =
    c.loop-preds.invariant.copied ∙ take_all c.loop-preds.preds-index c.as_slice-preds-items.result.now c.loop-preds-test.false ∙ c.as_slice-preds-items.ensures.value in
    let clocks : c.in_ok-clocks.clocks.items ≡ c.self.inside.clocks.items =
    c.in_ok-clocks.ensures.items ∙ c.as_slice.ensures.value in
    let namers : c.loop-list.namers.items ≡ c.self.inside.namers.items =
    c.loop-list.invariant.copied ∙ take_all c.loop-list.list-index c.as_slice-list-items.result.now c.loop-list-test.false ∙ c.as_slice-list-items.ensures.value in
    rw (members, clocks, namers) c.self.invariant
