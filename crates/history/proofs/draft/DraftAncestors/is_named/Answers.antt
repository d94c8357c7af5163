use Rattle.std.proofs.Common.{sym, ap, ◌∙◌}
use Rattle.std.proofs.lemmas.List.{take_all}
use Rattle.ancestry.specs.Since.{is_behind}
use Rattle.history.proofs.draft.DraftAncestors.is_named.Goals as goal

pub returns : goal.returns
returns c =
    let all = take_all c.loop-pred.pred-index c.args.self.now.preds.now c.loop-pred-test.false in
    sym c.loop-pred.invariant ∙ ap (λ l. is_behind c.args.self.now.ancestry.now l c.args.a) all
