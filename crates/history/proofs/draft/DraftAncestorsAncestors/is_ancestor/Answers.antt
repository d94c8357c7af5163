use Rattle.std.proofs.Common.{sym, ◌∙◌}
use Rattle.std.proofs.lemmas.Result.{IfOk-weaker}
use Rattle.history.proofs.Drafts.{last_behind, others_same}
use Rattle.history.proofs.draft.DraftAncestorsAncestors.is_ancestor.Goals as goal

pub returns-then-b-draft : goal.returns-then-b-draft
returns-then-b-draft c =
    let at = c.args.self.now in
    IfOk-weaker c.is_named.result _ _ (λ answer is. is ∙ sym (last_behind at.ancestry.now at.preds.now c.args.a c.args.b at.lower (c.if-b-draft.true ∙ c.len-draft.ensures.value))) c.is_named.ensures

pub returns-else-b-draft : goal.returns-else-b-draft
returns-else-b-draft c =
    let at = c.args.self.now in
    IfOk-weaker c.is_ancestor.result _ _ (λ answer is. is ∙ others_same at.ancestry.now at.preds.now c.args.a c.args.b at.lower (λ same. c.if-b-draft.false (same ∙ sym c.len-draft.ensures.value))) c.is_ancestor.ensures
