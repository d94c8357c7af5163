use Rattle.std.proofs.Common.{◌≡◌, ◌∙◌, sym}
use Rattle.std.proofs.lemmas.Bool.{true≢false}
use Rattle.live_view.proofs.Those.{at_first}
use Rattle.live_view.proofs.change.begins_before.Goals as goal

pub returns-in-len1-up-clause-no : goal.returns-in-len1-up-clause-no
returns-in-len1-up-clause-no c refused =
    at_first c.args.lines.now c.args.line.now c.first-item.result c.in-len1-up.len_at_least c.first-item.is
    (λ less. true≢false (sym (c.comes_before.ensures.1 less) ∙ refused))
