use Rattle.std.proofs.Common.{◌∙◌, subst, sym, rules}
use Rattle.explanations.specs.declared.heard_lines.HeardLines.{HeardLines}
use Rattle.explanations.specs.Heard.{MayKeep, hearing_of, nothing}
use Rattle.explanations.proofs.Hearings.{due_kept}
use Rattle.explanations.proofs.heard_lines.HeardLines.end_line.Goals as goal
use Rattle.explanations.proofs.heard_lines.HeardLines.end_line.Goals.{then-is_due, else-is_due}

pub returns-clause-heard : goal.returns-clause-heard
returns-clause-heard c =
    let before = hearing_of c.args.self.now in
    elim c.if-is_due.branch [
      | then-is_due w ↦ subst (λ (lines : HeardLines). MayKeep before lines.heard.items) (sym w.self-is)
          (due_kept before w.keep_line.new.self.heard.items (sym c.is_due.ensures ∙ w.if-is_due.true) w.keep_line.ensures.heard)
      | else-is_due w ↦ nothing (search rules)
    ]
