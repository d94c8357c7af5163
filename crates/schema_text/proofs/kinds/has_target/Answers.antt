use Rattle.std.proofs.Common.{IsTrue, IfOk, Bool, List, ℕ, ◌↔◌, subst, sym}
use Rattle.schema_text.specs.declared.form.Form.{Form}
use Rattle.schema_text.specs.Faults.{HasTarget, IsReference}
use Rattle.schema_text.proofs.kinds.has_target.Goals as goal

pub returns-in-Ref : goal.returns-in-Ref
returns-in-Ref c =
    let draft = c.args.draft.now in
    subst (λ (f : Form). IfOk c.is_good_reference.result (λ answer. IsTrue answer ↔ HasTarget draft f)) (sym c.in-Ref.is)
    (subst (λ (t : List ℕ). IfOk c.is_good_reference.result (λ answer. IsTrue answer ↔ IsReference draft t c.in-Ref.action c.in-Ref.null)) c.as_slice.ensures c.is_good_reference.ensures)
