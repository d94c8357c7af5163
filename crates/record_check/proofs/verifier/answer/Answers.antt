use Rattle.std.proofs.Common.{Result, sym, subst, ℕ, List}
use Rattle.std.specs.declared.alloc.AllocError.{AllocError}
use Rattle.std.specs.Prelude.{IfOk}
use Rattle.update_check.specs.declared.check_error.CheckFault.{CheckFault}
use Rattle.record_check.specs.Records.{IsAnswer}
use Rattle.record_check.proofs.Records.{answer_told}
use Rattle.record_check.proofs.verifier.answer.Goals as goal

pub returns : goal.returns
returns c =
    subst (λ (r : Result (Result (List ℕ) CheckFault) AllocError). IfOk r (IsAnswer c.args.rule.now c.args.bytes.items)) (sym c.answer_of.ensures)
    (answer_told c.args.rule.now c.args.bytes.items c.check.result c.check.ensures.found c.check.ensures.same c.check.ensures.fault)
