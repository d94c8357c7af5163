use Rattle.std.proofs.Common.{◌≡◌, IsTrue}
use Rattle.bec_disk.specs.Gated.{gated_of}
use Rattle.bec_disk.specs.declared.gated.Gated.TheVariants.{Absent}
use Rattle.replica.specs.Opening.{IsCreateCause, IsTextCause}
use Rattle.replica.proofs.Creates.{text_cause}
use Rattle.replica.proofs.Outcomes.{if_err_map}
use Rattle.replica.proofs.creating.plan_store.Goals as goal

pub returns-in-Ok-Absent-clause-refused : goal.returns-in-Ok-Absent-clause-refused
returns-in-Ok-Absent-clause-refused g c =
    let part = g.D.Disk.state c.args.part.now in
    let absent : IsTrue part.tells → gated_of part.seen ≡ Absent = λ (tells : IsTrue part.tells). let told = c.in-Ok-Absent.ensures.value tells in cc in
    if_err_map c.plan_for.result (λ why. IsTextCause g.L.Relation.answer c.args.text.now why) (λ why. IsCreateCause g.L.Relation.answer part c.args.text.now why)
    (λ why cause. text_cause g.L.Relation.answer part c.args.text.now why absent cause) c.plan_for.ensures.refused
