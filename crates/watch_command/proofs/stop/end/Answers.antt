use Rattle.std.proofs.Common.{◌≡◌, Err, Option, Some, ap, subst, sym}
use Rattle.schema_verdict.specs.Written.{SinkState}
use Rattle.watch_command.specs.Ending.{Says, Writes, stop_of}
use Rattle.watch_command.specs.declared.stop.Stop.{Stop}
use Rattle.watch_command.specs.declared.stop.Stop.TheVariants.{Refused}
use Rattle.watch_command.proofs.Writing.{says_refused}
use Rattle.watch_command.proofs.stop.end.Goals as goal

pub returns-in-Err-Refused : goal.returns-in-Err-Refused
returns-in-Err-Refused g c old text written later =
    let mid : SinkState = record { held = g.K.Sink.held c.args.out.now; faults = g.K.Counted.faults c.args.out.now } in
    let new : SinkState = record { held = g.K.Sink.held c.finish.new.out; faults = g.K.Counted.faults c.finish.new.out } in
    let is : c.args.ended ≡ Err (Refused c.in-Err-Refused.refusal) = (let a = c.in-Err-Refused.is in let b = c.in-Err-Refused.field-0-is in let d = c.in-Err-Refused.refusal-is in cc) in
    let same : stop_of c.args.ended ≡ Some (Refused c.in-Err-Refused.refusal) = ap stop_of is in
    subst (λ (s : Option Stop). Says old new text s c.finish.result) (sym same)
    (says_refused old mid new text (subst (λ (s : Option Stop). Writes old mid text s) same written) later c.in-Err-Refused.refusal c.finish.result c.finish.ensures)
