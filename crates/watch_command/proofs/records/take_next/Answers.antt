use Rattle.std.proofs.Common.{List, ℕ, ◌+◌, IfSome, Option, subst}
use Rattle.std.proofs.lemmas.Result.{err_from_is_err_and}
use Rattle.bec_bytes.specs.Moved.{IfTold}
use Rattle.update_model.specs.Rule.{RuleData}
use Rattle.update_check.specs.Signed.{IsChecked}
use Rattle.watch_command.specs.Records.{StandsNext, StopsReading}
use Rattle.watch_command.proofs.Reading.{stops_reading, stops_taking, takes_record}
use Rattle.watch_command.proofs.records.take_next.Goals as goal

pub returns-in_err-next_update-clause-stopped : goal.returns-in_err-next_update-clause-stopped
returns-in_err-next_update-clause-stopped g c =
    let p = err_from_is_err_and c.from_residual.result c.from_residual.ensures.1 in
    let b = g.S.Source.left c.args.input.now in
    let a = g.S.Source.left c.next_update.new.input in
    let old = g.S.Counted.faults c.args.input.now in
    let new = g.S.Counted.faults c.next_update.new.input in
    let read = subst (λ (r : RuleData). StopsReading r (c.args.count + 1) b a old new c.in_err-next_update.field-0.0) c.rule.ensures c.in_err-next_update.ensures.stopped in
    rw (p.1, p.2) (stops_reading c.args.replica.now.history.schema.rule c.args.replica.now.history.members c.args.count b a c.args.replica.now.log.faults c.args.replica.now.log.faults old new c.requires
    c.in_err-next_update.field-0.0 read)

pub returns-in_err-take_update-in-Some-clause-stopped : goal.returns-in_err-take_update-in-Some-clause-stopped
returns-in_err-take_update-in-Some-clause-stopped g c =
    let p = err_from_is_err_and c.from_residual-in_err-take_update-in-Some.result c.from_residual-in_err-take_update-in-Some.ensures.1 in
    let b = g.S.Source.left c.args.input.now in
    let a = g.S.Source.left c.next_update.new.input in
    let came = subst (λ (o : Option (List ℕ)). IfTold b a (StandsNext o)) c.in-Some.is c.in_ok-next_update.ensures.stands in
    let checked = subst (λ (o : Option (List ℕ)). IfSome o (IsChecked c.rule.result.now)) c.in-Some.is c.in_ok-next_update.ensures.checked in
    let under = subst (λ (r : RuleData). IsChecked r c.in-Some.update) c.rule.ensures checked in
    rw (p.1, p.2) (stops_taking c.args.replica.now.history.schema.rule c.args.replica.now.history.members c.args.count b a c.args.replica.now.log.faults c.take_update.new.replica.log.faults
    (g.S.Counted.faults c.args.input.now) (g.S.Counted.faults c.next_update.new.input) c.requires c.in-Some.update c.in_err-take_update-in-Some.field-0.0 came under c.in_err-take_update-in-Some.ensures.stopped)

pub returns-in_ok-take_update-in-Some-clause-taken : goal.returns-in_ok-take_update-in-Some-clause-taken
returns-in_ok-take_update-in-Some-clause-taken g c more =
    let b = g.S.Source.left c.args.input.now in
    let a = g.S.Source.left c.next_update.new.input in
    let came = subst (λ (o : Option (List ℕ)). IfTold b a (StandsNext o)) c.in-Some.is c.in_ok-next_update.ensures.stands in
    let checked = subst (λ (o : Option (List ℕ)). IfSome o (IsChecked c.rule.result.now)) c.in-Some.is c.in_ok-next_update.ensures.checked in
    let under = subst (λ (r : RuleData). IsChecked r c.in-Some.update) c.rule.ensures checked in
    takes_record c.args.replica.now.history.schema.rule b a c.args.replica.now.history.members c.take_update.new.replica.history.members c.in-Some.update came under c.in_ok-take_update-in-Some.ensures.taken
