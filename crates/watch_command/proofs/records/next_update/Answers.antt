use Rattle.std.proofs.Common.{List, ℕ, subst, sym}
use Rattle.bec_bytes.specs.Framed.{HoldsPiece, StandsFirst}
use Rattle.bec_bytes.specs.Moved.{IfTold}
use Rattle.bec_bytes.specs.declared.framed.Framed.{Framed}
use Rattle.update_codec.specs.declared.limits.TheConstants.{UPDATE_LIMIT}
use Rattle.outcomes.specs.declared.refusal.Refusal.{Refusal}
use Rattle.watch_command.specs.Records.{StopsReading}
use Rattle.watch_command.proofs.Reading.{reads_cut, reads_too_long, reads_unchecked}
use Rattle.watch_command.proofs.records.next_update.Goals as goal

pub returns-in-Cut-clause-stopped : goal.returns-in-Cut-clause-stopped
returns-in-Cut-clause-stopped g c =
    reads_cut c.args.rule.now c.args.number (g.S.Source.left c.args.input.now) (g.S.Source.left c.read_framed.new.source) (g.S.Counted.faults c.args.input.now) (g.S.Counted.faults c.read_framed.new.source)
    _ c.in_ok-read_framed.ensures.found c.in-Cut.came c.cut.result c.in-Cut.is c.cut.ensures

pub returns-in-TooLong-clause-stopped : goal.returns-in-TooLong-clause-stopped
returns-in-TooLong-clause-stopped g c =
    reads_too_long c.args.rule.now c.args.number (g.S.Source.left c.args.input.now) (g.S.Source.left c.read_framed.new.source) (g.S.Counted.faults c.args.input.now) (g.S.Counted.faults c.read_framed.new.source)
    _ c.in_ok-read_framed.ensures.found c.cut-in-TooLong.result c.in-TooLong.is c.cut-in-TooLong.ensures

pub returns-in-Ok-clause-stands : goal.returns-in-Ok-clause-stands
returns-in-Ok-clause-stands g c =
    let P : Framed → Type 0 = λ next. IfTold (g.S.Source.left c.args.input.now) (g.S.Source.left c.read_framed.new.source) (λ bytes rest. StandsFirst UPDATE_LIMIT bytes rest next) in
    subst (λ (w : List ℕ). IfTold (g.S.Source.left c.args.input.now) (g.S.Source.left c.read_framed.new.source) (λ bytes rest. HoldsPiece UPDATE_LIMIT bytes w rest)) (sym c.in-Ok.ensures.same)
    (subst P c.in-Whole.is c.in_ok-read_framed.ensures.found)

pub returns-in-Err-clause-stopped : goal.returns-in-Err-clause-stopped
returns-in-Err-clause-stopped g c =
    let b = g.S.Source.left c.args.input.now in
    let a = g.S.Source.left c.read_framed.new.source in
    let old = g.S.Counted.faults c.args.input.now in
    let new = g.S.Counted.faults c.read_framed.new.source in
    let P : Framed → Type 0 = λ next. IfTold b a (λ bytes rest. StandsFirst UPDATE_LIMIT bytes rest next) in
    subst (λ (w : Refusal). StopsReading c.args.rule.now c.args.number b a old new w) (sym c.not_checked.ensures)
    (reads_unchecked c.args.rule.now c.args.number b a old new c.in-Whole.bytes.items c.in-Err.error (subst P c.in-Whole.is c.in_ok-read_framed.ensures.found) c.in-Err.ensures.fault)
