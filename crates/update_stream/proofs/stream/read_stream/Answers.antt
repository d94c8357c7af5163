use Rattle.std.proofs.Common.{◌≡◌, ℕ, List, Option, Some, None, IfNone, ◌+◌, sym, subst, arith}
use Rattle.std.proofs.lemmas.Result.{err_from_is_err_and}
use Rattle.bec_bytes.specs.Framed.{StandsFirst}
use Rattle.bec_bytes.specs.Moved.{IfTold}
use Rattle.bec_bytes.specs.declared.framed.Framed.{Framed}
use Rattle.update_model.specs.Rule.{RuleData}
use Rattle.update_codec.specs.declared.codec_fault.CodecKind.TheVariants as kinds
use Rattle.update_codec.specs.declared.limits.TheConstants.{UPDATE_LIMIT}
use Rattle.update_check.specs.declared.check_error.CheckFault.TheVariants.{Codec}
use Rattle.update_stream.specs.declared.record_fault.RecordFault.{RecordFault}
use Rattle.update_stream.specs.declared.record_fault.RecordFault.TheVariants.{Check}
use Rattle.update_stream.specs.Steps.{Takes, rule_for, set_after}
use Rattle.update_stream.specs.Stream.{IsRefused}
use Rattle.update_stream.proofs.HasRead.{HasRead, HasRead-none, HasRead-more, told_short, told_long, told_fault, left_record, left_behind}
use Rattle.update_stream.proofs.stream.read_stream.Goals.{in-Cut, in-TooLong, in-Whole+in_ok-fault-in-Whole}
use Rattle.update_stream.proofs.stream.read_stream.Goals as goal

pub loop-number-init : goal.loop-number-init
loop-number-init g c =
    let source = g.S.Source.left c.args.input.now in
    let P : List (List ℕ) → Type 0 = λ members. HasRead c.args.rule.now None source source members 0 in
    record { later = omega arith; read = subst P (sym c.new-graph.ensures) (HasRead-none c.args.rule.now source) }

pub returns-in_err-read_framed-clause-left : goal.returns-in_err-read_framed-clause-left
returns-in_err-read_framed-clause-left g c =
    let failed = err_from_is_err_and c.from_residual.result c.from_residual.ensures.1 in
    rw failed.1 (left_record c.args.rule.now c.loop-number.set _ _ _ c.loop-number.graph c.loop-number.number c.in_err-read_framed.field-0.0 failed.0 c.loop-number.invariant.read c.loop-number-test.true c.in_err-read_framed.ensures.left)

pub returns-in_err-fault-in-Whole-clause-left : goal.returns-in_err-fault-in-Whole-clause-left
returns-in_err-fault-in-Whole-clause-left g c =
    let failed = err_from_is_err_and c.from_residual-in_err-fault-in-Whole.result c.from_residual-in_err-fault-in-Whole.ensures.1 in
    let P : Framed → Type 0 = λ next. IfTold (g.S.Source.left c.loop-number.input) (g.S.Source.left c.read_framed.new.source) (λ bytes rest. StandsFirst UPDATE_LIMIT bytes rest next) in
    rw failed.1 (left_behind c.args.rule.now c.loop-number.set _ _ _ c.loop-number.graph c.loop-number.number failed.0 c.in-Whole.bytes.items c.loop-number.invariant.read c.loop-number-test.true (subst P c.in-Whole.is c.in_ok-read_framed.ensures.found))

pub returns-in-Some-clause-told : goal.returns-in-Some-clause-told
returns-in-Some-clause-told g c =
    let P : Framed → Type 0 = λ next. IfTold (g.S.Source.left c.loop-number.input) (g.S.Source.left c.read_framed.new.source) (λ bytes rest. StandsFirst UPDATE_LIMIT bytes rest next) in
    let Q : RecordFault → Type 0 = λ fault. IfTold (g.S.Source.left c.args.input.now) (g.S.Source.left c.read_framed.new.source) (λ input rest. IsRefused c.args.rule.now input rest (c.loop-number.number + 1) fault) in
    let read = c.loop-number.invariant.read in
    let few = c.loop-number-test.true in
    elim c.match-branch-2.branch [
      | in-Cut w ↦
          let is : Check (Codec (record { kind = kinds.Short; place = w.in-Cut.came })) ≡ c.in-Some.fault = (let a = w.cut.ensures in let b = w.fault-is in let d = c.in-Some.is in cc) in
          subst Q is (told_short c.args.rule.now c.loop-number.set _ _ _ c.loop-number.graph c.loop-number.number w.in-Cut.came read few (subst P w.in-Cut.is c.in_ok-read_framed.ensures.found))
      | in-TooLong w ↦
          let is : Check (Codec (record { kind = kinds.TooLong; place = UPDATE_LIMIT })) ≡ c.in-Some.fault = (let a = w.cut-in-TooLong.ensures in let b = w.fault-is in let d = c.in-Some.is in cc) in
          subst Q is (told_long c.args.rule.now c.loop-number.set _ _ _ c.loop-number.graph c.loop-number.number read few (subst P w.in-TooLong.is c.in_ok-read_framed.ensures.found))
      | in-Whole+in_ok-fault-in-Whole w ↦
          let R : Option RecordFault → Type 0 = λ fault. Takes (rule_for c.args.rule.now c.loop-number.set w.in-Whole.bytes.items) c.loop-number.graph w.in-Whole.bytes.items w.take_record.new.graph fault in
          let is : w.in_ok-fault-in-Whole.fault ≡ Some c.in-Some.fault = (let b = w.fault-is in let d = c.in-Some.is in cc) in
          told_fault c.args.rule.now c.loop-number.set _ _ _ c.loop-number.graph w.take_record.new.graph c.loop-number.number w.in-Whole.bytes.items c.in-Some.fault read few
          (subst P w.in-Whole.is c.in_ok-read_framed.ensures.found) (subst R is w.in_ok-fault-in-Whole.ensures.ok)
    ]

pub loop-number-preserved : goal.loop-number-preserved
loop-number-preserved g c =
    let P : Framed → Type 0 = λ next. IfTold (g.S.Source.left c.loop-number.input) (g.S.Source.left c.read_framed.new.source) (λ bytes rest. StandsFirst UPDATE_LIMIT bytes rest next) in
    let before = g.S.Source.left c.args.input.now in
    let later = g.S.Source.left c.read_framed.new.source in
    record {
      later = omega (arith, c.loop-number.invariant.later, c.in_ok-read_framed.ensures.later);
      read = elim c.match-branch-2.branch [
        | in-Cut w ↦ absurd (let a = w.fault-is in let b = c.in_default.is in cc)
        | in-TooLong w ↦ absurd (let a = w.fault-is in let b = c.in_default.is in cc)
        | in-Whole+in_ok-fault-in-Whole w ↦
            let R : Option RecordFault → Type 0 = λ fault. Takes (rule_for c.args.rule.now c.loop-number.set w.in-Whole.bytes.items) c.loop-number.graph w.in-Whole.bytes.items w.take_record.new.graph fault in
            let Q : Option RecordFault → Type 0 = λ fault. IfNone fault (w.take_record.new.set ≡ set_after c.args.rule.now c.loop-number.set w.in-Whole.bytes.items) in
            let none : w.in_ok-fault-in-Whole.fault ≡ None = (let a = w.fault-is in let b = c.in_default.is in cc) in
            let S : Option RuleData → Type 0 = λ set. HasRead c.args.rule.now set before later c.match-branch-2.graph (c.loop-number.number + 1) in
            let T : List (List ℕ) → Type 0 = λ members. HasRead c.args.rule.now w.take_record.new.set before later members (c.loop-number.number + 1) in
            subst S (sym w.set-is) (subst T (sym w.graph-is) (HasRead-more c.args.rule.now c.loop-number.set w.take_record.new.set before _ later c.loop-number.graph w.take_record.new.graph c.loop-number.number w.in-Whole.bytes.items
            c.loop-number.invariant.read c.loop-number-test.true (subst P w.in-Whole.is c.in_ok-read_framed.ensures.found) (subst R none w.in_ok-fault-in-Whole.ensures.ok) (subst Q none w.in_ok-fault-in-Whole.ensures.set)))
      ];
    }
