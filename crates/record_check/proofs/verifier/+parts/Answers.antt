use Rattle.std.proofs.lemmas.Result.{IfOk-at_ok}
use Rattle.record_check.specs.Records.{AreAnswers, bytes_of}
use Rattle.record_check.proofs.Records.{answers_joined}
use Rattle.record_check.proofs.verifier.+parts.Goals as goal

pub returns : goal.returns
returns g t c =
    let cut = c.in_ok-back.ensures in
    answers_joined c.args.rule.now c.args.records.items c.split_off.new.self.items c.in_ok-back.back.items _ c.in_ok-answers.answers.items c.in_ok-behind.field-0.items c.append.new.self.items cut.items cut.tail
    (IfOk-at_ok (λ v. AreAnswers c.args.rule.now (bytes_of c.split_off.new.self.items) v.items) c.in_ok-answers.was c.join-front.ensures.first)
    (IfOk-at_ok (λ v. AreAnswers c.args.rule.now (bytes_of c.in_ok-back.back.items) v.items) c.in_ok-behind.was c.join-front.ensures.second) c.in_ok-append.ensures.items
