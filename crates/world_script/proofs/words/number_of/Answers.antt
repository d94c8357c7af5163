use Rattle.std.proofs.Common.{sym, ◌∙◌, ap, true, ◌≡◌}
use Rattle.world_script.specs.Words.{is_number_form, number_of}
use Rattle.world_script.proofs.Numbers.{is_text, parsed}
use Rattle.world_script.proofs.words.number_of.Goals as goal

pub returns-in-Ok : goal.returns-in-Ok
returns-in-Ok c =
    let word = c.in-Ok.digits.now in
    let same : word ≡ c.args.word.now = c.in-Ok.ensures.cases.0 in
    let form : is_number_form word ≡ true = ap is_number_form same ∙ (sym c.is_number_form.ensures ∙ c.if-not-is_number_form.false) in
    c.ok.ensures.value ∙ (parsed word c.parse.result form c.parse.ensures.value.0 ∙ ap number_of same)

pub returns-in-Err : goal.returns-in-Err
returns-in-Err c = absurd (c.in-Err.ensures.cases.0 (is_text c.args.word.now (sym c.is_number_form.ensures ∙ c.if-not-is_number_form.false)))
