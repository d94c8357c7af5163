use Rattle.std.proofs.Common.{sym, ◌∙◌, ap, true, ◌≡◌}
use Rattle.text_words.specs.Integers.{is_integer_form, int_of}
use Rattle.text_words.proofs.IntegersLemmas.{is_text, parsed}
use Rattle.text_words.proofs.integers.integer_of.Goals as goal

pub returns-in-Ok : goal.returns-in-Ok
returns-in-Ok c =
    let word = c.in-Ok.digits.now in
    let same : word ≡ c.args.bytes.now = c.in-Ok.ensures.cases.0 in
    let form : is_integer_form word ≡ true = ap is_integer_form same ∙ (sym c.is_integer_form.ensures ∙ c.if-not-is_integer_form.false) in
    c.ok.ensures.value ∙ (parsed word c.parse.result form c.parse.ensures.value.0 ∙ ap int_of same)

pub returns-in-Err : goal.returns-in-Err
returns-in-Err c = absurd (c.in-Err.ensures.cases.0 (is_text c.args.bytes.now (sym c.is_integer_form.ensures ∙ c.if-not-is_integer_form.false)))
