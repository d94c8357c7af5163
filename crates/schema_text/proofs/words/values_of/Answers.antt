use Rattle.std.proofs.Common.{◌≡◌, ◌+◌, ◌<◌, List, length, drop, Some, sym, ◌∙◌, subst, arith}
use Rattle.schema_text.specs.declared.form.SampleValue.{SampleValue}
use Rattle.schema_text.specs.Forms.{value_in, values_of}
use Rattle.schema_text.proofs.SampleRows.{with_front, values_next}
use Rattle.schema_text.proofs.words.values_of.Goals as goal

pub loop-word-preserved : goal.loop-word-preserved
loop-word-preserved c =
    let words = c.args.words.now in
    let i = c.loop-word.word-index in
    let low : c.loop-word.word-index < length c.args.words.now = omega arith in
    let known : value_in c.word-item.result ≡ Some c.in-Some.value = sym c.in_ok-value.ensures ∙ c.in-Some.is in
    subst (λ (values : List SampleValue). values_of words ≡ with_front values (values_of (drop (i + 1) words))) (sym c.in_ok-push-in-Some.ensures.items)
    (values_next words i c.word-item.result c.loop-word.values.items c.in-Some.value low c.word-item.is known c.loop-word.invariant)
