use Rattle.std.proofs.Common.{sym, ◌∙◌, ap, Some, List, ℕ}
use Rattle.std.proofs.lemmas.List.{append-nil}
use Rattle.text_words.specs.Quoted.{text_at}
use Rattle.text_words.proofs.Texts.{with_front, text_more, text_ends}
use Rattle.text_words.proofs.quoting.text_of.Goals as goal

pub loop-byte-preserved : goal.loop-byte-preserved
loop-byte-preserved c =
    rw c.in_ok-push.ensures.items (text_more c.loop-byte.text.items c.loop-byte.rest.now c.in-Some.after.now c.in-Some.byte (text_at c.args.bytes.now) (sym c.in-Some.ensures) c.loop-byte.invariant)

pub returns-in_default-after_quote : goal.returns-in_default-after_quote
returns-in_default-after_quote c =
    ap (with_front c.loop-byte.text.items) c.in_default-after_quote.ensures
    ∙ text_ends c.loop-byte.text.items c.loop-byte.rest.now (text_at c.args.bytes.now) (sym c.in_default.ensures) c.loop-byte.invariant

pub returns : goal.returns
returns c =
    rw c.from_vec.ensures (ap (λ (bytes : List ℕ). Some (bytes, c.in-Some-after_quote.after.now)) (sym (append-nil c.loop-byte.text.items))
    ∙ (ap (with_front c.loop-byte.text.items) c.in-Some-after_quote.ensures
    ∙ text_ends c.loop-byte.text.items c.loop-byte.rest.now (text_at c.args.bytes.now) (sym c.in_default.ensures) c.loop-byte.invariant))
