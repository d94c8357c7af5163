use Rattle.std.proofs.Common.{◌+◌, ◌<◌, length, arith}
use Rattle.schema_text.specs.Printing.{token_text}
use Rattle.query_printing.proofs.Blanks.{first_texts, next_text, pushed}
use Rattle.query_printing.proofs.printing.push_others.Goals as goal

pub loop-word-preserved : goal.loop-word-preserved
loop-word-preserved c =
    let words = c.args.words.now in
    let i = c.loop-word.word-index in
    let word = c.word-item.result in
    let below : c.loop-word.word-index < length c.args.words.now = omega arith in
    pushed c.args.out.now.items c.loop-word.out.items c.push.new.self.items c.push_word.new.out.items (first_texts i words) (first_texts (i + 1) words) (token_text word)
    c.loop-word.invariant c.in_ok-push.ensures.items c.in_ok-push_word.ensures (next_text words i word word below c.word-item.is)
