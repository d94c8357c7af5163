use Rattle.std.proofs.Common.{sym, arith}
use Rattle.std.proofs.lemmas.Bool.Decides.{nat_tests}
use Rattle.text_words.specs.Words.{words_of}
use Rattle.text_words.proofs.WordsLemmas.{words_more, words_bad, words_done, words_start, word_shorter}
use Rattle.text_words.proofs.splitting.words.Goals as goal

pub loop-rest-init : goal.loop-rest-init
loop-rest-init c = rw (c.new-words.ensures.items, c.skip_blanks-rest.ensures) (words_start c.args.style c.args.line.now)

pub returns-in_default : goal.returns-in_default
returns-in_default c =
    words_bad c.args.style c.loop-rest.words.items c.loop-rest.rest.now (words_of c.args.style c.args.line.now) (grind (arith, nat_tests, c.is_empty.ensures, c.loop-rest-test.true)) (sym (rw c.in_default.is at c.in_ok-word.ensures)) c.loop-rest.invariant

pub loop-rest-smaller : goal.loop-rest-smaller
loop-rest-smaller c =
    rw c.skip_blanks-rest-in-loop-rest.ensures (word_shorter c.args.style c.loop-rest.rest.now c.in-Some.after.now c.in-Some.word (sym (rw c.in-Some.is at c.in_ok-word.ensures)))

pub loop-rest-preserved : goal.loop-rest-preserved
loop-rest-preserved c =
    rw (c.in_ok-push.ensures.items, c.skip_blanks-rest-in-loop-rest.ensures)
    (words_more c.args.style c.loop-rest.words.items c.loop-rest.rest.now c.in-Some.after.now c.in-Some.word (words_of c.args.style c.args.line.now) (grind (arith, nat_tests, c.is_empty.ensures, c.loop-rest-test.true)) (sym (rw c.in-Some.is at c.in_ok-word.ensures)) c.loop-rest.invariant)

pub returns : goal.returns
returns c =
    words_done c.args.style c.loop-rest.words.items c.loop-rest.rest.now (words_of c.args.style c.args.line.now) (grind (arith, nat_tests, c.is_empty.ensures, c.loop-rest-test.false)) c.loop-rest.invariant
