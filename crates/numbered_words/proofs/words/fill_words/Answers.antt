use Rattle.std.proofs.Common.{◌≡◌, ◌*◌, ◌%◌, ◌/◌, rules, length, refl, ◌∙◌, ap, take, arith, w64}
use Rattle.std.specs.Int.{to_be_bytes}
use Rattle.rand_core.specs.Steps.{word_bytes}
use Rattle.rand_core.proofs.StepsLemmas.{word_written, filled_whole, filled_over}
use Rattle.numbered_words.proofs.words.fill_words.Goals as goal

pub words-init : goal.words-init
unfolding word_bytes
words-init c = refl

pub words-preserved : goal.words-preserved
words-preserved c =
    let wrote = c.copy_from_slice.ensures.after ∙ c.to_be_bytes.ensures in
    let len : length c.copy_from_slice.new.self ≡ 8 = rw wrote refl in
    word_written (to_be_bytes w64) _ c.words.i (8 * c.words.i) _ _ _ _ _ c.words.dst c.copy_from_slice.new.self _
    c.words.invariant c.word-word.ensures wrote (omega arith) (omega arith)

pub returns-then-over-gt0 : goal.returns-then-over-gt0
returns-then-over-gt0 c =
    let done : c.words.i ≡ length c.args.dst.now / 8 = omega arith in
    let copy = c.copy_from_slice-then-over-gt0 in
    let over = length c.words.dst % 8 in
    filled_over (to_be_bytes w64) _ _ _ _ _ over _ _ _ _ c.words.dst copy.new.self _
    (rw done at c.words.invariant) c.word.ensures (copy.ensures.after ∙ ap (take over) c.to_be_bytes-last.ensures)
    (omega arith) (search rules) (omega arith) (omega arith)

pub returns-else-over-gt0 : goal.returns-else-over-gt0
returns-else-over-gt0 c =
    filled_whole (to_be_bytes w64) _ c.words.i _ (8 * c.words.i) _ _ _ c.words.dst c.words.invariant
    (omega arith) (omega arith) (omega arith)
