use Rattle.std.proofs.Common.{◌≡◌, ◌∙◌, [], ◌∷◌, true, ap, sym, rules}
use Rattle.std.specs.Prelude.{bytes_eq}
use Rattle.explanations.specs.Parts.{parts_of, has_word, stands_among}
use Rattle.explanations.proofs.FirstPart.{word_first}
use Rattle.explanations.proofs.words.is_among.Goals as goal

pub returns-then-eq : goal.returns-then-eq
unfolding stands_among
returns-then-eq c =
    let same : bytes_eq c.in-Some.other.now c.args.word.now ≡ true = search rules in
    let first : parts_of 32 c.loop-other.rest.now ≡ c.in-Some.other.now ∷ parts_of 32 c.in-Some.after.now = search rules in
    sym (word_first c.args.word.now c.in-Some.other.now _ _ first same) ∙ c.loop-other.invariant

pub returns : goal.returns
unfolding stands_among
returns c =
    let none : parts_of 32 c.loop-other.rest.now ≡ [] = search rules in
    sym (ap (has_word c.args.word.now) none) ∙ c.loop-other.invariant
