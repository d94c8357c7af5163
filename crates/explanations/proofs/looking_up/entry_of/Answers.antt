use Rattle.std.proofs.Common.{◌≡◌, ◌∙◌, [], ◌∷◌, sym, rules}
use Rattle.text_words.specs.Lines.{lines_of}
use Rattle.explanations.proofs.Tables.{no_entry, key_alone}
use Rattle.explanations.proofs.looking_up.entry_of.Goals as goal

pub returns-in_err-text : goal.returns-in_err-text
returns-in_err-text c =
    let none : c.in-Some.after.now ≡ [] = search rules in
    let first : lines_of c.loop-key.rest.now ≡ c.in-Some.key.now ∷ lines_of c.in-Some.after.now = search rules in
    let gone = sym (key_alone c.loop-key.rest.now c.args.said.now c.in-Some.key.now c.in-Some.after.now first none) ∙ c.loop-key.invariant in
    search rules

pub returns : goal.returns
returns c =
    let none : c.loop-key.rest.now ≡ [] = search rules in
    sym (no_entry c.loop-key.rest.now c.args.said.now none) ∙ c.loop-key.invariant
