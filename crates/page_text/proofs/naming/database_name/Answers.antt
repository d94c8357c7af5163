use Rattle.std.proofs.Common.{◌≡◌, ◌∙◌, [], sym, rules}
use Rattle.page_text.proofs.Named.{no_name}
use Rattle.page_text.proofs.naming.database_name.Goals as goal

pub returns : goal.returns
returns c =
    let none : c.loop-line.rest.now ≡ [] = search rules in
    c.from_vec.ensures ∙ c.new.ensures.items ∙ sym (no_name c.loop-line.rest.now none) ∙ c.loop-line.invariant
