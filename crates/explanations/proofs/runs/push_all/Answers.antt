use Rattle.std.proofs.Common.{◌≡◌, [], ◌++◌, rules}
use Rattle.explanations.specs.Explained.{explained, setting_of}
use Rattle.explanations.proofs.Told.{all_told, last_told}
use Rattle.explanations.proofs.runs.push_all.Goals as goal

pub returns-then-told : goal.returns-then-told
returns-then-told c =
    let none : c.loop-line.rest.now ≡ [] = search rules in
    all_told c.loop-line.told (setting_of c.args.asked.now) c.loop-line.rest.now c.loop-line.out.items _ none c.if-told.true c.loop-line.invariant

pub returns : goal.returns
returns c =
    let none : c.loop-line.rest.now ≡ [] = search rules in
    let last : c.push_explained-2.new.out.items ≡ c.loop-line.out.items ++ explained [] (setting_of c.args.asked.now) = search rules in
    last_told c.loop-line.told (setting_of c.args.asked.now) c.loop-line.rest.now c.loop-line.out.items c.push_explained-2.new.out.items _ none c.if-told.false last c.loop-line.invariant
