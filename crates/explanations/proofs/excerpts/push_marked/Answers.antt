use Rattle.std.proofs.Common.{◌≡◌, ◌++◌, rules}
use Rattle.explanations.specs.Explained.{habit_rows}
use Rattle.explanations.specs.Shown.{shown}
use Rattle.explanations.specs.Values.{value_of}
use Rattle.explanations.proofs.Told.{marked_from}
use Rattle.explanations.proofs.excerpts.push_marked.Goals as goal

pub returns : goal.returns
returns c =
    let values = c.args.values.now in
    let value = value_of values.marks values.help.now values.directory.now values.other.now in
    let is_middle : c.push_shown.new.out.items ≡ c.args.out.now.items ++ shown c.args.number c.args.line.now values.marks.column = search rules in
    let is_new : c.push_habit.new.out.items ≡ c.push_shown.new.out.items ++ habit_rows value c.habit_of.result.now = search rules in
    marked_from value values.marks.column c.args.number c.args.line.now c.args.out.now.items c.push_shown.new.out.items c.push_habit.new.out.items c.habit_of.result.now is_middle c.habit_of.ensures is_new
