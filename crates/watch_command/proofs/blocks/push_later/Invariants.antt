use Rattle.std.proofs.Common.{◌≡◌, ◌++◌, take}
use Rattle.table_text.specs.declared.name_style.NameStyle.TheVariants.{Full}
use Rattle.table_text.specs.Values.{value_text}
use Rattle.query_answer.specs.Lines.{each_after}
use Rattle.watch_command.proofs.blocks.push_later.Given as goal

-- the values so far
abbrev pub invariant-loop-value : goal.invariant-loop-value
invariant-loop-value l = l.out.items ≡ l.fn.out.items ++ each_after 9 (value_text Full) (take l.value-index l.values)
