use Rattle.std.proofs.Common.{◌≡◌, ◌∙◌, ◌++◌, ap, rules}
use Rattle.std.specs.Prelude.{codes}
use Rattle.explanations.specs.Table.{entry_of, or_entry}
use Rattle.explanations.proofs.looking_up.entry_for.Goals as goal

pub returns : goal.returns
returns c =
    let own : c.as_slice.result.now ≡ (c.args.command.now ++ codes ": ") ++ c.args.said.now = search rules in
    c.entry_of-in-None.ensures ∙ ap (λ entry. or_entry entry (entry_of c.args.table.now c.args.said.now)) (c.in-None.ensures ∙ ap (entry_of c.args.table.now) own)
