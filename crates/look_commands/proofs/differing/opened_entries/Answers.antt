use Rattle.look_commands.proofs.differing.opened_entries.Goals as goal

pub returns-clause-entries : goal.returns-clause-entries
returns-clause-entries g c = rw (c.members_of.ensures.schema, c.members_of.ensures.graph) at c.entries_in.ensures
