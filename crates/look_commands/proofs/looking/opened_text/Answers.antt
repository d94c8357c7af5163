use Rattle.look_commands.proofs.looking.opened_text.Goals as goal

pub returns-clause-shows : goal.returns-clause-shows
returns-clause-shows g c = rw (c.members_of.ensures.schema, c.members_of.ensures.graph) at c.shown.ensures
