use Rattle.look_commands.proofs.differing.bundle_entries.Goals as goal

pub returns-clause-listed : goal.returns-clause-listed
returns-clause-listed g c =
    (c.in_ok-bundle.bundle.schema, c.in_ok-bundle.bundle.graph, c.in_ok-bundle.ensures.held, rw (c.members.ensures.schema, c.members.ensures.graph) at c.in_ok-entries_in.ensures)
