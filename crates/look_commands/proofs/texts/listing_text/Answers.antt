use Rattle.look_commands.proofs.texts.listing_text.Goals as goal

pub returns : goal.returns
returns c = record { told = c.in_ok-told.told; is_told = c.in_ok-told.ensures; shows = c.in_ok-text.ensures }
