use Rattle.sync_frames.proofs.Written.{item_written}
use Rattle.sync_frames.proofs.writing.item_header.Goals as goal

pub returns-clause-spells : goal.returns-clause-spells
returns-clause-spells c update long = item_written c.args.len c.to_be_bytes.result update c.to_be_bytes.ensures long c.requires
