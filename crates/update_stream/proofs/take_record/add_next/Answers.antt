use Rattle.std.proofs.Common.{map}
use Rattle.hash_graph.specs.Answer.{answer_of}
use Rattle.update_codec.specs.Parts.{entry_of}
use Rattle.update_stream.proofs.Taken.{adds, if_fault, lacks_memory, takes_fault}
use Rattle.update_stream.proofs.take_record.add_next.Goals as goal

pub returns-in-Ok-clause-ok : goal.returns-in-Ok-clause-ok
returns-in-Ok-clause-ok c rule checked = (checked, adds c.args.graph.now c.args.update c.add.new.self c.in-Ok._added c.in-Ok.ensures.answer c.in-Ok.ensures.list)

pub returns-in-Err-clause-ok : goal.returns-in-Err-clause-ok
returns-in-Err-clause-ok c = rw c.not_added.ensures (takes_fault c.args.graph.now c.args.update c.add.new.self c.in-Err.refused.why c.in-Err.ensures.answer)

pub returns-in-Err-clause-kept : goal.returns-in-Err-clause-kept
returns-in-Err-clause-kept c = if_fault c.not_added.result c.in-Err.ensures.list

pub returns-in-Err-clause-memory : goal.returns-in-Err-clause-memory
returns-in-Err-clause-memory c = rw c.not_added.ensures (lacks_memory c.in-Err.refused.why (answer_of (map entry_of c.args.graph.now) (entry_of c.args.update)) c.in-Err.ensures.answer)
