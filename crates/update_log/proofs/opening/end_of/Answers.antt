use Rattle.std.proofs.Common.{arith}
use Rattle.std.proofs.lemmas.List.{length-map}
use Rattle.update_codec.specs.Parts.{entry_of}
use Rattle.update_log.proofs.Gathering.{length-stream_of}
use Rattle.update_log.proofs.opening.end_of.Goals as goal

pub returns : goal.returns
returns c = omega (arith, c.len.ensures.value, c.byte_len.ensures.value, length-stream_of c.args.graph.now, length-map c.args.graph.now entry_of)
