use Rattle.bec_bytes.proofs.Pieces.{given_front}
use Rattle.bec_bytes.proofs.plain_source.PlainSourceSource.take.Goals as goal

pub returns-clause-bytes : goal.returns-clause-bytes
returns-clause-bytes c =
    given_front c.args.self.now c.self.inside.bytes.items c.deref.result.now c.copy_from_slice.new.self c.args.buf.now c.self.inside.place c.min-count.result
    c.deref.ensures.value c.self.view_is c.min-count.ensures c.copy_from_slice.ensures.after
