use Rattle.std.proofs.Common.{sym, ◌∙◌}
use Rattle.update_codec.proofs.Places.{signature_read}
use Rattle.update_codec.proofs.spelled_update.Spelled.signature.Goals as goal

pub returns : goal.returns
returns c =
    signature_read c.deref.result.now c.args.self.now c.author.result.now c.len.result c.signature_len-len.result
    (c.deref.ensures.value ∙ c.self.view_is) (c.len.ensures ∙ sym c.deref.ensures.len) c.signature_len-len.ensures c.author.ensures.value
