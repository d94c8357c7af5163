use Rattle.std.proofs.Common.{sym, ◌∙◌}
use Rattle.update_codec.proofs.Places.{message_read, kept_parts}
use Rattle.update_codec.proofs.spelled_update.Spelled.message.Goals as goal

pub returns-clause-value : goal.returns-clause-value
returns-clause-value c =
    message_read c.deref.result.now c.args.self.now c.author.result.now c.len.result c.signature_len-len.result
    (c.deref.ensures.value ∙ c.self.view_is) (c.len.ensures ∙ sym c.deref.ensures.len) c.signature_len-len.ensures c.author.ensures.value c.author.ensures.spells

pub returns-clause-parts : goal.returns-clause-parts
returns-clause-parts c = kept_parts c.args.self.now _ c.author.ensures.spells (returns-clause-value c)
