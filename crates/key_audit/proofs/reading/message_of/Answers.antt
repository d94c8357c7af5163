use Rattle.std.proofs.Common.{◌∙◌, ◌++◌, length, sym}
use Rattle.std.specs.Int.{w32, to_be_bytes}
use Rattle.update_codec.specs.Parts.{body_of}
use Rattle.update_codec.specs.Spelling.{message}
use Rattle.key_audit.proofs.Messages.{front}
use Rattle.key_audit.proofs.reading.message_of.Goals as goal

pub returns : goal.returns
returns c =
    let sig = c.signature.ensures in
    front c.bytes-bytes.result.now (message (body_of c.args.update.now)) c.signature.result.now
    (c.bytes-bytes.ensures ∙ c.author.ensures.signed.spells.spells ∙ (λ i. message (body_of c.args.update.now) ++ (to_be_bytes w32 (length (sym sig i)) ++ sym sig i)))
