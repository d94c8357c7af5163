-- What is kept beside the bytes of a spelling.
use Rattle.std.specs.Prelude.{◌≡◌, ℕ, List}
use Rattle.update_model.specs.declared.update_id.UpdateId.{UpdateId}
use Rattle.update_model.specs.Form.{BodyData}
use Rattle.update_codec.specs.declared.header.Header.{Header}
use Rattle.update_codec.specs.Spelling.{Spells}
use Rattle.update_codec.specs.Parts.{body_of, update_of, id_of}

-- a body without its operations
abbrev pub header_from : BodyData → Header
header_from body = record { database = body.database; author = body.author; preds = body.preds; note = body.note }

-- The bytes spell an update, and the header and the id are this update's.
pub record IsKept (bytes : List ℕ) (header : Header) (id : UpdateId) : Type 0 where
  pub spells : Spells bytes (update_of bytes)
  pub same_header : header ≡ header_from (body_of bytes)
  pub same_id : id ≡ id_of bytes
