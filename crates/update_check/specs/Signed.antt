-- Updates that their authors signed, and which of them a database takes.
use Rattle.std.specs.Prelude.{◌≡◌, ℕ, List}
use Rattle.update_model.specs.Form.{BodyData, UpdateData}
use Rattle.update_model.specs.Node.{NodeData}
use Rattle.update_model.specs.Rule.{RuleData, IsListed}
use Rattle.update_codec.specs.Parts.{id_of, author_of, preds_of, ops_of}
use Rattle.update_codec.specs.Spelling.{Spells, message}
use Rattle.lms_tree.specs.Signature.{Signed}

-- The bytes spell this update, whose author signed its message.
pub record SpellsSigned (bytes : List ℕ) (update : UpdateData) : Type 0 where
  pub spells : Spells bytes update
  pub signed : Signed update.body.author (message update.body) update.signature

-- The bytes spell an update that its author signed.
abbrev pub IsSigned : List ℕ → Type 0
IsSigned bytes = (update : UpdateData) × SpellsSigned bytes update

-- The body is of the rule's database, and its author is listed.
pub record IsUnder (rule : RuleData) (body : BodyData) : Type 0 where
  pub database : body.database ≡ rule.database
  pub author : IsListed rule.authors body.author

-- The bytes spell an update that its author signed, and that is under the rule.
abbrev pub IsChecked : RuleData → List ℕ → Type 0
IsChecked rule bytes = (update : UpdateData) × SpellsSigned bytes update × IsUnder rule update.body

-- what tables see of the update that the bytes spell
abbrev pub node_of : List ℕ → NodeData
node_of bytes = record { id = id_of bytes; preds = preds_of bytes; author = author_of bytes; ops = ops_of bytes }
