-- What making an empty store of a text answers, and what it leaves.
use Rattle.std.specs.Prelude.{◌≡◌, ℕ, ◌≤◌, List, [], Some}
use Rattle.rand_core.specs.Stream.{Stream}
use Rattle.bec_disk.specs.Shelf.{ShelfState}
use Rattle.confluence_test.specs.Taking.{TakesSchema}
use Rattle.node_commands.specs.Creating.{Inits}
use Rattle.outcomes.specs.Outcome.{Outcome}
use Rattle.outcomes.specs.Outside.{Outside}
use Rattle.row_check.specs.Checksum.{is_luhn}
use Rattle.schema.specs.Data.{SchemaData}

-- A text declares this schema, each of whose invariants survives merging, and this is the id of its database.
pub record IsTextOf (schema : SchemaData) (database text : List ℕ) : Type 0 where
  pub taken : TakesSchema is_luhn text schema
  pub id : database ≡ schema.rule.database

-- what stands outside where these bytes are what is read
abbrev pub with_text : List ℕ → ShelfState → ℕ → Stream → Outside (List ℕ) ShelfState Stream
with_text text shelf faults stream =
    record { source = text; left = Some text; source_faults = 0; shelf = shelf; store = shelf; shelf_faults = faults; random = stream; stream = stream }

-- A store was made of a text as `init` makes one of what it reads, or it was refused as there.
pub record MakesEmpty (text dir : List ℕ) (stream stream_new : Stream) (before after : ShelfState) (old new : ℕ) (outcome : Outcome) : Type 0 where
  pub inits : Inits dir (with_text text before old stream) (with_text [] after new stream_new) outcome
  pub tells : after.tells ≡ before.tells
  pub later : old ≤ new
