-- What putting updates into a directory comes to, by what its parts read as before and after.
use Rattle.std.specs.Prelude.{◌≡◌, ◌⊎◌, ℕ, true, List, [], ◌∷◌, ◌++◌, IsTrue, Err}
use Rattle.rand_core.specs.Stream.{Stream}
use Rattle.bec_bytes.specs.Causes.{Rose}
use Rattle.bec_disk.specs.declared.part.Part.TheVariants.{Schema, Updates}
use Rattle.bec_disk.specs.Shelf.{ShelfState}
use Rattle.confluence_test.specs.Taking.{TakesSchema}
use Rattle.key_directory.specs.Parts.{IsHome, KeepsAllBut, part_in}
use Rattle.outcomes.specs.declared.refusal.Refusal.TheVariants.{BadStore, StoreFault}
use Rattle.outcomes.specs.Comes.{IsShelfFault, is_done, readings}
use Rattle.outcomes.specs.Outcome.{Outcome}
use Rattle.outcomes.specs.Parts.{HasSchema, LeavesOldOrNew}
use Rattle.outcomes.specs.StoreAnswers.{HasStore, Readings, after_bytes, next_bytes}
use Rattle.outcomes.specs.Texts.{database_text}
use Rattle.row_check.specs.Checksum.{is_luhn}
use Rattle.schema.specs.Data.{SchemaData}
use Rattle.store_directory.specs.Stores.{IsBadStore, IsNoStore, StoreData, StoreRun, with_added}
use Rattle.import_commands.specs.Taking.{ContentsData, StoreAnswer}

-- the store that is made of a schema: the generator's next bytes are the id of its node, and it has no updates
abbrev pub made_store : Stream → SchemaData → StoreData
made_store stream schema = record { node = next_bytes stream; schema = schema; members = [] }

-- What is answered by what the parts read as before and after: the store is bad; or it is answered over the store that is there; or, where there is
-- none, over the one that is made, whose database is printed first, and which the directory has in the end where that is done.
pub data PutAnswer (contents : ContentsData) (stream : Stream) (parts later : Readings) (added : List (List ℕ)) (outcome : Outcome) : Type 0 where
  bad_store : IsBadStore is_luhn parts.schema parts.updates → added ≡ [] → outcome ≡ Err BadStore → PutAnswer contents stream parts later added outcome
  into_store : (store : StoreData) → HasStore parts store → StoreAnswer contents [] store added outcome → PutAnswer contents stream parts later added outcome
  into_new : (schema : SchemaData) → IsNoStore parts.schema → TakesSchema is_luhn contents.text schema
      → StoreAnswer contents (database_text schema.rule.database) (made_store stream schema) added outcome
      → (is_done outcome ≡ true → HasStore later (with_added (made_store stream schema) added)) → PutAnswer contents stream parts later added outcome

-- What is told of putting updates into a directory, where their text is that of a schema. Where the shelf tells what it has, the outcome is the answer to what
-- the parts read as, or a fault came in its place; and the shelf fails only where its count of faults rose. Where there is a store, what was done to its list
-- is a run over it, and no random bytes are drawn. A crash at any moment leaves the part Schema standing for what it stood for, or absent, or whole with
-- the next random bytes and the text. No part but those of the store is touched, and every part is put back.
pub record IsToldOfPut (contents : ContentsData) (dir : List ℕ) (stream stream_new : Stream) (before after : ShelfState) (old new : ℕ) (outcome : Outcome) : Type 0 where
  pub added : List (List ℕ)
  pub comes : (IsTrue before.tells → PutAnswer contents stream (readings before dir) (readings after dir) added outcome) ⊎ IsShelfFault old new outcome
  pub failed : outcome ≡ Err StoreFault → Rose old new
  pub run : IsTrue before.tells → HasSchema (readings before dir) → StoreRun is_luhn before after dir added (is_done outcome)
  pub any_moment : IsTrue before.tells → LeavesOldOrNew (next_bytes stream ++ contents.text) (part_in before dir Schema) (part_in after dir Schema)
  pub draws : (stream_new ≡ stream) ⊎ (stream_new ≡ after_bytes stream)
  pub undrawn : IsTrue before.tells → HasSchema (readings before dir) → stream_new ≡ stream
  pub others : IsTrue before.tells → KeepsAllBut (Schema ∷ Updates ∷ []) dir before after
  pub home : IsTrue before.tells → IsHome after
