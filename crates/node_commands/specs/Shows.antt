-- What commands show of a store.
use Rattle.std.specs.Prelude.{◌≡◌, ℕ, List, ◌++◌, map, Bool, cond}
use Rattle.bec_bytes.specs.Framed.{framed, stream_of}
use Rattle.update_model.specs.declared.update_id.UpdateId.{UpdateId}
use Rattle.update_model.specs.Graph.{AreHeads}
use Rattle.update_codec.specs.Parts.{entry_of}
use Rattle.store_directory.specs.Stores.{StoreData}
use Rattle.node_commands.specs.Bundle.{PrintsTables}
use Rattle.node_commands.specs.Notes.{AreNoted, note_lines}
use Rattle.outcomes.specs.Texts.{printed}

-- `heads` shows the heads of its updates, rising, one per line.
abbrev pub ShowsHeads : StoreData → List ℕ → Type 0
ShowsHeads store text = (heads : List UpdateId) × AreHeads (map entry_of store.members) heads × (text ≡ printed heads)

-- `dump` shows the tables of its updates, as JSON or as lines.
abbrev pub ShowsTables : (json : Bool) → StoreData → List ℕ → Type 0
ShowsTables json store text = PrintsTables json store.schema store.members text

-- `export` shows the text of its schema behind its length, and then the records of its updates in the order of arrival; or these alone.
abbrev pub ShowsRecords : Bool → StoreData → List ℕ → Type 0
ShowsRecords updates_only store text = text ≡ cond updates_only (stream_of store.members) (framed store.schema.text ++ stream_of store.members)

-- `notes` shows the notes of its updates that are not empty, in rising order of ids, one per line.
abbrev pub ShowsNotes : StoreData → List ℕ → Type 0
ShowsNotes store text = (noted : List (List ℕ)) × AreNoted store.members noted × (text ≡ note_lines noted)
