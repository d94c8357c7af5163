-- What a session has that its holder has not.
use Rattle.std.specs.Prelude.{◌≡◌, ℕ, ◌||◌, Bool, true, List, [], ◌∷◌, ◌++◌, map}
use Rattle.std.specs.BTreeMap.{BTreeMap, keys}
use Rattle.update_codec.specs.Parts.{entry_of}
use Rattle.update_model.specs.declared.update_id.UpdateId.{UpdateId}
use Rattle.update_model.specs.Entry.{Entry}
use Rattle.update_model.specs.Graph.{has, holds, is_within, byte_count}

-- the updates that wait since a commit, and those that were gathered since, each as its bytes
pub record PendingData : Type 0 where
  pub waiting : List (List ℕ)
  pub gathered : List (List ℕ)

-- neither
abbrev pub nothing : PendingData
nothing = record { waiting = []; gathered = [] }

-- as members, in the order in which they are committed
abbrev pub entries_in : PendingData → List Entry
entries_in p = map entry_of p.waiting ++ map entry_of p.gathered

-- They are found by id, their bytes are counted, and they are within the limits.
pub record IsIndexed (waiting gathered : List (List ℕ)) (ids : BTreeMap UpdateId ℕ) (bytes : ℕ) : Type 0 where
  pub indexed : (id : UpdateId) → has (keys ids) id ≡ (holds (map entry_of gathered) id || holds (map entry_of waiting) id)
  pub counted : bytes ≡ byte_count (map entry_of waiting ++ map entry_of gathered)
  pub within : is_within (map entry_of waiting ++ map entry_of gathered) ≡ true

-- whether the update may be gathered too
abbrev pub has_room_for : PendingData → List ℕ → Bool
has_room_for p update = is_within (map entry_of p.waiting ++ (map entry_of p.gathered ++ entry_of update ∷ []))
