-- What a graph keeps beside its members.
use Rattle.std.specs.Prelude.{◌≡◌, ℕ, true, List}
use Rattle.std.specs.BTreeMap.{get, BTreeMap}
use Rattle.update_model.specs.declared.update_id.UpdateId.{UpdateId}
use Rattle.update_model.specs.Entry.{Entry, id_cmp}
use Rattle.update_model.specs.Graph.{IsClosed, is_within, byte_count, position_of}

-- The members are a closed list within the limits, the index has each one's position, and the count is that of
-- their bytes.
pub record IsKept (members : List Entry) (index : BTreeMap UpdateId ℕ) (bytes : ℕ) : Type 0 where
  pub closed : IsClosed members
  pub within : is_within members ≡ true
  pub indexed : (id : UpdateId) → get id_cmp index id ≡ position_of members id
  pub counted : bytes ≡ byte_count members
