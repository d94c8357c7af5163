-- What a replica of a world remembers, and what a call leaves of it.
use Rattle.std.specs.Prelude.{◌≤◌, ℕ, List, [], length, All, Option, Some, None}
use Rattle.std.specs.List.Sorted.{IsStrictlySortedBy}
use Rattle.session_rules.specs.declared.limits.TheConstants.{MAX_NEEDS}
use Rattle.update_model.specs.declared.update_id.UpdateId.{UpdateId}
use Rattle.update_model.specs.Entry.{id_cmp}
use Rattle.key_index.specs.KeyState.{KeyParts, KeyState}
use Rattle.replica.specs.Replicas.{ReplicaState}
use Rattle.world_rules.specs.Happens.{fresh, recalled}
use Rattle.world_rules.specs.Worlds.{SiteData}

-- the replica with this store and this key
abbrev pub with_store : SiteData → ReplicaState → KeyState → SiteData
with_store site store key = record site { store = store; key = key }

-- the replica with these heads remembered
abbrev pub with_remembered : SiteData → List (List UpdateId) → SiteData
with_remembered site remembered = record site { remembered = remembered }

-- Heads that a session can begin with: they are not too many, and rise.
pub record AreHeadsToRecall (ids : List UpdateId) : Type 0 where
  pub few : length ids ≤ MAX_NEEDS
  pub rising : IsStrictlySortedBy id_cmp ids

-- The heads that are remembered of each other replica are such.
abbrev pub AreRemembered : List (List UpdateId) → Type 0
AreRemembered remembered = All AreHeadsToRecall remembered

-- what is remembered of another replica; of a liar nothing is
abbrev pub recalled_of : SiteData → Option ℕ → List UpdateId
recalled_of site None = []
recalled_of site (Some other) = recalled site other

-- the parts of a key on disks that were begun with these bytes and had no call
abbrev pub fresh_parts : List ℕ → List ℕ → KeyParts
fresh_parts key used = record { key = fresh key; key_faults = 0; used = fresh used; used_faults = 0 }
