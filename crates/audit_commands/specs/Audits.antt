-- What `audit` shows of a store.
use Rattle.std.specs.Prelude.{◌≡◌, ℕ, List}
use Rattle.update_check.specs.Members.{AreMembers}
use Rattle.store_directory.specs.Stores.{StoreData}
use Rattle.key_audit.specs.Entries.{AreFound}
use Rattle.key_audit.specs.declared.doubled.Doubled.{Doubled}
use Rattle.audit_text.specs.Texts.{audit_text}

-- These are the entries of the updates of a store, which are a closed list under its schema's rule.
pub record HasDoubled (store : StoreData) (entries : List Doubled) : Type 0 where
  pub taken : AreMembers store.schema.rule store.members
  pub found : AreFound store.members entries

-- `audit` shows the one-time keys that signed two messages among the updates of a store, one a line.
abbrev pub ShowsDoubled : StoreData → List ℕ → Type 0
ShowsDoubled store text = (entries : List Doubled) × HasDoubled store entries × (text ≡ audit_text entries)
