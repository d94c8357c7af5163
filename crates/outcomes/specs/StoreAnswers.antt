-- What commands answer over the store of a directory, by what its parts read as at entry.
use Rattle.std.specs.Prelude.{◌≡◌, ℕ, List, [], Err, Option}
use Rattle.rand_core.specs.Stream.{Stream, fill_bytes}
use Rattle.row_check.specs.Checksum.{is_luhn}
use Rattle.store_directory.specs.Stores.{IsBadStore, IsNoStore, ReadsAs, StoreData}
use Rattle.outcomes.specs.declared.refusal.Refusal.{Refusal}
use Rattle.outcomes.specs.declared.refusal.Refusal.TheVariants.{NoStore, BadStore, BadKey, NoKey}
use Rattle.outcomes.specs.Outcome.{Outcome}
use Rattle.schema_verdict.specs.Verdict.{Prints}
use Rattle.key_directory.specs.Keys.{IsBadKey, IsNoKey}

-- what the parts of a directory read as, where they are there
pub record Readings : Type 0 where
  pub schema : Option (List ℕ)
  pub updates : Option (List ℕ)
  pub key : Option (List ℕ)
  pub used : Option (List ℕ)

-- Why the store of a directory is not opened.
pub data RefusesStore (parts : Readings) (refusal : Refusal) : Type 0 where
  no_store : IsNoStore parts.schema → refusal ≡ NoStore → RefusesStore parts refusal
  bad_store : IsBadStore is_luhn parts.schema parts.updates → refusal ≡ BadStore → RefusesStore parts refusal

-- The directory has this store.
abbrev pub HasStore : Readings → StoreData → Type 0
HasStore parts store = ReadsAs is_luhn parts.schema parts.updates store

-- A command that only reads a store: it answers to it, or the store is refused.
pub data ReadsStore (Answers : StoreData → Outcome → Type 0) (parts : Readings) (added : List (List ℕ)) (outcome : Outcome) : Type 0 where
  answered : (store : StoreData) → HasStore parts store → Answers store outcome → added ≡ [] → ReadsStore Answers parts added outcome
  refused : (refusal : Refusal) → RefusesStore parts refusal → added ≡ [] → outcome ≡ Err refusal → ReadsStore Answers parts added outcome

-- What is shown of a store is printed.
abbrev pub Printing : (StoreData → List ℕ → Type 0) → StoreData → Outcome → Type 0
Printing Shows store outcome = (text : List ℕ) × Shows store text × Prints outcome text

-- the 32 bytes that a generator gives next
abbrev pub next_bytes : Stream → List ℕ
next_bytes stream = (fill_bytes 32 stream).0

-- the generator behind them
abbrev pub after_bytes : Stream → Stream
after_bytes stream = (fill_bytes 32 stream).1

-- Why the key of a directory is not opened, by what its parts read as.
pub data RefusesKey (key used : Option (List ℕ)) (refusal : Refusal) : Type 0 where
  no_key : IsNoKey key → refusal ≡ NoKey → RefusesKey key used refusal
  bad_key : IsBadKey key used → refusal ≡ BadKey → RefusesKey key used refusal
