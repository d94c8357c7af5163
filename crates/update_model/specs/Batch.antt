-- What a batch of members adds to a list, and what of it waits.
use Rattle.std.specs.Prelude.{◌≡◌, ◌≢◌, ℕ, Bool, false, List, ◌++◌, length, filter, Contains, None, not, nat_le, ◌&&◌}
use Rattle.std.specs.List.{AllByRecursion}
use Rattle.update_model.specs.declared.limits.TheConstants.{MAX_BYTES, MAX_MEMBERS}
use Rattle.update_model.specs.Entry.{Entry}
use Rattle.update_model.specs.Graph.{holds, lacking, Follows, byte_count}

-- How many members a list may have, and how many bytes they may have together.
pub record Limits : Type 0 where
  pub updates : ℕ
  pub bytes : ℕ

-- the limits of a store
abbrev pub store_limits : Limits
store_limits = record { updates = MAX_MEMBERS; bytes = MAX_BYTES }

-- whether members are within the limits
abbrev pub fits : Limits → List Entry → Bool
fits limits graph = nat_le (length graph) limits.updates && nat_le (byte_count graph) limits.bytes

-- the members of a batch whose id is not held, in the batch's order
abbrev pub not_held : List Entry → List Entry → List Entry
not_held graph batch = filter (λ e. not (holds graph e.id)) batch

-- Members of the batch are added one after another, each once its predecessors are held. What is not held then waits, in
-- the batch's order, and none of it could be added.
pub record Adds (before batch added waiting : List Entry) : Type 0 where
  pub from : AllByRecursion (Contains batch) added
  pub next : Follows before added
  pub rest : waiting ≡ not_held (before ++ added) batch
  pub stuck : AllByRecursion (λ e. lacking (before ++ added) e ≢ None) waiting

-- All of a batch that can be added would pass a limit.
pub record IsTooMuch (limits : Limits) (before batch : List Entry) : Type 0 where
  pub added : List Entry
  pub waiting : List Entry
  pub adds : Adds before batch added waiting
  pub passes : fits limits (before ++ added) ≡ false
