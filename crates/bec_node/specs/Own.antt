-- How each request may end, whether the shelf tells what it has or not.
use Rattle.std.specs.Prelude.{◌≡◌, ◌⊎◌, None, Some, Ok, Err}
use Rattle.command_words.specs.Requests.{RequestText, heads, check, dump, init, keygen, apply, join, export, query, merge, notes}
use Rattle.outcomes.specs.declared.refusal.Refusal.{Refusal}
use Rattle.outcomes.specs.declared.refusal.Refusal.TheVariants as refusals
use Rattle.outcomes.specs.Comes.{IsAnyFault}
use Rattle.outcomes.specs.Outcome.{Outcome}
use Rattle.outcomes.specs.Outside.{Outside}

-- of a record of a stream
abbrev pub IsOfRecord : Refusal → Type 0
IsOfRecord (refusals.Record n fault) = Unit {0}
IsOfRecord other = ⊥

-- of the text of a schema
abbrev pub IsOfSchema : Refusal → Type 0
IsOfSchema (refusals.Schema fault) = Unit {0}
IsOfSchema (refusals.NotConfluent schema which example) = Unit {0}
IsOfSchema other = ⊥

-- of a store that is not opened
abbrev pub IsOfStore : Refusal → Type 0
IsOfStore refusals.NoStore = Unit {0}
IsOfStore refusals.BadStore = Unit {0}
IsOfStore other = ⊥

-- of a key that is not opened
abbrev pub IsOfKey : Refusal → Type 0
IsOfKey refusals.NoKey = Unit {0}
IsOfKey refusals.BadKey = Unit {0}
IsOfKey other = ⊥

-- of the operations of an update, and of what they come after
abbrev pub IsOfOperations : Refusal → Type 0
IsOfOperations (refusals.Transaction fault) = Unit {0}
IsOfOperations (refusals.Heads count) = Unit {0}
IsOfOperations (refusals.Invalid reason operation) = Unit {0}
IsOfOperations refusals.UpdateTooLong = Unit {0}
IsOfOperations other = ⊥

-- of an update that is to be signed and kept, whatever its operations are
abbrev pub IsOfSigning : Refusal → Type 0
IsOfSigning refusals.AuthorNotListed = Unit {0}
IsOfSigning refusals.Full = Unit {0}
IsOfSigning (refusals.KeySpent count) = Unit {0}
IsOfSigning refusals.IdTaken = Unit {0}
IsOfSigning other = ⊥

-- of the text of a query
abbrev pub IsOfQuery : Refusal → Type 0
IsOfQuery (refusals.Query fault) = Unit {0}
IsOfQuery other = ⊥

-- of a session of two stores
abbrev pub IsOfSession : Refusal → Type 0
IsOfSession (refusals.Peer fault) = Unit {0}
IsOfSession refusals.Full = Unit {0}
IsOfSession other = ⊥

-- The refusals that are a request's own.
abbrev pub IsOwn : RequestText → Refusal → Type 0
IsOwn (heads None) refusal = IsOfRecord refusal
IsOwn (heads (Some dir)) refusal = IsOfStore refusal
IsOwn check refusal = IsOfSchema refusal
IsOwn (dump None json) refusal = IsOfRecord refusal ⊎ (IsOfSchema refusal ⊎ (refusal ≡ refusals.CutSchema))
IsOwn (dump (Some dir) json) refusal = IsOfStore refusal
IsOwn (init dir) refusal = IsOfSchema refusal ⊎ (refusal ≡ refusals.StoreThere)
IsOwn (keygen dir lms ots) refusal = refusal ≡ refusals.KeyThere
IsOwn (apply dir _) refusal = IsOfStore refusal ⊎ (IsOfKey refusal ⊎ (IsOfSigning refusal ⊎ IsOfOperations refusal))
IsOwn (join dir) refusal = IsOfStore refusal ⊎ (IsOfKey refusal ⊎ IsOfSigning refusal)
IsOwn (export dir updates_only) refusal = IsOfStore refusal
IsOwn (query dir text json) refusal = IsOfStore refusal ⊎ IsOfQuery refusal
IsOwn (merge first second) refusal = IsOfStore refusal ⊎ IsOfSession refusal
IsOwn (notes dir) refusal = IsOfStore refusal

-- It is done, or refused for a reason of its own; or memory ran out, or the shelf or the source failed, whose count of faults rose.
abbrev pub EndsOf : {S H R : Type 0} → (Refusal → Type 0) → Outside S H R → Outside S H R → Outcome → Type 0
EndsOf Own before after (Ok text) = Unit {0}
EndsOf Own before after (Err refusal) = Own refusal ⊎ IsAnyFault before.source_faults after.source_faults before.shelf_faults after.shelf_faults (Err refusal)

-- The same of a request.
abbrev pub EndsAs : {S H R : Type 0} → RequestText → Outside S H R → Outside S H R → Outcome → Type 0
EndsAs request = EndsOf (IsOwn request)
