-- What is read of an input that is sealed, and what may come in its place.
use Rattle.std.specs.Prelude.{◌≡◌, ◌⊎◌, ℕ, ◌+◌, ◌<◌, List, drop, length, Some, IfSome}
use Rattle.std.specs.declared.option.Option.{Option}
use Rattle.bec_bytes.specs.Causes.{Rose}
use Rattle.bec_bytes.specs.declared.read_error.ReadError.{ReadError}
use Rattle.bec_bytes.specs.declared.read_error.ReadError.TheVariants as read_errors
use Rattle.seal_commands.specs.declared.refusal.SealRefusal.{SealRefusal}
use Rattle.seal_commands.specs.declared.refusal.SealRefusal.TheVariants.{Memory, Stream}

-- The source has more bytes than this limit, of which one more is read.
abbrev pub IsLongText : ℕ → Option (List ℕ) → Option (List ℕ) → Type 0
IsLongText limit before after = IfSome before (λ input. (limit < length input) × (after ≡ Some (drop (limit + 1) input)))

-- the refusal that an error of reading becomes
abbrev pub from_reading : ReadError → SealRefusal
from_reading read_errors.Failed = Stream
from_reading read_errors.Memory = Memory

-- What may come in place of an answer: memory ran out, or the source failed, whose count of faults rose.
abbrev pub IsInputFault : ℕ → ℕ → SealRefusal → Type 0
IsInputFault old new why = (why ≡ Memory) ⊎ ((why ≡ Stream) × Rose old new)
