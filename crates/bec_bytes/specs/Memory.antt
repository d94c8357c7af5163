-- What a contract sees of a source and of a sink in memory.
use Rattle.std.specs.Prelude.{ℕ, List, ◌++◌, length, take, drop, Result, Contains}
use Rattle.bec_bytes.specs.Causes.{one_more, faults_after}

-- The bytes that a source has left or a sink has taken; the numbers of the calls that are to fail, counted
-- from 1; and how many calls there were, and how many faults.
pub record MemoryState : Type 0 where
  pub bytes : List ℕ
  pub failing : List ℕ
  pub calls : ℕ
  pub faults : ℕ

-- The next call is one of those that are to fail.
abbrev pub IsToFail : MemoryState → Type 0
IsToFail state = Contains state.failing (one_more state.calls)

-- After a call that left these bytes.
abbrev pub after_call : {T E : Type 0} → MemoryState → Result T E → List ℕ → MemoryState
after_call state result bytes = record {
  bytes = bytes;
  failing = state.failing;
  calls = one_more state.calls;
  faults = faults_after result state.faults;
}

-- A buffer whose front was overwritten with as many of these bytes as it has room for.
abbrev pub filled_from : List ℕ → List ℕ → List ℕ
filled_from bytes buf = take (length buf) bytes ++ drop (length bytes) buf
