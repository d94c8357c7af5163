-- What a directory remembers of peers.
use Rattle.std.specs.Prelude.{ℕ, List, [], Option, Some, None}
use Rattle.bec_disk.specs.declared.gated.Gated.{Gated}
use Rattle.bec_disk.specs.declared.gated.Gated.TheVariants.{Absent, Damaged, Whole}
use Rattle.bec_disk.specs.Gated.{gated_of}

-- what stands behind a gate that is open, or nothing
abbrev pub behind : Gated → List ℕ
behind Absent = []
behind Damaged = []
behind (Whole payload) = payload

-- what a part remembers by what it reads as, where it is there
abbrev pub remembered_in : Option (List ℕ) → List ℕ
remembered_in None = []
remembered_in (Some bytes) = behind (gated_of bytes)
