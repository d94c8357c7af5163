-- Which refusals are told by what is held, the key, the operations and C.
use Rattle.replica.specs.declared.make_fault.MakeFault.{MakeFault}
use Rattle.replica.specs.declared.make_fault.MakeFault.TheVariants.{NotListed, TooManyHeads, Invalid, TooLong, Full, Spent, Taken, DiskFault, Memory}

-- No disk failed, and memory did not run out.
abbrev pub IsTold : MakeFault → Type 0
IsTold NotListed = Unit {0}
IsTold (TooManyHeads n) = Unit {0}
IsTold (Invalid reason operation) = Unit {0}
IsTold (TooLong len) = Unit {0}
IsTold Full = Unit {0}
IsTold Spent = Unit {0}
IsTold (Taken id) = Unit {0}
IsTold (DiskFault side) = ⊥
IsTold Memory = ⊥

-- The operations were not judged.
abbrev pub IsBeforeVerdict : MakeFault → Type 0
IsBeforeVerdict NotListed = Unit {0}
IsBeforeVerdict (TooManyHeads n) = Unit {0}
IsBeforeVerdict (Invalid reason operation) = ⊥
IsBeforeVerdict (TooLong len) = ⊥
IsBeforeVerdict Full = ⊥
IsBeforeVerdict Spent = ⊥
IsBeforeVerdict (Taken id) = ⊥
IsBeforeVerdict (DiskFault side) = ⊥
IsBeforeVerdict Memory = ⊥

-- The operations were judged, and are valid.
abbrev pub IsAfterVerdict : MakeFault → Type 0
IsAfterVerdict NotListed = ⊥
IsAfterVerdict (TooManyHeads n) = ⊥
IsAfterVerdict (Invalid reason operation) = ⊥
IsAfterVerdict (TooLong len) = Unit {0}
IsAfterVerdict Full = Unit {0}
IsAfterVerdict Spent = Unit {0}
IsAfterVerdict (Taken id) = Unit {0}
IsAfterVerdict (DiskFault side) = ⊥
IsAfterVerdict Memory = ⊥
