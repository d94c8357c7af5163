-- The lines of a report. Each ends with an LF, the byte 10; a blank is 32.
use Rattle.std.specs.Prelude.{ℕ, ◌+◌, List, [], ◌∷◌, ◌++◌, Option, Some, None, codes}
use Rattle.std.specs.Fmt.{decimal}
use Rattle.std.specs.List.{flat_map}
use Rattle.world_report.specs.declared.shown.Counts.{Counts}
use Rattle.world_report.specs.declared.shown.Missed.{Missed}
use Rattle.world_report.specs.declared.shown.Missed.TheVariants.{NoSuch, Refused}
use Rattle.world_report.specs.declared.shown.ShownEnd.{ShownEnd}
use Rattle.world_report.specs.declared.shown.ShownEnd.TheVariants.{Open, Done, Peer, Full, Store, Cut}
use Rattle.world_report.specs.declared.shown.ShownReplica.{ShownReplica}
use Rattle.world_report.specs.declared.shown.ShownReplica.TheVariants.{Up, Down}
use Rattle.world_report.specs.declared.shown.ShownSession.{ShownSession}

-- words and a number
abbrev pub numbered : List ℕ → ℕ → List ℕ
numbered words number = words ++ decimal number

abbrev pub missed_text : Missed → List ℕ
missed_text (NoSuch line) = numbered (codes "line ") line ++ (codes " none" ++ (10 ∷ []))
missed_text (Refused line cause) = numbered (codes "line ") line ++ (numbered (codes " refused ") cause ++ (10 ∷ []))

-- how many rows a table has
abbrev pub count_text : ℕ → List ℕ
count_text count = numbered (codes " ") count

-- what a replica holds
abbrev pub counts_text : Counts → List ℕ
counts_text counts =
    numbered (codes " updates ") counts.updates ++ (numbered (codes " heads ") counts.heads
    ++ (codes " rows" ++ (flat_map count_text counts.rows.items ++ (numbered (codes " void ") counts.voids ++ (10 ∷ [])))))

-- what follows the number of a replica
abbrev pub state_text : ShownReplica → List ℕ
state_text (Up counts) = counts_text counts
state_text Down = codes " down" ++ (10 ∷ [])

abbrev pub replica_text : ℕ → ShownReplica → List ℕ
replica_text number replica = codes "replica " ++ (decimal number ++ state_text replica)

-- the texts of things that number from here, one after another
abbrev pub each_numbered : {A : Type 0} → (ℕ → A → List ℕ) → ℕ → List A → List ℕ
each_numbered text number [] = []
each_numbered text number (a ∷ rest) = text number a ++ each_numbered text (number + 1) rest

-- replicas that number from here
abbrev pub replicas_text : ℕ → List ShownReplica → List ℕ
replicas_text number replicas = each_numbered replica_text number replicas

-- how an end ended
abbrev pub end_text : ShownEnd → List ℕ
end_text Open = codes " open"
end_text Done = codes " done"
end_text (Peer fault) = numbered (codes " peer ") fault
end_text Full = codes " full"
end_text Store = codes " store"
end_text Cut = codes " cut"

-- the other end, where a correct replica has it
abbrev pub second_text : Option ShownEnd → List ℕ
second_text None = []
second_text (Some end) = end_text end

abbrev pub session_text : ShownSession → List ℕ
session_text session = numbered (codes "session ") session.number ++ (end_text session.first ++ (second_text session.second ++ (10 ∷ [])))

-- how many one-time keys signed twice, of a replica that runs
abbrev pub doubled_text : ℕ → Option ℕ → List ℕ
doubled_text number None = []
doubled_text number (Some count) = numbered (codes "replica ") number ++ (numbered (codes " doubled ") count ++ (10 ∷ []))

-- the same of replicas that number from here
abbrev pub doubled_texts : ℕ → List (Option ℕ) → List ℕ
doubled_texts number counts = each_numbered doubled_text number counts
