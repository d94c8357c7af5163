-- What is printed of sessions with other nodes, and the exit status.
use Rattle.std.specs.Prelude.{ℕ, ◌+◌, ◌==◌, ◌||◌, Bool, true, false, cond, List, [], ◌∷◌, ◌++◌, codes, drop}
use Rattle.std.specs.List.{list_any}
use Rattle.std.specs.Fmt.{decimal}
use Rattle.session_server.specs.declared.ending.Ending.{Ending}
use Rattle.session_server.specs.declared.ending.Ending.TheVariants.{Done, Peer, Cut, Full, Broken, Store, Memory}
use Rattle.session_server.specs.declared.served.Served.{Served}
use Rattle.schema_verdict.specs.declared.status.TheConstants.{DONE, STORE_FAULT, STREAM_FAULT, OUT_OF_MEMORY, PEER, FULL}
use Rattle.outcomes.specs.Texts.{peer_text}

-- the exit status for a session that ended so
abbrev pub exit_status : Ending → ℕ
exit_status Done = DONE
exit_status (Peer fault) = PEER
exit_status Cut = PEER
exit_status Full = FULL
exit_status Broken = STREAM_FAULT
exit_status Store = STORE_FAULT
exit_status Memory = OUT_OF_MEMORY

-- what `sync` prints of its session: what the store gained, and the turns; or how it ended otherwise
abbrev pub text_by : Ending → ℕ → ℕ → List ℕ
text_by Done gained turns = codes "gained " ++ (decimal gained ++ (codes "\nturns " ++ (decimal turns ++ 10 ∷ [])))
text_by (Peer fault) gained turns = peer_text fault
text_by Cut gained turns = codes "! cut\n"
text_by Full gained turns = codes "! full\n"
text_by Broken gained turns = codes "! stream fault\n"
text_by Store gained turns = codes "! store fault\n"
text_by Memory gained turns = []

abbrev pub sync_text : Served → List ℕ
sync_text served = text_by served.ending served.gained served.turns

-- the words for how a session ended, in a line of `serve`
abbrev pub words_by : Ending → ℕ → ℕ → List ℕ
words_by Done gained turns = codes "done gained " ++ (decimal gained ++ (codes " turns " ++ (decimal turns ++ 10 ∷ [])))
words_by (Peer fault) gained turns = drop 2 (peer_text fault)
words_by Cut gained turns = codes "cut\n"
words_by Full gained turns = codes "full\n"
words_by Broken gained turns = codes "broken\n"
words_by Store gained turns = codes "store\n"
words_by Memory gained turns = codes "memory\n"

-- the line of the session with this number
abbrev pub session_line : ℕ → Served → List ℕ
session_line number served = codes "session " ++ (decimal number ++ (32 ∷ words_by served.ending served.gained served.turns))

-- a line for each session, numbered on from this number
abbrev pub lines_from : ℕ → List Served → List ℕ
lines_from number [] = []
lines_from number (served ∷ others) = session_line number served ++ lines_from (number + 1) others

-- What failed outside the sessions is said behind their lines: a disk, or else the net.
abbrev pub said_last : (store_failed net_failed : Bool) → List ℕ
said_last true net_failed = codes "! store fault\n"
said_last false true = codes "! stream fault\n"
said_last false false = []

-- what `serve` prints
abbrev pub serve_text : List Served → (store_failed net_failed : Bool) → List ℕ
serve_text sessions store_failed net_failed = lines_from 1 sessions ++ said_last store_failed net_failed

-- whether a session has this exit status
abbrev pub has_status : ℕ → List Served → Bool
has_status status sessions = list_any (λ served. exit_status served.ending == status) sessions

-- The exit status of `serve`: the first of 5, 3, 4, 7 and 6 that a session has, and else 0. A disk that failed outside the sessions has 3, and the net has 4.
abbrev pub serve_status : List Served → (store_failed net_failed : Bool) → ℕ
serve_status sessions store_failed net_failed =
    cond (has_status OUT_OF_MEMORY sessions) OUT_OF_MEMORY
    (cond (store_failed || has_status STORE_FAULT sessions) STORE_FAULT
    (cond (net_failed || has_status STREAM_FAULT sessions) STREAM_FAULT
    (cond (has_status FULL sessions) FULL
    (cond (has_status PEER sessions) PEER
    DONE))))
