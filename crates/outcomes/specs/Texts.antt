-- What is printed.
use Rattle.std.specs.Prelude.{ℕ, List, [], ◌∷◌, ◌++◌, codes}
use Rattle.std.specs.List.{flat_map}
use Rattle.std.specs.Fmt.{decimal}
use Rattle.hex.specs.Hex.{encode_lower}
use Rattle.update_model.specs.declared.update_id.UpdateId.{UpdateId}
use Rattle.txn_text.specs.declared.fault.TextFault.{TextFault}
use Rattle.query.specs.Words.{fault_words as query_words}
use Rattle.query.specs.declared.fault.QueryFault.{QueryFault}
use Rattle.txn_text.specs.Words.{fault_words as transaction_words}
use Rattle.update_check.specs.Words.{check_words}
use Rattle.update_codec.specs.Spelling.{author}
use Rattle.update_model.specs.declared.author_key.AuthorKey.{AuthorKey}
use Rattle.session_rules.specs.declared.peer_fault.PeerFault.{PeerFault}
use Rattle.session_rules.specs.declared.peer_fault.PeerFault.TheVariants.{BadFrame, WrongDatabase, BadUpdate, Unanswered, AskedUnknown, AskedAgain, Stalled, TakenBack, OutOfTurn, Version}
use Rattle.update_stream.specs.declared.record_fault.RecordFault.{RecordFault}
use Rattle.update_stream.specs.declared.record_fault.RecordFault.TheVariants.{Check, Lacks, Full}

-- an id in lower-case hexadecimal, on a line of its own
abbrev pub line_of : UpdateId → List ℕ
line_of id = encode_lower id.0 ++ 10 ∷ []

-- the ids, one per line
abbrev pub printed : List UpdateId → List ℕ
printed ids = flat_map line_of ids

-- the line for the n-th record, which is refused
abbrev pub record_text : ℕ → RecordFault → List ℕ
record_text n (Check fault) = codes "! update " ++ decimal n ++ (codes ": " ++ (check_words fault ++ 10 ∷ []))
record_text n (Lacks id) = codes "! update " ++ decimal n ++ (codes ": lacks " ++ line_of id)
record_text n Full = codes "! full\n"

-- the line for a text that is no query
abbrev pub query_text : QueryFault → List ℕ
query_text fault = codes "! query " ++ (query_words fault ++ 10 ∷ [])

-- the line for a transaction with this fault
abbrev pub transaction_text : TextFault → List ℕ
transaction_text fault = codes "! transaction " ++ (transaction_words fault ++ 10 ∷ [])

-- the line for an update that is not valid
abbrev pub invalid_text : ℕ → ℕ → List ℕ
invalid_text reason operation = codes "! invalid reason " ++ decimal reason ++ (codes " operation " ++ (decimal operation ++ 10 ∷ []))

-- the line for a key of so many indices that are all used
abbrev pub spent_text : ℕ → List ℕ
spent_text count = codes "! key spent " ++ (decimal count ++ 10 ∷ [])

-- the line for so many heads
abbrev pub many_heads_text : ℕ → List ℕ
many_heads_text count = codes "! heads " ++ (decimal count ++ 10 ∷ [])

-- the line for a peer that shows this fault
abbrev pub peer_text : PeerFault → List ℕ
peer_text (BadFrame place) = codes "! peer bad frame\n"
peer_text WrongDatabase = codes "! peer wrong database\n"
peer_text (BadUpdate number) = codes "! peer bad update\n"
peer_text (Unanswered id) = codes "! peer unanswered\n"
peer_text (AskedUnknown id) = codes "! peer asked unknown\n"
peer_text (AskedAgain id) = codes "! peer asked again\n"
peer_text Stalled = codes "! peer stalled\n"
peer_text TakenBack = codes "! peer taken back\n"
peer_text OutOfTurn = codes "! peer out of turn\n"
peer_text Version = codes "! peer version\n"

-- the lines for two stores that were merged: what each gained, and the turns
abbrev pub merged_text : ℕ → ℕ → ℕ → List ℕ
merged_text gained other turns = codes "gained " ++ (decimal gained ++ (codes " " ++ (decimal other ++ (codes "\nturns " ++ (decimal turns ++ 10 ∷ [])))))

-- the line for a store that was made of a database with this id
abbrev pub database_text : List ℕ → List ℕ
database_text database = codes "database " ++ (encode_lower database ++ 10 ∷ [])

-- the line for a public key
abbrev pub key_text : AuthorKey → List ℕ
key_text key = encode_lower (author key) ++ 10 ∷ []
