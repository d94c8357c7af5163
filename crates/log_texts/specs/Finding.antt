-- One update of a log, and one row, each found by how its name begins. A colon is the byte 58.
use Rattle.std.specs.Prelude.{ℕ, ◌+◌, ◌-◌, ◌==◌, ◌&&◌, nat_le, min, Bool, not, cond, List, [], ◌∷◌, ◌++◌, length, take, drop, filter, position, codes, bytes_eq, Option, Some, None, option_and_then, option_map, unwrap_or}
use Rattle.std.specs.Fmt.{decimal}
use Rattle.std.specs.List.{flat_map}
use Rattle.update_model.specs.declared.op.Op.{Op}
use Rattle.update_model.specs.declared.op.Op.TheVariants.{Insert, Delete}
use Rattle.update_model.specs.declared.update_id.UpdateId.{UpdateId}
use Rattle.schema.specs.declared.table_def.TableDef.{TableDef}
use Rattle.table_text.specs.Names.{id_text}
use Rattle.log_texts.specs.declared.entry.Entry.{Entry}
use Rattle.log_texts.specs.declared.manner.Manner.{Manner}
use Rattle.log_texts.specs.declared.manner.Manner.TheVariants.{Lines, Json}
use Rattle.log_texts.specs.declared.style.Style.{Style}
use Rattle.log_texts.specs.Entries.{id_of, ids_of}
use Rattle.log_texts.specs.Json.{update_json}
use Rattle.log_texts.specs.Lines.{lines_text}
use Rattle.log_texts.specs.Logs.{manner_of}

-- one entry with this note and these operations
abbrev pub found_in : Manner → List TableDef → Option (List ℕ) → List Op → Entry → List ℕ
found_in (Lines names) tables note ops entry = lines_text names tables note ops entry
found_in Json tables note ops entry = update_json tables note ops entry

-- the digits of a word, which may have two dots behind them
abbrev pub digits_in : List ℕ → List ℕ
digits_in word = cond (bytes_eq (drop (length word - 2) word) (codes "..")) (take (length word - 2) word) word

-- whether the id of an entry begins with these digits, which are four at least
abbrev pub begins_so : List ℕ → Entry → Bool
begins_so digits entry = nat_le 4 (length digits) && bytes_eq (take (length digits) (id_text (id_of entry))) digits

-- the entry where there is but one
abbrev pub single : List Entry → Option Entry
single [] = None
single (entry ∷ []) = Some entry
single (entry ∷ other ∷ entries) = None

-- the entries whose id begins as this word does
abbrev pub named_so : List ℕ → List Entry → List Entry
named_so word entries = filter (begins_so (digits_in word)) entries

-- the one update whose id begins so, with its note and what it does
abbrev pub show_text : Style → List TableDef → List ℕ → List Entry → Option (List ℕ)
show_text style tables word entries = option_map (λ entry. found_in (manner_of style (ids_of entries)) tables entry.note entry.placed.node.ops entry) (single (named_so word entries))

abbrev pub is_colon : ℕ → Bool
is_colon byte = byte == 58

-- where the first colon of a word stands, or else its end
abbrev pub colon_of : List ℕ → ℕ
colon_of word = unwrap_or (position is_colon word) (length word)

-- an operation, where it inserts a row
abbrev pub inserting : Op → Option Op
inserting (Insert table values) = Some (Insert table values)
inserting (Delete row) = None

abbrev pub is_no_zero : ℕ → Bool
is_no_zero byte = not (byte == 48)

-- how many zeros digits begin with
abbrev pub zeros_of : List ℕ → ℕ
zeros_of digits = unwrap_or (position is_no_zero digits) (length digits)

-- digits without the zeros that they begin with, but for the last one
abbrev pub without_zeros : List ℕ → List ℕ
without_zeros digits = drop (min (zeros_of digits) (length digits - 1)) digits

-- The number that the end of a row's name has behind its colon, as it is printed. Without a colon it is that of the first operation.
abbrev pub number_in : List ℕ → List ℕ
number_in [] = codes "0"
number_in (colon ∷ digits) = without_zeros digits

-- the operation that inserts the row whose number is printed so, of operations that begin with this number
abbrev pub inserts_so : List ℕ → ℕ → List Op → Option Op
inserts_so digits number [] = None
inserts_so digits number (op ∷ ops) = cond (bytes_eq (decimal number) digits) (inserting op) (inserts_so digits (number + 1) ops)

-- an entry with the operation that inserts the row whose name ends so
abbrev pub insert_in : Manner → List TableDef → List ℕ → Entry → Option (List ℕ)
insert_in manner tables ending entry = option_map (λ op. found_in manner tables None (op ∷ []) entry) (inserts_so (number_in ending) 0 entry.placed.node.ops)

-- the one update whose id begins as the name of this row does, with the operation that inserts the row
abbrev pub who_text : Style → List TableDef → List ℕ → List Entry → Option (List ℕ)
who_text style tables word entries =
    option_and_then (insert_in (manner_of style (ids_of entries)) tables (drop (colon_of word) word)) (single (named_so (take (colon_of word) word) entries))

-- the line of an id for standard error
abbrev pub named_id : UpdateId → List ℕ
named_id id = codes "bec: " ++ (id_text id ++ 10 ∷ [])

abbrev pub named_line : Entry → List ℕ
named_line entry = named_id (id_of entry)

-- a line for each of several entries
abbrev pub named_lines : List Entry → List ℕ
named_lines entries = cond (nat_le 2 (length entries)) (flat_map named_line entries) []
