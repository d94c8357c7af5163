-- The updates that only one of two logs has, without what they do.
use Rattle.std.specs.Prelude.{ℕ, not, List, [], ◌∷◌, ◌++◌, filter, codes, Option, Some, None}
use Rattle.std.specs.List.{flat_map}
use Rattle.update_model.specs.declared.update_id.UpdateId.{UpdateId}
use Rattle.graph_drawing.specs.Boxes.{is_head}
use Rattle.log_texts.specs.declared.entry.Entry.{Entry}
use Rattle.log_texts.specs.declared.manner.Manner.{Manner}
use Rattle.log_texts.specs.declared.manner.Manner.TheVariants.{Lines, Json}
use Rattle.log_texts.specs.declared.names.Names.{Names}
use Rattle.log_texts.specs.declared.style.Style.{Style}
use Rattle.log_texts.specs.Entries.{id_of, ids_of}
use Rattle.log_texts.specs.Json.{entry_json}
use Rattle.log_texts.specs.Lines.{line_text, note_row}
use Rattle.log_texts.specs.Logs.{manner_of}

-- the entries whose ids are none of these
abbrev pub beside : List UpdateId → List Entry → List Entry
beside ids entries = filter (λ entry. not (is_head ids (id_of entry))) entries

-- the line of a note, where there is one, behind a sign
abbrev pub signed_note : List ℕ → Option (List ℕ) → List ℕ
signed_note sign None = []
signed_note sign (Some text) = sign ++ note_row (Some text)

-- the lines of an entry, each behind a sign
unfoldable pub signed : Names → List ℕ → Entry → List ℕ
signed names sign entry = sign ++ (line_text names entry ++ signed_note sign entry.note)

-- an entry with its note
abbrev pub noted_json : Entry → List ℕ
noted_json entry = entry_json [] entry.note [] entry

-- entries with commas between them
abbrev pub list_json : List Entry → List ℕ
list_json [] = []
list_json (entry ∷ entries) = noted_json entry ++ flat_map (λ next. 44 ∷ noted_json next) entries

-- both lists as one object
unfoldable pub both_json : List Entry → List Entry → List ℕ
both_json first second = codes "{\"first\":[" ++ (list_json first ++ (codes "],\"second\":[" ++ (list_json second ++ codes "]}\n")))

-- what only the first has, and what only the second has
abbrev pub differing_in : Manner → List Entry → List Entry → List ℕ
differing_in (Lines names) first second = flat_map (signed names (codes "+ ")) second ++ flat_map (signed names (codes "- ")) first
differing_in Json first second = both_json first second

-- what only the first of two logs has, and what only the second has, where ids are cut so that they tell those of both apart
abbrev pub diff_text : Style → List Entry → List Entry → List ℕ
diff_text style first second =
    differing_in (manner_of style (ids_of first ++ ids_of (beside (ids_of first) second))) (beside (ids_of second) first) (beside (ids_of first) second)
