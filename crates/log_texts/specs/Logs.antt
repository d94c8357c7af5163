-- The log of a graph, whole, with ids and keys cut, or as one JSON object.
use Rattle.std.specs.Prelude.{◌≡◌, ℕ, Bool, List}
use Rattle.std.specs.List.{flat_map}
use Rattle.update_model.specs.declared.update_id.UpdateId.{UpdateId}
use Rattle.update_model.specs.Node.{NodeData}
use Rattle.schema.specs.declared.table_def.TableDef.{TableDef}
use Rattle.graph_drawing.specs.Told.{Told}
use Rattle.log_texts.specs.declared.entry.Entry.{Entry}
use Rattle.log_texts.specs.declared.manner.Manner.{Manner}
use Rattle.log_texts.specs.declared.manner.Manner.TheVariants.{Lines, Json}
use Rattle.log_texts.specs.declared.names.Names.TheVariants.{Whole, Cut}
use Rattle.log_texts.specs.declared.style.Style.{Style}
use Rattle.log_texts.specs.declared.style.Style.TheVariants as styles
use Rattle.log_texts.specs.Digits.{digits_of}
use Rattle.log_texts.specs.Entries.{AreEntries, ids_of}
use Rattle.log_texts.specs.Json.{updates_json}
use Rattle.log_texts.specs.Lines.{asked_ops, lines_text}

-- how entries are written, where these are the ids of the whole log
abbrev pub manner_of : Style → List UpdateId → Manner
manner_of styles.Whole ids = Lines Whole
manner_of styles.Short ids = Lines (Cut (digits_of ids))
manner_of styles.Json ids = Json

-- all entries, with what the updates do or without
abbrev pub log_in : Manner → Bool → List TableDef → List Entry → List ℕ
log_in (Lines names) rows tables entries = flat_map (λ entry. lines_text names tables entry.note (asked_ops rows entry) entry) entries
log_in Json rows tables entries = updates_json rows tables entries

-- the log of these entries
abbrev pub log_text : Style → Bool → List TableDef → List Entry → List ℕ
log_text style rows tables entries = log_in (manner_of style (ids_of entries)) rows tables entries

-- This is the log of these nodes, with what is told of them.
abbrev pub IsLog : Style → Bool → List TableDef → List NodeData → Told → List ℕ → Type 0
IsLog style rows tables nodes told text = (entries : List Entry) × AreEntries nodes told entries × (text ≡ log_text style rows tables entries)
