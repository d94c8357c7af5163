-- The texts that are asked of members.
use Rattle.std.specs.Prelude.{◌≡◌, ℕ, Bool, List, [], if◌then◌else◌, length, unwrap_or}
use Rattle.command_words.specs.LookRequests.{ListingText, Picture, Log, Show, Who}
use Rattle.graph_drawing.specs.declared.form.Form.{Form}
use Rattle.graph_drawing.specs.declared.form.Form.TheVariants.{Dot, Svg}
use Rattle.graph_drawing.specs.Depths.{nodes_of}
use Rattle.graph_drawing.specs.Pictures.{IsPicture}
use Rattle.graph_drawing.specs.Told.{Told}
use Rattle.log_texts.specs.declared.entry.Entry.{Entry}
use Rattle.log_texts.specs.declared.style.Style.{Style}
use Rattle.log_texts.specs.declared.style.Style.TheVariants.{Json, Short, Whole}
use Rattle.log_texts.specs.Entries.{AreEntries}
use Rattle.log_texts.specs.Finding.{show_text, who_text}
use Rattle.log_texts.specs.Logs.{IsLog}
use Rattle.look_commands.specs.Telling.{IsToldOf}
use Rattle.outcomes.specs.Rules.{rules_of}
use Rattle.page_text.specs.declared.counts.Counts.{Counts}
use Rattle.page_text.specs.Naming.{database_name}
use Rattle.page_text.specs.Pages.{page_text}
use Rattle.page_text.specs.Statuses.{status_text}
use Rattle.query_answer.specs.Answers.{AreShown}
use Rattle.schema.specs.Data.{SchemaData}
use Rattle.schema.specs.declared.table_def.TableDef.{TableDef}
use Rattle.table_model.specs.declared.shown_row.ShownRow.{ShownRow}
use Rattle.update_model.specs.Node.{NodeData}

-- the form of a picture
abbrev pub form_of : Bool → Form
form_of dot = if dot then Dot else Svg

-- how a text of updates is written: as JSON, or with whole ids and keys, or with short ones
abbrev pub style_of : (full json : Bool) → Style
style_of full json = if json then Json else if full then Whole else Short

-- The text that is asked of nodes, with what is told of them. It is empty where one update is asked for, and none fits or several do.
abbrev pub IsTextOf : ListingText → List TableDef → List NodeData → Told → List ℕ → Type 0
IsTextOf (Picture dot) tables nodes told text = IsPicture (form_of dot) tables nodes told text
IsTextOf (Log rows full json) tables nodes told text = IsLog (style_of full json) rows tables nodes told text
IsTextOf (Show id full json) tables nodes told text =
    (entries : List Entry) × AreEntries nodes told entries × (text ≡ unwrap_or (show_text (style_of full json) tables id entries) [])
IsTextOf (Who row full json) tables nodes told text =
    (entries : List Entry) × AreEntries nodes told entries × (text ≡ unwrap_or (who_text (style_of full json) tables row entries) [])

-- The text is what is asked of these members' updates, with what is told of them.
pub record IsListing (asked : ListingText) (schema : SchemaData) (members : List (List ℕ)) (text : List ℕ) : Type 0 where
  pub told : Told
  pub is_told : IsToldOf (rules_of schema) members told
  pub shows : IsTextOf asked schema.tables (nodes_of members) told text

-- What is told of members, and the rows that each of their tables shows.
pub record IsSeen (schema : SchemaData) (members : List (List ℕ)) (told : Told) (lists : List (List ShownRow)) : Type 0 where
  pub is_told : IsToldOf (rules_of schema) members told
  pub are_shown : AreShown (rules_of schema) (nodes_of members) (length schema.tables) lists

-- The text is a page with these rows, what is told of these members, and a picture of them.
abbrev pub IsPageWith : SchemaData → List (List ℕ) → Told → List (List ShownRow) → List ℕ → Type 0
IsPageWith schema members told lists text =
    (picture : List ℕ) × IsPicture Svg schema.tables (nodes_of members) told picture × (text ≡ page_text (database_name schema.text) schema.tables lists told.voids picture)

-- The text is a page with the rows that the tables of these members show, and what is told of them.
pub record IsPage (schema : SchemaData) (members : List (List ℕ)) (text : List ℕ) : Type 0 where
  pub told : Told
  pub lists : List (List ShownRow)
  pub seen : IsSeen schema members told lists
  pub shows : IsPageWith schema members told lists text

-- how many members there are, of which this is told
abbrev pub counts_of : List (List ℕ) → Told → Counts
counts_of members told = record { updates = length members; heads = length told.heads; voids = length told.voids }

-- The text says how many updates, heads, void updates and rows these members have.
pub record IsStatus (schema : SchemaData) (members : List (List ℕ)) (text : List ℕ) : Type 0 where
  pub told : Told
  pub lists : List (List ShownRow)
  pub seen : IsSeen schema members told lists
  pub shows : text ≡ status_text (counts_of members told) schema.tables lists
