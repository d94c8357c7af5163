-- The lines in a box: the id and the author, the note if there is one, what the update does, and why it does nothing if so.
use Rattle.std.specs.Prelude.{ℕ, ◌-◌, ◌==◌, if◌then◌else◌, List, [], ◌++◌, length, take, codes, Option, Some, None}
use Rattle.std.specs.Fmt.{decimal}
use Rattle.std.specs.List.{flat_map}
use Rattle.update_model.specs.declared.op.Op.{Op}
use Rattle.text_words.specs.Printing.{quoted}
use Rattle.schema.specs.declared.table_def.TableDef.{TableDef}
use Rattle.graph_drawing.specs.declared.form.Form.{Form}
use Rattle.graph_drawing.specs.declared.form.Form.TheVariants.{Svg, Dot}
use Rattle.graph_drawing.specs.declared.limits.TheConstants.{ID_DIGITS, MAX_CHARACTERS, MAX_LINES}
use Rattle.graph_drawing.specs.declared.spot.Spot.{Spot}
use Rattle.graph_drawing.specs.Words.{clipped, key_end, reason_words, short_id, short_operation}

-- what begins a line, and what ends it
abbrev pub line_begin : Form → List ℕ
line_begin Svg = codes "<tspan x='12' dy='16'>"
line_begin Dot = []

abbrev pub line_end : Form → List ℕ
line_end Svg = codes "</tspan>"
line_end Dot = codes "<br align='left'/>"

abbrev pub line : Form → List ℕ → List ℕ
line form text = line_begin form ++ (text ++ line_end form)

-- the id and the author
abbrev pub title : Spot → List ℕ
title spot = short_id ID_DIGITS spot.node.id ++ (codes " by .." ++ key_end spot.node.author)

-- the line of a note, in quotes
abbrev pub note_line : Form → Option (List ℕ) → List ℕ
note_line form None = []
note_line form (Some text) = line form (clipped (quoted text) MAX_CHARACTERS)

-- the line of an operation
abbrev pub operation_line : Form → List TableDef → Op → List ℕ
operation_line form tables op = line form (clipped (short_operation ID_DIGITS tables op) MAX_CHARACTERS)

-- how many operations are not told
abbrev pub more_line : Form → ℕ → List ℕ
more_line form count = if count == 0 then [] else line form (codes "and " ++ (decimal count ++ codes " more"))

-- that the update does nothing, and why
abbrev pub void_line : Form → Option ℕ → List ℕ
void_line form None = []
void_line form (Some reason) = line form (reason_words reason)

-- the first operations, and how many there are behind them
abbrev pub operation_lines : Form → List TableDef → List Op → List ℕ
operation_lines form tables ops = flat_map (operation_line form tables) (take MAX_LINES ops) ++ more_line form (length ops - MAX_LINES)

-- all lines of a box
unfoldable pub box_lines : Form → List TableDef → Spot → List ℕ
box_lines form tables spot = line form (title spot) ++ (note_line form spot.note ++ (operation_lines form tables spot.node.ops ++ void_line form spot.reason))
