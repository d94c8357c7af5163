-- What a picture of a graph is.
use Rattle.std.specs.Prelude.{◌≡◌, ℕ, List}
use Rattle.update_model.specs.Node.{NodeData}
use Rattle.schema.specs.declared.table_def.TableDef.{TableDef}
use Rattle.graph_drawing.specs.declared.form.Form.{Form}
use Rattle.graph_drawing.specs.declared.form.Form.TheVariants.{Svg, Dot}
use Rattle.graph_drawing.specs.declared.placed.Placed.{Placed}
use Rattle.graph_drawing.specs.Boxes.{Arranged, arranged, drawn, omitted}
use Rattle.graph_drawing.specs.Depths.{AreInOrder}
use Rattle.graph_drawing.specs.Dot.{dot_text}
use Rattle.graph_drawing.specs.Svg.{svg_text}
use Rattle.graph_drawing.specs.Told.{Told}

-- the text of boxes in a form, where so many nodes are left out
abbrev pub picture_text : Form → List TableDef → ℕ → Arranged → List ℕ
picture_text Svg tables count picture = svg_text tables count picture
picture_text Dot tables count picture = dot_text tables count picture

-- the text of nodes in order, of which the last ones are drawn
abbrev pub text_in_order : Form → List TableDef → Told → List Placed → List ℕ
text_in_order form tables told placed = picture_text form tables (omitted placed) (arranged told (drawn placed))

-- This is the picture of these nodes, with what is told of them.
abbrev pub IsPicture : Form → List TableDef → List NodeData → Told → List ℕ → Type 0
IsPicture form tables nodes told text = (placed : List Placed) × AreInOrder nodes placed × (text ≡ text_in_order form tables told placed)
