-- A picture as DOT, which `dot` of Graphviz lays out.
use Rattle.std.specs.Prelude.{ℕ, Bool, if◌then◌else◌, List, [], ◌∷◌, ◌++◌, codes, Option, Some, None}
use Rattle.std.specs.List.{flat_map}
use Rattle.update_model.specs.declared.update_id.UpdateId.{UpdateId}
use Rattle.schema.specs.declared.table_def.TableDef.{TableDef}
use Rattle.table_text.specs.Names.{id_text}
use Rattle.graph_drawing.specs.declared.form.Form.TheVariants.{Dot}
use Rattle.graph_drawing.specs.declared.spot.Spot.{Spot}
use Rattle.graph_drawing.specs.Boxes.{Arranged}
use Rattle.graph_drawing.specs.Labels.{box_lines}
use Rattle.graph_drawing.specs.Svg.{box_of, omitted_words}

-- how a node looks
abbrev pub head_style : Bool → List ℕ
head_style head = if head then codes ", penwidth=3" else []

abbrev pub void_style : Option ℕ → List ℕ
void_style None = []
void_style (Some reason) = codes ", style=dashed"

-- an id between quotes, which are the byte 34
unfoldable pub named : UpdateId → List ℕ
named id = 34 ∷ (id_text id ++ 34 ∷ [])

-- how a node looks
unfoldable pub dot_look : Spot → List ℕ
dot_look spot = codes ">" ++ (head_style spot.head ++ (void_style spot.reason ++ codes "]\n"))

-- a node
unfoldable pub dot_node : List TableDef → Spot → List ℕ
dot_node tables spot = named spot.node.id ++ (codes " [label=<" ++ (box_lines Dot tables spot ++ dot_look spot))

-- the line to a predecessor, where it is drawn
abbrev pub dot_edge_to : Spot → Option Spot → List ℕ
dot_edge_to spot None = []
dot_edge_to spot (Some other) = named spot.node.id ++ (codes " -> " ++ (named other.node.id ++ codes "\n"))

abbrev pub dot_edges : List Spot → Spot → List ℕ
dot_edges spots spot = flat_map (λ id. dot_edge_to spot (box_of spots id)) spot.node.preds

-- all that stands above the nodes
unfoldable pub dot_begin : List ℕ
dot_begin = codes "digraph updates {\nrankdir=BT\nnode [shape=box, fontname=monospace]\nlabel=<Each box is an update."

unfoldable pub dot_front : ℕ → List ℕ
dot_front count = dot_begin ++ (omitted_words count ++ codes ">\n")

-- the whole picture
abbrev pub dot_text : List TableDef → ℕ → Arranged → List ℕ
dot_text tables count picture = dot_front count ++ (flat_map (dot_node tables) picture.spots ++ (flat_map (dot_edges picture.spots) picture.spots ++ codes "}\n"))
