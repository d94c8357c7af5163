-- A picture as SVG. Rows go down from the least depth that is drawn, and columns to the right.
use Rattle.std.specs.Prelude.{ℕ, ◌+◌, ◌-◌, ◌*◌, ◌%◌, ◌==◌, Bool, if◌then◌else◌, List, [], ◌∷◌, ◌++◌, codes, find, Option, Some, None}
use Rattle.std.specs.Fmt.{decimal}
use Rattle.std.specs.List.{flat_map, fold}
use Rattle.update_model.specs.declared.update_id.UpdateId.{UpdateId}
use Rattle.update_model.specs.Entry.{same_id}
use Rattle.schema.specs.declared.table_def.TableDef.{TableDef}
use Rattle.graph_drawing.specs.declared.form.Form.TheVariants.{Svg}
use Rattle.graph_drawing.specs.declared.limits.TheConstants.{BOX_HEIGHT, CURVE, DOWN, HALF_WIDTH, LEFT, RIGHT, TOP}
use Rattle.graph_drawing.specs.declared.spot.Spot.{Spot}
use Rattle.graph_drawing.specs.Boxes.{Arranged}
use Rattle.graph_drawing.specs.Labels.{box_lines}
use Rattle.graph_drawing.specs.Words.{around}

-- where a column begins, and where a row does
abbrev pub across : ℕ → ℕ
across column = column * RIGHT + LEFT

abbrev pub down : ℕ → ℕ → ℕ
down least depth = (depth - least) * DOWN + TOP

-- the depth of the first box, which is the least one; the depth of the last one, which is the greatest
abbrev pub first_depth : List Spot → ℕ
first_depth [] = 0
first_depth (spot ∷ spots) = spot.depth

abbrev pub last_depth : List Spot → ℕ
last_depth spots = fold (λ depth spot. spot.depth) 0 spots

-- a text, and a point behind it
abbrev pub point : List ℕ → ℕ → ℕ → List ℕ
point before x y = before ++ (decimal x ++ (codes "," ++ decimal y))

-- the line that leads from a box up to the box of a predecessor
abbrev pub edge : ℕ → Spot → Spot → List ℕ
edge least spot other =
    point (codes "<path d='M") (across spot.column + HALF_WIDTH) (down least spot.depth)
    ++ (point (codes " C") (across spot.column + HALF_WIDTH) (down least spot.depth - CURVE)
    ++ (point (codes " ") (across other.column + HALF_WIDTH) (down least other.depth + BOX_HEIGHT + CURVE)
    ++ (point (codes " ") (across other.column + HALF_WIDTH) (down least other.depth + BOX_HEIGHT)
    ++ codes "'/>\n")))

-- the box of an update, where it is drawn
abbrev pub box_of : List Spot → UpdateId → Option Spot
box_of spots id = find (λ spot. same_id spot.node.id id) spots

-- the line to a predecessor, where its box is drawn
abbrev pub edge_to : ℕ → Spot → Option Spot → List ℕ
edge_to least spot None = []
edge_to least spot (Some other) = edge least spot other

-- the lines to all of them
abbrev pub edges : List Spot → Spot → List ℕ
edges spots spot = flat_map (λ id. edge_to (first_depth spots) spot (box_of spots id)) spot.node.preds

-- how a box looks: by its column, whether it is a head, and whether it does nothing
abbrev pub head_look : Bool → List ℕ
head_look head = if head then codes " head" else []

abbrev pub void_look : Option ℕ → List ℕ
void_look None = []
void_look (Some reason) = codes " void"

unfoldable pub look : Spot → List ℕ
look spot = codes ")' class='c" ++ (decimal (spot.column % 6) ++ (head_look spot.head ++ void_look spot.reason))

-- where a box stands
unfoldable pub place : ℕ → Spot → List ℕ
place least spot = point (codes "<g transform='translate(") (across spot.column) (down least spot.depth)

-- what stands before the lines of a box, and behind them
unfoldable pub box_begin : List ℕ
box_begin = codes "'><rect width='296' height='124' rx='8'/><text x='12' y='6'>"

unfoldable pub box_end : List ℕ
box_end = codes "</text></g>\n"

-- a box
unfoldable pub box_text : List TableDef → ℕ → Spot → List ℕ
box_text tables least spot = place least spot ++ (look spot ++ (box_begin ++ (box_lines Svg tables spot ++ box_end)))

-- that so many of them are not drawn
unfoldable pub omitted_words : ℕ → List ℕ
omitted_words count = if count == 0 then [] else around (codes " Only the newest are drawn: ") count (codes " older ones are left out.")

-- the looks of all that is drawn
unfoldable pub style_text : List ℕ
style_text =
    codes "<style>text{font:12px monospace;fill:#222}rect{fill:#fff;stroke:#667}path{fill:none;stroke:#99a}\n"
    ++ (codes ".c0 rect{fill:#e8f1fb}.c1 rect{fill:#fdf1dd}.c2 rect{fill:#e6f5e6}\n"
    ++ (codes ".c3 rect{fill:#fbe8ee}.c4 rect{fill:#efe9fa}.c5 rect{fill:#eef0d8}\n"
    ++ codes ".head rect{stroke:#1a5fb4;stroke-width:3}.void rect{stroke-dasharray:7 5;fill:#fafafa}.void text{fill:#778}</style>\n"))

-- what the picture shows
unfoldable pub legend_begin : List ℕ
legend_begin =
    codes "<text x='40' y='24'>Each box is an update, below its predecessors: its id, the end of its author's key, and what it does.</text>\n"
    ++ codes "<text x='40' y='42'>A column is one author's. Bold blue: a head. Dashed: void, it does nothing."

unfoldable pub legend_end : List ℕ
legend_end = codes "</text>\n"

-- what the picture begins with
unfoldable pub svg_begin : List ℕ
svg_begin = codes "<svg xmlns='http://www.w3.org/2000/svg' width='"

-- the size of the picture
unfoldable pub opening : ℕ → ℕ → List ℕ
opening width height = svg_begin ++ (decimal width ++ (codes "' height='" ++ (decimal height ++ codes "'>\n")))

-- all that stands above the lines and the boxes
unfoldable pub front : ℕ → ℕ → ℕ → List ℕ
front width height count = opening width height ++ (style_text ++ (legend_begin ++ (omitted_words count ++ legend_end)))

-- the lines, and the boxes above them
unfoldable pub drawn_boxes : List TableDef → List Spot → List ℕ
drawn_boxes tables spots = flat_map (edges spots) spots ++ (flat_map (box_text tables (first_depth spots)) spots ++ codes "</svg>\n")

-- the whole picture
abbrev pub svg_text : List TableDef → ℕ → Arranged → List ℕ
svg_text tables count picture =
    front (across picture.width) (down (first_depth picture.spots) (last_depth picture.spots) + DOWN) count ++ drawn_boxes tables picture.spots
