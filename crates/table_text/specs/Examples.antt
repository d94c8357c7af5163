-- Counterexamples as they are printed. A blank is the byte 32, and an LF is 10.
use Rattle.std.specs.Prelude.{ℕ, List, [], ◌∷◌, ◌++◌, codes}
use Rattle.std.specs.Fmt.{decimal}
use Rattle.std.specs.List.{flat_map}
use Rattle.update_model.specs.Node.{NodeData}
use Rattle.update_model.specs.declared.op.Op.{Op}
use Rattle.update_model.specs.declared.update_id.UpdateId.{UpdateId}
use Rattle.table_model.specs.declared.counterexample.Counterexample.{Counterexample}
use Rattle.schema.specs.declared.table_def.TableDef.{TableDef}
use Rattle.table_text.specs.declared.name_style.NameStyle.TheVariants.{Short}
use Rattle.table_text.specs.Names.{number_of}
use Rattle.table_text.specs.Operations.{operation_text}

-- the line of an operation: the side that it stands on, the number of its update, and what it does
abbrev pub step_text : List TableDef → (side : List ℕ) → UpdateId → Op → List ℕ
step_text tables side id op = side ++ 32 ∷ decimal (number_of id) ++ 32 ∷ operation_text tables Short op ++ 10 ∷ []

-- a line for each operation of a node
abbrev pub node_text : List TableDef → (side : List ℕ) → NodeData → List ℕ
node_text tables side node = flat_map (step_text tables side node.id) node.ops

-- a line for each operation of each node of a side
abbrev pub side_text : List TableDef → (side : List ℕ) → List NodeData → List ℕ
side_text tables side nodes = flat_map (node_text tables side) nodes

-- a counterexample: the common base, and then the two sides `A` and `B`
abbrev pub example_text : List TableDef → Counterexample → List ℕ
example_text tables example =
    side_text tables (codes "BASE") example.base ++ side_text tables (codes "A") example.left ++ side_text tables (codes "B") example.right
