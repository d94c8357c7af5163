-- What tables see of a schema and of the updates of a store.
use Rattle.row_check.specs.Checksum.{is_luhn}
use Rattle.schema.specs.Data.{SchemaData}
use Rattle.table_model.specs.Visible.{Rules}
use Rattle.std.specs.Prelude.{ℕ, List, map, reverse}
use Rattle.update_model.specs.Node.{NodeData}
use Rattle.update_check.specs.Signed.{node_of}

-- the rules of a schema, where native checks mean Luhn's
abbrev pub rules_of : SchemaData → Rules
rules_of schema = record { tables = schema.tables; ask = is_luhn }

-- what tables see of the members of a graph, newest first
abbrev pub nodes_of : List (List ℕ) → List NodeData
nodes_of members = reverse (map node_of members)
