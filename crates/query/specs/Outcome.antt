-- What calls that read a query returned.
use Rattle.std.specs.Prelude.{◌≡◌, ℕ, List, Option, Result, Ok, Err}
use Rattle.expression_text.specs.declared.token.Token.{Token}
use Rattle.schema.specs.declared.table_def.TableDef.{TableDef}
use Rattle.schema.specs.Data.{SchemaData}
use Rattle.query.specs.declared.fault.QueryError.{QueryError}
use Rattle.query.specs.declared.fault.QueryError.TheVariants as error
use Rattle.query.specs.declared.fault.QueryKind.{QueryKind}
use Rattle.query.specs.declared.query.Query.{Query}
use Rattle.query.specs.declared.stop.Spot.{Spot}
use Rattle.query.specs.declared.stop.Stop.{Stop}
use Rattle.query.specs.declared.stop.Stop.TheVariants as stop
use Rattle.query.specs.declared.stop.Wrong.{Wrong}
use Rattle.query.specs.Queries.{QueryData, FirstFault, IsFormOf, head_by, spot_of}

-- a query as contracts see it
abbrev pub data_of : Query → QueryData
data_of query = record { table = query.table; columns = query.columns.items; condition = query.condition; keys = query.keys.items; limit = query.limit }

-- A call stopped for what is wrong, of which this holds, or for want of memory.
abbrev pub IsStop : Stop → (Wrong → Type 0) → Type 0
IsStop (stop.Fault wrong) P = P wrong
IsStop stop.Memory P = Unit {0}

-- A fault comes where it is the first one; want of memory may come wherever it likes.
abbrev pub HasCause : SchemaData → List ℕ → QueryError → Type 0
HasCause schema text (error.Fault fault) = FirstFault schema text fault.kind (record { line = fault.line; column = fault.column })
HasCause schema text error.Memory = Unit {0}

-- It is this query, unless memory ran out.
abbrev pub Answers : Result Query QueryError → QueryData → Type 0
Answers (Ok query) wanted = data_of query ≡ wanted
Answers (Err (error.Fault fault)) wanted = ⊥
Answers (Err error.Memory) wanted = Unit {0}

-- What may stand before the condition of a query: this is what is wrong there, if anything.
pub record IsHead (tables : List TableDef) (words : List Token) (found : Option Wrong) : Type 0 where
  pub form : Option Wrong
  pub is_form : IsFormOf words form
  pub is : found ≡ head_by tables words form

-- what is wrong at a place
abbrev pub fault_at : Spot → QueryKind → QueryError
fault_at spot kind = error.Fault (record { line = spot.line; column = spot.column; kind = kind })

-- what is wrong at the word where reading stopped
abbrev pub error_of : List Spot → Stop → QueryError
error_of spots (stop.Fault wrong) = fault_at (spot_of spots wrong.at) wrong.kind
error_of spots stop.Memory = error.Memory
