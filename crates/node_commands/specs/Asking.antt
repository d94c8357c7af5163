-- What a query comes to over a store.
use Rattle.std.specs.Prelude.{◌≡◌, ℕ, Bool, cond, List, map, Err}
use Rattle.update_model.specs.declared.update_id.UpdateId.{UpdateId}
use Rattle.update_model.specs.Graph.{AreHeads, HaveSameMembers}
use Rattle.update_codec.specs.Parts.{entry_of}
use Rattle.update_check.specs.Members.{AreMembers}
use Rattle.head_set.specs.Grown.{NoCollision}
use Rattle.schema.specs.Data.{SchemaData}
use Rattle.query.specs.Queries.{QueryData, FirstFault, Reads}
use Rattle.query.specs.declared.fault.QueryFault.{QueryFault}
use Rattle.query_answer.specs.Answers.{AnswerData, IsAnswerOver}
use Rattle.query_answer.specs.Json.{json_text}
use Rattle.query_answer.specs.Lines.{lines_text}
use Rattle.store_directory.specs.Stores.{StoreData}
use Rattle.outcomes.specs.declared.refusal.Refusal.TheVariants.{Query}
use Rattle.outcomes.specs.Rules.{nodes_of, rules_of}
use Rattle.outcomes.specs.Outcome.{Outcome}
use Rattle.schema_verdict.specs.Verdict.{Prints}

-- the text of an answer: JSON, or a line for each row
abbrev pub answer_text : Bool → AnswerData → List ℕ
answer_text json answer = cond json (json_text answer) (lines_text answer.rows)

-- The answer of a query over what members show. Whatever other members have the same heads, where one id means one update, they are the same set, and
-- it is the answer over what they show.
pub record HasAnswer (schema : SchemaData) (members : List (List ℕ)) (query : QueryData) (answer : AnswerData) : Type 0 where
  pub is : IsAnswerOver (rules_of schema) (nodes_of members) query answer
  pub determined : (others : List (List ℕ)) (heads : List UpdateId) → AreMembers schema.rule others → NoCollision (map entry_of members) (map entry_of others)
      → AreHeads (map entry_of members) heads → AreHeads (map entry_of others) heads
      → HaveSameMembers (map entry_of members) (map entry_of others) × IsAnswerOver (rules_of schema) (nodes_of others) query answer

-- The text is a query over the tables of the store, and its answer is printed; or it is none, and its first fault is told.
pub data QueryAnswer (text : List ℕ) (json : Bool) (store : StoreData) (outcome : Outcome) : Type 0 where
  answers : (query : QueryData) (answer : AnswerData) → Reads store.schema text query → HasAnswer store.schema store.members query answer
      → Prints outcome (answer_text json answer) → QueryAnswer text json store outcome
  faulted : (fault : QueryFault) → FirstFault store.schema text fault.kind (record { line = fault.line; column = fault.column })
      → outcome ≡ Err (Query fault) → QueryAnswer text json store outcome
