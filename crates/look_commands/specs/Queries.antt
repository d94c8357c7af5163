-- What a query over members comes to, whose answer is printed as comma-separated values.
use Rattle.std.specs.Prelude.{◌≡◌, ℕ, List, [], ◌++◌, codes, if◌then◌else◌, Err}
use Rattle.std.specs.List.{list_all}
use Rattle.csv_text.specs.Csv.{csv_text}
use Rattle.query.specs.Queries.{FirstFault, QueryData, Reads}
use Rattle.query.specs.declared.fault.QueryFault.{QueryFault}
use Rattle.query_answer.specs.Answers.{AnswerData, IsAnswerOver}
use Rattle.outcomes.specs.declared.refusal.Refusal.TheVariants.{Query}
use Rattle.outcomes.specs.Outcome.{Outcome}
use Rattle.outcomes.specs.Rules.{nodes_of, rules_of}
use Rattle.schema.specs.Data.{SchemaData}
use Rattle.schema_verdict.specs.Verdict.{Prints}
use Rattle.text_words.specs.Names.{is_name_byte}

-- what a query has in front of a text: one that has none but the bytes of names is that of a table, all of which is asked for
abbrev pub query_front : List ℕ → List ℕ
query_front text = if list_all is_name_byte text then codes "SELECT * FROM " else []

-- the query that a text is
abbrev pub query_for : List ℕ → List ℕ
query_for text = query_front text ++ text

-- The text is a query over the tables of the schema, and its answer over what members show is printed; or it is none, and its first fault is told.
pub data AnswersQuery (text : List ℕ) (schema : SchemaData) (members : List (List ℕ)) (outcome : Outcome) : Type 0 where
  answers : (query : QueryData) (answer : AnswerData) → Reads schema text query → IsAnswerOver (rules_of schema) (nodes_of members) query answer
      → Prints outcome (csv_text answer) → AnswersQuery text schema members outcome
  faulted : (fault : QueryFault) → FirstFault schema text fault.kind (record { line = fault.line; column = fault.column })
      → outcome ≡ Err (Query fault) → AnswersQuery text schema members outcome
