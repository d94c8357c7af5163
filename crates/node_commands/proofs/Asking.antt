-- A query over a store.
use Rattle.std.proofs.Common.{◌≡◌, ◌⊎◌, inl, inr, ℕ, Bool, List, [], map, ap, subst, Err}
use Rattle.update_model.specs.declared.update_id.UpdateId.{UpdateId}
use Rattle.update_model.specs.Entry.{Entry}
use Rattle.update_model.specs.Graph.{AreHeads, Follows, HaveSameMembers}
use Rattle.update_model.specs.Node.{NodeData}
use Rattle.update_codec.specs.Parts.{entry_of}
use Rattle.update_check.specs.Members.{AreMembers}
use Rattle.head_set.specs.Grown.{NoCollision}
use Rattle.table_model.specs.Nodes.{IsClosed, IsSameSet}
use Rattle.table_model.specs.Visible.{Rules}
use Rattle.schema.specs.Data.{SchemaData}
use Rattle.query.specs.Queries.{QueryData, FirstFault, Reads}
use Rattle.query.specs.Outcome.{HasCause}
use Rattle.query.specs.declared.fault.QueryError.{QueryError}
use Rattle.query.specs.declared.fault.QueryError.TheVariants as query_errors
use Rattle.query.specs.declared.fault.QueryKind.{QueryKind}
use Rattle.query_answer.specs.Answers.{AnswerData, IsAnswerOver}
use Rattle.store_directory.specs.Stores.{StoreData}
use Rattle.outcomes.specs.declared.refusal.Refusal.TheVariants.{Memory, Query}
use Rattle.node_commands.specs.Asking.{HasAnswer, QueryAnswer, answer_text, answers, faulted}
use Rattle.outcomes.specs.Rules.{nodes_of, rules_of}
use Rattle.outcomes.specs.Outcome.{Outcome, from_query}
use Rattle.outcomes.proofs.Same.{Same, same_prints, same_refused}
use Rattle.node_commands.proofs.Orders.{rows_there}
use Rattle.node_commands.proofs.Tables.{TableLaws, nodes_closed, same_nodes}

-- what is known of queries and their answers
pub record QueryLaws : Type 0 where
  pub one_query : (schema : SchemaData) (text : List ℕ) (query other : QueryData) → Reads schema text query → Reads schema text other → query ≡ other
  pub one_fault : (schema : SchemaData) (text : List ℕ) (kind other : QueryKind) (spot place : _) → FirstFault schema text kind spot → FirstFault schema text other place → (kind ≡ other) × (spot ≡ place)
  pub no_fault : (schema : SchemaData) (text : List ℕ) (query : QueryData) (kind : QueryKind) (spot : _) → Reads schema text query → FirstFault schema text kind spot → ⊥
  pub one_answer : (rules : Rules) (nodes : List NodeData) (query : QueryData) (answer other : AnswerData) → IsAnswerOver rules nodes query answer → IsAnswerOver rules nodes query other → answer ≡ other

-- an answer over the one order is the answer over the other
answer_there : (rules : Rules) (xs ys : List NodeData) → IsClosed xs → IsClosed ys → IsSameSet xs ys → (query : QueryData) (answer : AnswerData) → IsAnswerOver rules xs query answer → IsAnswerOver rules ys query answer
answer_there rules xs ys c d same query answer a = record {
  tables = a.tables;
  shown = record { number = a.shown.number; rows = λ number rows at. rows_there rules xs ys c d same number rows (a.shown.rows number rows at) };
  is = a.is;
}

pub has_answer : TableLaws → ((graph other : List Entry) (heads : List UpdateId) → Follows [] graph → Follows [] other → NoCollision graph other → AreHeads graph heads → AreHeads other heads → HaveSameMembers graph other)
    → (schema : SchemaData) (members : List (List ℕ)) (query : QueryData) (answer : AnswerData) → AreMembers schema.rule members → IsAnswerOver (rules_of schema) (nodes_of members) query answer
    → HasAnswer schema members query answer
has_answer laws equal_heads schema members query answer taken is = record {
  is = is;
  determined = λ others heads theirs apart a b.
      let same = equal_heads (map entry_of members) (map entry_of others) heads taken.closed theirs.closed apart a b in (
        same,
        answer_there (rules_of schema) (nodes_of members) (nodes_of others) (nodes_closed laws members taken.closed) (nodes_closed laws others theirs.closed)
            (same_nodes laws members others taken.closed theirs.closed same) query answer is,
      );
}

-- a store answers a text in one way
pub query_once : QueryLaws → (text : List ℕ) (json : Bool) (store : StoreData) (a b : Outcome) → QueryAnswer text json store a → QueryAnswer text json store b → Same a b
query_once laws text json store a b (answers query answer reads has p) (answers other another read had q) =
    let one : query ≡ other = laws.one_query store.schema text query other reads read in
    let is = subst (λ (x : QueryData). IsAnswerOver (rules_of store.schema) (nodes_of store.members) x answer) one has.is in
    same_prints a b (answer_text json answer) (answer_text json another) (ap (answer_text json) (laws.one_answer (rules_of store.schema) (nodes_of store.members) other answer another is had.is)) p q
query_once laws text json store a b (answers query answer reads has p) (faulted fault first is) = absurd (laws.no_fault store.schema text query fault.kind _ reads first)
query_once laws text json store a b (faulted fault first is) (answers query answer reads has p) = absurd (laws.no_fault store.schema text query fault.kind _ reads first)
query_once laws text json store a b (faulted fault first is) (faulted other another so) =
    let same = laws.one_fault store.schema text fault.kind other.kind _ _ first another in
    same_refused a b (Query fault) (Query other) (λ i. Query (record { line = (same.1 i).line; column = (same.1 i).column; kind = same.0 i })) is so

-- a text that is no query is told so
pub query_refused : (text : List ℕ) (json : Bool) (store : StoreData) (error : QueryError) (outcome : Outcome) → HasCause store.schema text error → outcome ≡ Err (from_query error)
    → QueryAnswer text json store outcome ⊎ (outcome ≡ Err Memory)
query_refused text json store (query_errors.Fault fault) outcome first is = inl (faulted fault first is)
query_refused text json store query_errors.Memory outcome first is = inr is
