-- A query over members.
use Rattle.std.proofs.Common.{◌≡◌, ◌⊎◌, inl, inr, ℕ, List, Err}
use Rattle.query.specs.Outcome.{HasCause}
use Rattle.query.specs.declared.fault.QueryError.{QueryError}
use Rattle.query.specs.declared.fault.QueryError.TheVariants as query_errors
use Rattle.outcomes.specs.declared.refusal.Refusal.TheVariants.{Memory}
use Rattle.outcomes.specs.Outcome.{Outcome, from_query}
use Rattle.schema.specs.Data.{SchemaData}
use Rattle.look_commands.specs.Queries.{AnswersQuery, faulted}

-- a text that is no query is told so
pub query_refused : (text : List ℕ) (schema : SchemaData) (members : List (List ℕ)) (error : QueryError) (outcome : Outcome) → HasCause schema text error → outcome ≡ Err (from_query error)
    → AnswersQuery text schema members outcome ⊎ (outcome ≡ Err Memory)
query_refused text schema members (query_errors.Fault fault) outcome first is = inl (faulted fault first is)
query_refused text schema members query_errors.Memory outcome first is = inr is
