use Rattle.std.proofs.Common.{◌≡◌, ◌⊎◌, ◌∙◌, ℕ, List, Ok, Err, IfOk, inl, inr, ap, subst}
use Rattle.std.specs.Prelude.{IfErr}
use Rattle.std.proofs.lemmas.Result.{err_from_is_err_and}
use Rattle.csv_text.specs.Csv.{csv_text}
use Rattle.query.specs.Outcome.{data_of as query_data}
use Rattle.query.specs.Queries.{QueryData, Reads}
use Rattle.query_answer.specs.Answers.{AnswerData, IsAnswerOver}
use Rattle.outcomes.specs.Outcome.{Outcome}
use Rattle.outcomes.specs.Rules.{nodes_of, rules_of}
use Rattle.outcomes.specs.declared.refusal.Refusal.{Refusal}
use Rattle.outcomes.specs.declared.refusal.Refusal.TheVariants.{Memory}
use Rattle.schema.specs.Data.{SchemaData}
use Rattle.look_commands.specs.Queries.{AnswersQuery, answers, query_for}
use Rattle.look_commands.proofs.Refusals.{query_refused}
use Rattle.look_commands.proofs.answers.answer_text.Goals as goal

-- an answer, or want of memory
answered : (text : List ℕ) (schema : SchemaData) (members : List (List ℕ)) (query : QueryData) (outcome : Outcome) → Reads schema text query
    → IfOk outcome (λ lines. (answer : AnswerData) × IsAnswerOver (rules_of schema) (nodes_of members) query answer × (lines.items ≡ csv_text answer))
    → IfErr outcome (λ refusal. refusal ≡ Memory) → AnswersQuery text schema members outcome ⊎ (outcome ≡ Err Memory)
answered text schema members query (Ok lines) reads found memory = inl (answers query found.0 reads found.1 found.2)
answered text schema members query (Err refusal) reads found memory = inr (ap Err memory)

pub returns-in_err-query : goal.returns-in_err-query
returns-in_err-query c =
    let p = err_from_is_err_and c.from_residual-in_err-query.result c.from_residual-in_err-query.ensures.1 in
    let schema = c.args.members.schema.now in
    let members = c.args.members.graph.now in
    let outcome = c.from_residual-in_err-query.result in
    let same : c.deref.result.now ≡ query_for c.args.text.now = c.deref.ensures.value ∙ c.in_ok-asked.ensures ∙ ap query_for c.as_bytes.ensures.value in
    subst (λ (text : List ℕ). AnswersQuery text schema members outcome ⊎ (outcome ≡ Err Memory)) same
    (query_refused c.deref.result.now schema members c.in_err-query.field-0.0 outcome c.in_err-query.ensures.fault (p.1 ∙ ap (λ (r : Refusal). Err r) p.2))

pub returns : goal.returns
returns c =
    let schema = c.args.members.schema.now in
    let members = c.args.members.graph.now in
    let outcome = c.csv_over.result in
    let same : c.deref.result.now ≡ query_for c.args.text.now = c.deref.ensures.value ∙ c.in_ok-asked.ensures ∙ ap query_for c.as_bytes.ensures.value in
    subst (λ (text : List ℕ). AnswersQuery text schema members outcome ⊎ (outcome ≡ Err Memory)) same
    (answered c.deref.result.now schema members (query_data c.in_ok-query.query) outcome c.in_ok-query.ensures.found c.csv_over.ensures.answer c.csv_over.ensures.memory)
