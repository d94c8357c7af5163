-- What words come to, from what each part of them comes to.
use Rattle.std.proofs.Common.{◌≡◌, ℕ, ◌≤◌, Bool, true, List, length, take, refl, sym, ap, subst, ◌∙◌, inl, inr, Option, Some, None, Ok, Err}
use Rattle.std.specs.Prelude.{Result, IfOk, IfErr, IsUtf8, MatchBool}
use Rattle.std.specs.Str.{IsValidUpTo}
use Rattle.expression_text.specs.declared.token.Token.{Token}
use Rattle.schema.specs.declared.table_def.TableDef.{TableDef}
use Rattle.schema.specs.Data.{SchemaData}
use Rattle.query.specs.declared.fault.QueryError.{QueryError}
use Rattle.query.specs.declared.fault.QueryError.TheVariants as error
use Rattle.query.specs.declared.fault.QueryKind.{QueryKind}
use Rattle.query.specs.declared.fault.QueryKind.TheVariants.{NotUtf8}
use Rattle.query.specs.declared.query.Query.{Query}
use Rattle.query.specs.declared.stop.Spot.{Spot}
use Rattle.query.specs.declared.stop.Stop.{Stop}
use Rattle.query.specs.declared.stop.Stop.TheVariants as stop
use Rattle.query.specs.declared.stop.Wrong.{Wrong}
use Rattle.query.specs.Data.{ConditionData}
use Rattle.query.specs.Grammar.{condition_in, condition_place, has_condition, keys_in, keys_place, stop_of}
use Rattle.query.specs.Outcome.{Answers, HasCause, IsHead, IsStop, data_of, error_of, fault_at}
use Rattle.query.specs.Pieces.{pieces_of, spot_after}
use Rattle.query.specs.Queries.{QueryData, ConditionRead, ReadsCondition, HasGoodCondition, is_early, IsFormOf, head_by, table_of, lost_in, optional, IsConditionOf, query_of, ends_by, whole_by, Say, spot_of, Reads, FirstFault}

pub stop_for : (P Q : Wrong → Type 0) (s : Stop) → ((w : Wrong) → P w → Q w) → IsStop s P → IsStop s Q
stop_for P Q (stop.Fault wrong) f h = f wrong h
stop_for P Q stop.Memory f h = tt

-- ---- a condition

-- ---- the condition of a query

pub condition_read : (tables : List TableDef) (words : List Token) (read : ConditionRead) → has_condition words ≡ true
    → ReadsCondition tables (table_of tables words) (condition_place words) (condition_in words) read → IsConditionOf tables words (optional read)
condition_read tables words read e reads =
    let found : Result (Option ConditionData) Wrong = optional read in
    subst (λ (h : Bool). MatchBool h ((other : ConditionRead) × ReadsCondition tables (table_of tables words) (condition_place words) (condition_in words) other × (found ≡ optional other)) (found ≡ Ok None)) (sym e) (read, reads, refl)

-- ---- a query

form_good : (words : List Token) → IsFormOf words None → HasGoodCondition words
form_good words (inl x) =
    let none : stop_of words ≡ None = sym x.1 in
    let late = ap (is_early words) none in
    absurd (let p = x.0 in cc)
form_good words (inr (inl x)) = absurd (let p = x.2 in cc)
form_good words (inr (inr x)) = x.1

-- where nothing is wrong before the condition is asked, it is one
pub head_good : (tables : List TableDef) (words : List Token) → IsHead tables words None → HasGoodCondition words
head_good tables words h =
    let step : (form : Option Wrong) → None ≡ head_by tables words form → IsFormOf words form → HasGoodCondition words = elim [
      | Some wrong ↦ λ e f. absurd (cc)
      | None ↦ λ e f. form_good words f
    ] in
    step h.form h.is h.is_form

pub say_head : (tables : List TableDef) (words : List Token) (wrong : Wrong) → IsHead tables words (Some wrong) → Say tables words (Err wrong)
say_head tables words wrong h = record {
  form = h.form;
  found = Ok None;
  is_form = h.is_form;
  is_condition = λ e. absurd (let p = h.is in cc);
  is = ap (λ (x : Option Wrong). whole_by tables words x (Ok None)) h.is;
}

pub say_condition : (tables : List TableDef) (words : List Token) (wrong : Wrong) → IsHead tables words None → IsConditionOf tables words (Err wrong) → Say tables words (Err wrong)
say_condition tables words wrong h condition = record {
  form = h.form;
  found = Err wrong;
  is_form = h.is_form;
  is_condition = λ e. condition;
  is = ap (λ (x : Option Wrong). whole_by tables words x (Err wrong)) h.is;
}

pub say_lost : (tables : List TableDef) (words : List Token) (found : Option ConditionData) (wrong : Wrong) → IsHead tables words None → IsConditionOf tables words (Ok found)
    → lost_in tables (table_of tables words) (keys_place words) (keys_in words) ≡ Some wrong → Say tables words (Err wrong)
say_lost tables words found wrong h condition lost = record {
  form = h.form;
  found = Ok found;
  is_form = h.is_form;
  is_condition = λ e. condition;
  is = ap (ends_by tables words found) (sym lost) ∙ ap (λ (x : Option Wrong). whole_by tables words x (Ok found)) h.is;
}

pub say_whole : (tables : List TableDef) (words : List Token) (found : Option ConditionData) (query : QueryData) → IsHead tables words None → IsConditionOf tables words (Ok found)
    → lost_in tables (table_of tables words) (keys_place words) (keys_in words) ≡ None → query ≡ query_of tables words found → Say tables words (Ok query)
say_whole tables words found query h condition lost is = record {
  form = h.form;
  found = Ok found;
  is_form = h.is_form;
  is_condition = λ e. condition;
  is = ap (λ (q : QueryData). Ok q) is ∙ (ap (ends_by tables words found) (sym lost) ∙ ap (λ (x : Option Wrong). whole_by tables words x (Ok found)) h.is);
}

-- ---- a text

pub cause_broken : (schema : SchemaData) (text : List ℕ) (front : ℕ) (spot : Spot) (e : QueryError) → length text ≤ 4194304 → IsValidUpTo text front
    → spot ≡ spot_after 1 1 (take front text) → e ≡ fault_at spot NotUtf8 → HasCause schema text e
cause_broken schema text front spot e few longest is same =
    subst (λ (e : QueryError). HasCause schema text e) (sym same) (inr (inl (record { few = few; front = front; longest = longest; kind_is = refl; spot_is = is })))

pub reads_from : (schema : SchemaData) (text : List ℕ) (query : QueryData) (words : List Token) → length text ≤ 4194304 → IsUtf8 text → words ≡ (pieces_of text).0
    → Say schema.tables words (Ok query) → Reads schema text query
reads_from schema text query words few utf8 same says =
    record { few = few; utf8 = utf8; says = subst (λ (ws : List Token). Say schema.tables ws (Ok query)) same says }

pub cause_stop : (schema : SchemaData) (text : List ℕ) (words : List Token) (spots : List Spot) (s : Stop) → length text ≤ 4194304 → IsUtf8 text
    → words ≡ (pieces_of text).0 → spots ≡ (pieces_of text).1 → IsStop s (λ wrong. Say schema.tables words (Err wrong)) → HasCause schema text (error_of spots s)
cause_stop schema text words spots (stop.Fault wrong) few utf8 same places says =
    inr (inr (record {
      few = few;
      utf8 = utf8;
      wrong = wrong;
      says = subst (λ (ws : List Token). Say schema.tables ws (Err wrong)) same says;
      kind_is = refl;
      spot_is = ap (λ (ps : List Spot). spot_of ps wrong.at) places;
    }))
cause_stop schema text words spots stop.Memory few utf8 same places says = tt

-- what the two laws say of what was read
pub only_from : ((schema : SchemaData) (text : List ℕ) (query other : QueryData) → Reads schema text query → Reads schema text other → query ≡ other)
    → ((schema : SchemaData) (text : List ℕ) (query : QueryData) (kind : QueryKind) (spot : Spot) → Reads schema text query → FirstFault schema text kind spot → ⊥)
    → (schema : SchemaData) (text : List ℕ) (read : Result Query QueryError) → IfOk read (λ query. Reads schema text (data_of query)) → IfErr read (λ e. HasCause schema text e)
    → (query : QueryData) → Reads schema text query → Answers read query
only_from one none schema text (Ok query) found fault wanted reads = one schema text (data_of query) wanted found reads
only_from one none schema text (Err (error.Fault f)) found fault wanted reads = none schema text wanted f.kind (record { line = f.line; column = f.column }) reads fault
only_from one none schema text (Err error.Memory) found fault wanted reads = tt
