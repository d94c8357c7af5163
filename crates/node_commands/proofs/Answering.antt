-- From what the parts of a command answer to what it comes to.
use Rattle.std.proofs.Common.{◌≡◌, ◌⊎◌, inl, inr, ℕ, ◌≤◌, Bool, List, refl, ap, subst, Option, None, Some, Ok, Err, Vec}
use Rattle.std.specs.declared.alloc.Global.{Global}
use Rattle.update_model.specs.Rule.{RuleData}
use Rattle.update_stream.specs.declared.reading.Reading.TheVariants.{Whole}
use Rattle.update_stream.specs.Told.{Reads}
use Rattle.row_check.specs.Checksum.{is_luhn}
use Rattle.confluence_test.specs.Taking.{RefusesSchema, TakesSchema}
use Rattle.confluence_test.specs.declared.refusal.SchemaRefusal.{SchemaRefusal}
use Rattle.confluence_test.specs.declared.refusal.SchemaRefusal.TheVariants as taking
use Rattle.outcomes.specs.declared.refusal.Refusal.{Refusal}
use Rattle.schema.specs.Data.{SchemaData}
use Rattle.update_check.specs.Members.{AreMembers}
use Rattle.node_commands.specs.Bundle.{DumpAnswer, holds, HoldsText, lacks, LacksText, PrintsTables, stopped, taken, refused as text_refused, whole}
use Rattle.node_commands.specs.Heads.{HeadsAnswer, refused, StopsAt}
use Rattle.outcomes.specs.Outcome.{ComesTo, IsFault, Outcome, from_taking, from_verdict}
use Rattle.node_commands.specs.Verdict.{CheckAnswer}
use Rattle.schema_verdict.specs.Verdict.{CheckAnswer as IsVerdict, IsFault as IsVerdictFault, OutcomeOf, confluent, refused as check_is_refused}
use Rattle.schema_verdict.specs.declared.refusal.VerdictRefusal.{VerdictRefusal}
use Rattle.schema_verdict.specs.declared.refusal.VerdictRefusal.TheVariants.{NotTaken}
use Rattle.outcomes.proofs.Saying.{rose_later}

-- ---- refusals of commands

pub heads_refused : (before after : Option (List ℕ)) (old new : ℕ) (r : Refusal) → StopsAt None before after old new r → ComesTo HeadsAnswer before after old new (Err r)
heads_refused before after old new r (inl s) = inl (refused s.0 s.1.0 s.1.1 (λ i. Err (s.1.2 i)))
heads_refused before after old new r (inr fault) = inr fault

-- an outcome of a verdict, as a command tells it
abbrev told_here : OutcomeOf VerdictRefusal → Outcome
told_here (Ok text) = Ok text
told_here (Err refusal) = Err (from_verdict refusal)

check_told : (before after : Option (List ℕ)) (outcome : OutcomeOf VerdictRefusal) → IsVerdict NotTaken before after outcome → CheckAnswer before after (told_here outcome)
check_told before after (Ok text) (confluent t schema read takes prints) = confluent t schema read takes prints
check_told before after (Err refusal) (confluent t schema read takes prints) = absurd prints
check_told before after outcome (check_is_refused t why read refuses is) = check_is_refused t why read refuses (ap told_here is)

pub check_done : (before after : Option (List ℕ)) (text : Vec ℕ Global) → IsVerdict NotTaken before after (Ok text) → CheckAnswer before after (Ok text)
check_done before after text is = check_told before after (Ok text) is

pub check_refused : (before after : Option (List ℕ)) (old new : ℕ) (refusal : VerdictRefusal) → IsVerdict NotTaken before after (Err refusal) ⊎ IsVerdictFault old new refusal
    → ComesTo CheckAnswer before after old new (Err (from_verdict refusal))
check_refused before after old new refusal (inl is) = inl (check_told before after (Err refusal) is)
check_refused before after old new refusal (inr (inl memory)) = inr (inl (ap from_verdict memory))
check_refused before after old new refusal (inr (inr failed)) = inr (inr (ap from_verdict failed.0, failed.1))

pub dump_lacks : (json : Bool) (before after : Option (List ℕ)) (old new : ℕ) (r : Refusal) → LacksText before after r ⊎ IsFault old new r → ComesTo (DumpAnswer json) before after old new (Err r)
dump_lacks json before after old new r (inl none) = inl (lacks r none refl)
dump_lacks json before after old new r (inr fault) = inr fault

pub dump_refused : (json : Bool) (before after : Option (List ℕ)) (old new : ℕ) (declared : List ℕ) (why : SchemaRefusal) → HoldsText before after declared
    → RefusesSchema is_luhn declared why ⊎ (why ≡ taking.Memory) → ComesTo (DumpAnswer json) before after old new (Err (from_taking why))
dump_refused json before after old new declared why held (inl refuses) = inl (holds declared after held (text_refused why refuses refl refl))
dump_refused json before after old new declared why held (inr memory) = inr (inl (ap from_taking memory))

pub dump_stopped : (json : Bool) (before mid after : Option (List ℕ)) (old between new : ℕ) (declared : List ℕ) (schema : SchemaData) (given : Option RuleData) (r : Refusal) → HoldsText before mid declared
    → TakesSchema is_luhn declared schema → given ≡ Some schema.rule → old ≤ between → StopsAt given mid after between new r → ComesTo (DumpAnswer json) before after old new (Err r)
dump_stopped json before mid after old between new declared schema given r held takes is later stops = by (subst (λ (g : Option RuleData). StopsAt g mid after between new r) is stops)
  where
    by : StopsAt (Some schema.rule) mid after between new r → ComesTo (DumpAnswer json) before after old new (Err r)
    by (inl s) = inl (holds declared mid held (taken schema takes (stopped s.0 s.1.0 s.1.1 (λ i. Err (s.1.2 i)))))
    by (inr (inl memory)) = inr (inl memory)
    by (inr (inr failed)) = inr (inr (failed.0, rose_later old between new later failed.1))

pub dump_done : (json : Bool) (before mid after : Option (List ℕ)) (declared : List ℕ) (schema : SchemaData) (given : Option RuleData) (members : List (List ℕ)) (text : Vec ℕ Global) → HoldsText before mid declared
    → TakesSchema is_luhn declared schema → given ≡ Some schema.rule → Reads given mid after (Whole members) → (AreMembers schema.rule members → PrintsTables json schema members text.items) → DumpAnswer json before after (Ok text)
dump_done json before mid after declared schema given members text held takes is reads tables =
    holds declared mid held (taken schema takes (whole members text.items (subst (λ (g : Option RuleData). Reads g mid after (Whole members)) is reads) tables refl))
