-- From what the parts of a verdict answer to what it comes to.
use Rattle.std.proofs.Common.{◌≡◌, ◌≢◌, ◌⊎◌, inl, inr, ℕ, List, codes, refl, sym, ap, subst, ◌∙◌, Option, Some, Ok, Err, Vec}
use Rattle.std.specs.declared.alloc.Global.{Global}
use Rattle.row_check.specs.Checksum.{is_luhn}
use Rattle.confluence_test.specs.Taking.{RefusesSchema, TakesSchema}
use Rattle.confluence_test.specs.declared.refusal.SchemaRefusal.{SchemaRefusal}
use Rattle.confluence_test.specs.declared.refusal.SchemaRefusal.TheVariants.{Memory}
use Rattle.schema.specs.Data.{SchemaData}
use Rattle.schema_verdict.specs.declared.refusal.VerdictRefusal.{VerdictRefusal}
use Rattle.schema_verdict.specs.declared.refusal.VerdictRefusal.TheVariants.{NotTaken, Stream}
use Rattle.schema_verdict.specs.declared.status.TheConstants.{DONE, REFUSED, STREAM_FAULT}
use Rattle.schema_verdict.specs.Checks.{Checks, SourceState, Verdict, failed, status_of, text_of, told}
use Rattle.schema_verdict.specs.Inputs.{ReadsText}
use Rattle.schema_verdict.specs.Verdict.{CheckAnswer, IsFault, OutcomeOf, confluent, refused, text_for}
use Rattle.schema_verdict.specs.Written.{Puts, SinkState}
use Rattle.schema_verdict.proofs.Reading.{refused_read}

-- a text that was read and is not taken
pub read_refused : (before after : Option (List ℕ)) (old new : ℕ) (read : List ℕ) (why : SchemaRefusal) → ReadsText 65536 before after read
    → RefusesSchema is_luhn read why ⊎ (why ≡ Memory) → CheckAnswer NotTaken before after (Err (NotTaken why)) ⊎ IsFault old new (NotTaken why)
read_refused before after old new read why reads (inl refuses) = inl (refused_read NotTaken before after read why reads refuses)
read_refused before after old new read why reads (inr memory) = inr (inl (ap NotTaken memory))

-- ---- what is said of a verdict

-- the verdict of an outcome
abbrev verdict_of : OutcomeOf VerdictRefusal → Verdict
verdict_of (Ok text) = Ok text
verdict_of (Err (NotTaken why)) = Err why
verdict_of (Err Stream) = Err Memory

own : (before after : Option (List ℕ)) (outcome : OutcomeOf VerdictRefusal) → CheckAnswer NotTaken before after outcome → CheckAnswer (λ why. why) before after (verdict_of outcome)
own before after (Ok text) (confluent t schema read takes prints) = confluent t schema read takes prints
own before after (Err refusal) (confluent t schema read takes prints) = absurd prints
own before after outcome (refused t why read refuses is) = refused t why read refuses (ap verdict_of is)

-- a failed source is no text that is not taken
abbrev IsNotTaken : VerdictRefusal → Type 0
IsNotTaken (NotTaken why) = Unit {0}
IsNotTaken Stream = ⊥

abbrev IsOfText : OutcomeOf VerdictRefusal → Type 0
IsOfText (Ok text) = Unit {0}
IsOfText (Err refusal) = IsNotTaken refusal

of_text : (before after : Option (List ℕ)) (outcome : OutcomeOf VerdictRefusal) → CheckAnswer NotTaken before after outcome → IsOfText outcome
of_text before after (Ok text) answer = tt
of_text before after (Err refusal) (confluent t schema read takes prints) = absurd prints
of_text before after (Err refusal) (refused t why read refuses is) = subst IsOfText (sym is) tt

abbrev why_of : VerdictRefusal → SchemaRefusal
why_of (NotTaken why) = why
why_of Stream = Memory

module _ (source source_new : SourceState) (sink sink_new : SinkState) (status : ℕ) where
  -- a text is put, with its own status
  abbrev PutsText : ℕ → List ℕ → Type 0
  PutsText own_status text = Puts sink.faults sink_new.faults sink.held sink_new.held own_status text status

  pub verdict_told : (text : Vec ℕ Global) → CheckAnswer NotTaken source.left source_new.left (Ok text) → PutsText DONE text.items → Checks source source_new sink sink_new status
  verdict_told text answer puts = told (Ok text) (own source.left source_new.left (Ok text) answer) puts

  pub stream_told : CheckAnswer NotTaken source.left source_new.left (Err Stream) ⊎ IsFault source.faults source_new.faults Stream → PutsText STREAM_FAULT (codes "! stream fault\n")
      → Checks source source_new sink sink_new status
  stream_told (inl answer) puts = absurd (of_text source.left source_new.left (Err Stream) answer)
  stream_told (inr (inl memory)) puts = absurd (subst IsNotTaken (sym memory) tt)
  stream_told (inr (inr rose)) puts = failed rose.1 puts

  pub refusal_told : (why : SchemaRefusal) (lines : List ℕ) → CheckAnswer NotTaken source.left source_new.left (Err (NotTaken why)) ⊎ IsFault source.faults source_new.faults (NotTaken why)
      → (lines ≡ text_for why) × (why ≢ Memory) → PutsText REFUSED lines → Checks source source_new sink sink_new status
  refusal_told why lines (inl answer) is puts = told (Err why) (own source.left source_new.left (Err (NotTaken why)) answer) (subst (PutsText REFUSED) is.0 puts)
  refusal_told why lines (inr (inl memory)) is puts = absurd (is.1 (ap why_of memory))
  refusal_told why lines (inr (inr rose)) is puts = absurd (subst IsNotTaken rose.0 tt)

-- ---- one verdict

-- what is known of schemas: a text is refused for one reason, and is not taken then
pub record TextLaws : Type 0 where
  pub taken_or_refused : (text : List ℕ) (schema : SchemaData) (refusal : SchemaRefusal) → TakesSchema is_luhn text schema → RefusesSchema is_luhn text refusal → ⊥
  pub refused_once : (text : List ℕ) (refusal other : SchemaRefusal) → RefusesSchema is_luhn text refusal → RefusesSchema is_luhn text other → refusal ≡ other

abbrev Same : Verdict → Verdict → Type 0
Same a b = (status_of a ≡ status_of b) × (text_of a ≡ text_of b)

module _ (laws : TextLaws) (input : List ℕ) where
  not_both : (t u : List ℕ) (schema : SchemaData) (why : SchemaRefusal) → t ≡ input → u ≡ input → TakesSchema is_luhn t schema → RefusesSchema is_luhn u why → ⊥
  not_both t u schema why here there takes refuses =
      laws.taken_or_refused input schema why (subst (λ (w : List ℕ). TakesSchema is_luhn w schema) here takes) (subst (λ (w : List ℕ). RefusesSchema is_luhn w why) there refuses)

  same_refused : (t u : List ℕ) (why other : SchemaRefusal) → t ≡ input → u ≡ input → RefusesSchema is_luhn t why → RefusesSchema is_luhn u other → why ≡ other
  same_refused t u why other here there one two =
      laws.refused_once input why other (subst (λ (w : List ℕ). RefusesSchema is_luhn w why) here one) (subst (λ (w : List ℕ). RefusesSchema is_luhn w other) there two)

  pub once : (after other : Option (List ℕ)) (a b : Verdict) → CheckAnswer (λ why. why) (Some input) after a → CheckAnswer (λ why. why) (Some input) other b → Same a b
  once after other (Ok x) (Ok y) (confluent t s h take p) (confluent u r k takes q) = (refl, p ∙ sym q)
  once after other (Err x) b (confluent t s h take p) answer = absurd p
  once after other a (Err y) answer (confluent u r k takes q) = absurd q
  once after other a b (confluent t s h take p) (refused u why k not f) = absurd (not_both t u s why h.0 k.0 take not)
  once after other a b (refused t why h not e) (confluent u s k take p) = absurd (not_both u t s why k.0 h.0 take not)
  once after other a b (refused t why h not e) (refused u other_why k again f) =
      let same : a ≡ b = e ∙ ap Err (same_refused t u why other_why h.0 k.0 not again) ∙ sym f in
      (ap status_of same, ap text_of same)
