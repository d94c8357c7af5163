-- A text has one answer: it declares one schema, whose first invariant that is refused is one, or it has one first fault.
use Rattle.std.proofs.Common.{◌≡◌, ℕ, Bool, true, false, List, [], ◌∷◌, ◌++◌, sym, ap, subst, ◌∙◌}
use Rattle.std.proofs.lemmas.Bool.{and_parts}
use Rattle.table_model.specs.declared.counterexample.Counterexample.{Counterexample}
use Rattle.schema_text.specs.declared.fault.SchemaKind.{SchemaKind}
use Rattle.table_model.specs.declared.invariant.Invariant.{Invariant}
use Rattle.confluence_laws.specs.Confluence.{accepts, are_accepted}
use Rattle.confluence_laws.specs.Examples.{example_of}
use Rattle.table_model.specs.Invariants.{Declared, invariants_of}
use Rattle.schema.specs.Data.{Meaning, SchemaData}
use Rattle.schema_text.specs.Schemas.{Declares, FirstFault}
use Rattle.table_model.specs.Visible.{Rules, rules_with}
use Rattle.confluence_test.specs.Tests.{IsRefused}
use Rattle.confluence_test.specs.declared.refusal.SchemaRefusal.{SchemaRefusal}
use Rattle.confluence_test.specs.declared.refusal.SchemaRefusal.TheVariants.{Schema, NotConfluent}
use Rattle.confluence_test.specs.Taking.{TakesSchema, RefusesSchema, fault, not_confluent}

-- what is known of schemas: a text declares one, or has one first fault, and not both
pub record SchemaLaws : Type 0 where
  pub one_schema : (relation : Meaning) (text : List ℕ) (schema other : SchemaData) → Declares relation text schema → Declares relation text other → schema ≡ other
  pub one_fault : (relation : Meaning) (text : List ℕ) (kind other : SchemaKind) (line place : ℕ)
      → FirstFault relation text kind line → FirstFault relation text other place → (kind ≡ other) × (line ≡ place)
  pub no_fault : (relation : Meaning) (text : List ℕ) (schema : SchemaData) (kind : SchemaKind) (line : ℕ)
      → Declares relation text schema → FirstFault relation text kind line → ⊥

-- an invariant of those that are all accepted is accepted
accepted_middle : (rules : Rules) (earlier later : List Declared) (declared : Declared) → are_accepted rules (earlier ++ declared ∷ later) ≡ true → accepts rules declared.claim ≡ true
accepted_middle rules [] later declared all = (and_parts (accepts rules declared.claim) (are_accepted rules later) all).0
accepted_middle rules (d ∷ ds) later declared all = accepted_middle rules ds later declared ((and_parts (accepts rules d.claim) (are_accepted rules (ds ++ declared ∷ later)) all).1)

not_both : (b : Bool) → b ≡ true → b ≡ false → ⊥
not_both true t f = absurd cc
not_both false t f = absurd cc

-- the first that is refused, found twice in one list, is one
first_once : (rules : Rules) (a b : List Declared) (x y : Declared) (xs ys : List Declared) → a ++ x ∷ xs ≡ b ++ y ∷ ys
    → are_accepted rules a ≡ true → are_accepted rules b ≡ true → accepts rules x.claim ≡ false → accepts rules y.claim ≡ false → x ≡ y
first_once rules [] [] x y xs ys same all each bad worse = cc
first_once rules [] (d ∷ ds) x y xs ys same all each bad worse =
    let is : x ≡ d = cc in
    absurd (not_both (accepts rules x.claim) (ap (λ (e : Declared). accepts rules e.claim) is ∙ (and_parts (accepts rules d.claim) (are_accepted rules ds) each).0) bad)
first_once rules (d ∷ ds) [] x y xs ys same all each bad worse =
    let is : d ≡ y = cc in
    absurd (not_both (accepts rules y.claim) (ap (λ (e : Declared). accepts rules e.claim) (sym is) ∙ (and_parts (accepts rules d.claim) (are_accepted rules ds) all).0) worse)
first_once rules (d ∷ ds) (e ∷ es) x y xs ys same all each bad worse =
    let rest : ds ++ x ∷ xs ≡ es ++ y ∷ ys = cc in
    first_once rules ds es x y xs ys rest (and_parts (accepts rules d.claim) (are_accepted rules ds) all).1 (and_parts (accepts rules e.claim) (are_accepted rules es) each).1 bad worse

-- a schema's refusal is one
refused_once : (rules : Rules) (which place : Invariant) (example other : Counterexample) → IsRefused rules which example → IsRefused rules place other → (which ≡ place) × (example ≡ other)
refused_once rules which place example other a b =
    let same = first_once rules a.earlier b.earlier a.declared b.declared a.first.later b.first.later (sym a.first.split ∙ b.first.split) a.first.accepted b.first.accepted a.first.refused b.first.refused in (
      a.place ∙ ap (λ (d : Declared). d.which) same ∙ sym b.place,
      a.built ∙ ap (λ (d : Declared). example_of rules d.claim) same ∙ sym b.built,
    )

-- a schema that is taken is not refused
accepted_or_refused : (rules : Rules) (which : Invariant) (example : Counterexample) → are_accepted rules (invariants_of rules) ≡ true → IsRefused rules which example → ⊥
accepted_or_refused rules which example all r =
    not_both (accepts rules r.declared.claim)
    (accepted_middle rules r.earlier r.first.later r.declared (ap (are_accepted rules) (sym r.first.split) ∙ all))
    r.first.refused

pub taken_or_refused : SchemaLaws → (ask : Meaning) (text : List ℕ) (schema : SchemaData) (refusal : SchemaRefusal) → TakesSchema ask text schema → RefusesSchema ask text refusal → ⊥
taken_or_refused laws ask text schema refusal taken (fault first is e) = laws.no_fault ask text schema first.kind first.line taken.declares is
taken_or_refused laws ask text schema refusal taken (not_confluent other which example declares refuted e) =
    let same : schema ≡ other = laws.one_schema ask text schema other taken.declares declares in
    accepted_or_refused (rules_with ask other.tables) which example
    (subst (λ (s : SchemaData). are_accepted (rules_with ask s.tables) (invariants_of (rules_with ask s.tables)) ≡ true) same taken.accepted)
    refuted.refused

pub refuses_once : SchemaLaws → (ask : Meaning) (text : List ℕ) (a b : SchemaRefusal) → RefusesSchema ask text a → RefusesSchema ask text b → a ≡ b
refuses_once laws ask text a b (fault x i e) (fault y j f) =
    let same = laws.one_fault ask text x.kind y.kind x.line y.line i j in
    e ∙ (λ k. Schema (record { kind = same.0 k; line = same.1 k })) ∙ sym f
refuses_once laws ask text a b (fault x i e) (not_confluent s w c d r f) = absurd (laws.no_fault ask text s x.kind x.line d i)
refuses_once laws ask text a b (not_confluent s w c d r f) (fault x i e) = absurd (laws.no_fault ask text s x.kind x.line d i)
refuses_once laws ask text a b (not_confluent s w c d r e) (not_confluent t v k g q f) =
    let same : s ≡ t = laws.one_schema ask text s t d g in
    let moved : IsRefused (rules_with ask t.tables) w c = subst (λ (x : SchemaData). IsRefused (rules_with ask x.tables) w c) same r.refused in
    let one = refused_once (rules_with ask t.tables) w v c k moved q.refused in
    e ∙ (λ i. NotConfluent (same i) (one.0 i) (one.1 i)) ∙ sym f
