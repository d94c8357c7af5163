-- A line says one thing at most, and so does a script; and a text has one first fault.
use Rattle.std.proofs.Common.{◌≡◌, ℕ, ◌+◌, List, [], ◌∷◌, Option, Some, None, refl, sym, ap, subst, ◌∙◌, arith, inl, inr}
use Rattle.schema.specs.Data.{Meaning, SchemaData}
use Rattle.schema_text.specs.declared.fault.SchemaKind.{SchemaKind}
use Rattle.schema_text.specs.Schemas.{Declares, FirstFault as FirstSchemaFault}
use Rattle.world_script.specs.declared.act.Act.{Act}
use Rattle.world_script.specs.declared.act.Act.TheVariants as act
use Rattle.world_rules.specs.declared.event.Event.TheVariants.{Make}
use Rattle.world_script.specs.declared.fault.ScriptFault.{ScriptFault}
use Rattle.world_script.specs.declared.fault.ScriptFault.TheVariants.{Schema, AtLine}
use Rattle.world_script.specs.declared.heading.Heading.{Heading}
use Rattle.world_script.specs.declared.line.Line.{Line}
use Rattle.world_script.specs.declared.line.Line.TheVariants.{One}
use Rattle.world_script.specs.declared.place.Place.{Place}
use Rattle.world_script.specs.declared.script.Script.{Script}
use Rattle.world_script.specs.Headings.{heading_of}
use Rattle.world_script.specs.Lines.{Makes, Says, SaysAfter, place_after, replica_at}
use Rattle.world_script.specs.Operations.{AreOperations}
use Rattle.world_script.specs.Scripts.{BodyFault, BodySays, FaultIn, FirstFault, IsScript, LinesSay, body, heading_in, lines_before, place_in, schema_part}
use Rattle.world_script.proofs.Parting.{OneTransaction, operations_one}
use Rattle.world_script.proofs.Saying.{says_so}

-- ---- a line

texts_same : (a b : ℕ × List ℕ) (read : Option (ℕ × List ℕ)) → read ≡ Some a → read ≡ Some b → a ≡ b
texts_same a b read e f = cc

makes_one : OneTransaction → (schema : SchemaData) (place : Place) (rest : List ℕ) (a b : Line) → Makes schema place rest a → Makes schema place rest b → a ≡ b
makes_one single schema place rest a b h k =
    let same = texts_same (h.replica, h.text) (k.replica, k.text) (replica_at place rest) h.by_replica k.by_replica in
    let ops = operations_one single schema k.text h.ops k.ops (subst (λ (x : ℕ × List ℕ). AreOperations schema x.1 h.ops) same h.are) k.are in
    let made : One place.number (Make h.replica h.ops) ≡ One place.number (Make k.replica k.ops) = λ i. One place.number (Make (same i).0 (ops i)) in
    h.is ∙ made ∙ sym k.is

some_same : (a b : Line) (o : Option Line) → o ≡ Some a → o ≡ Some b → a ≡ b
some_same a b o e f = cc

after_one : OneTransaction → (schema : SchemaData) (place : Place) (act : Act) (rest : List ℕ) (a b : Line) → SaysAfter schema place act rest a → SaysAfter schema place act rest b → a ≡ b
after_one single schema place act.Make rest a b h k = makes_one single schema place rest a b h k
after_one single schema place act.Open rest a b h k = some_same a b _ h k
after_one single schema place act.Carry rest a b h k = some_same a b _ h k
after_one single schema place act.Run rest a b h k = some_same a b _ h k
after_one single schema place act.Cut rest a b h k = some_same a b _ h k
after_one single schema place act.Feed rest a b h k = some_same a b _ h k
after_one single schema place act.Stop rest a b h k = some_same a b _ h k
after_one single schema place act.Restart rest a b h k = some_same a b _ h k

line_one : OneTransaction → (schema : SchemaData) (place : Place) (line : List ℕ) (a b : Line) → Says schema place line a → Says schema place line b → a ≡ b
line_one single schema place line a b h k = after_one single schema place k.act k.rest a b (says_so schema place line k.act k.rest k.first a h) k.after

-- ---- lines

both_same : (a b : Line) (more other : List Line) → a ≡ b → more ≡ other → a ∷ more ≡ b ∷ other
both_same a b more other e f = λ i. e i ∷ f i

lines_one : OneTransaction → (schema : SchemaData) (place : Place) (lines : List (List ℕ)) (a b : List Line) → LinesSay schema place lines a → LinesSay schema place lines b → a ≡ b
lines_one single schema place [] a b h k = h ∙ sym k
lines_one single schema place (line ∷ lines) a b h k =
    let first = line_one single schema place line h.0 k.0 h.2 k.2 in
    let more = lines_one single schema (place_after place k.0) lines h.1 k.1 (subst (λ (x : Line). LinesSay schema (place_after place x) lines h.1) first h.3) k.3 in
    h.4 ∙ both_same h.0 k.0 h.1 k.1 first more ∙ sym k.4

lines_right : OneTransaction → (schema : SchemaData) (place : Place) (lines : List (List ℕ)) (a : List Line) (number : ℕ) → LinesSay schema place lines a → FaultIn schema place lines number → ⊥
lines_right single schema place [] a number h f = f
lines_right single schema place (line ∷ lines) a number h (inl f) = f.0 h.0 h.2
lines_right single schema place (line ∷ lines) a number h (inr f) =
    let first = line_one single schema place line h.0 f.0 h.2 f.1 in
    lines_right single schema (place_after place f.0) lines h.1 number (subst (λ (x : Line). LinesSay schema (place_after place x) lines h.1) first h.3) f.2

fault_one : OneTransaction → (schema : SchemaData) (place : Place) (lines : List (List ℕ)) (m n : ℕ) → FaultIn schema place lines m → FaultIn schema place lines n → m ≡ n
fault_one single schema place [] m n f g = absurd f
fault_one single schema place (line ∷ lines) m n (inl f) (inl g) = f.1 ∙ sym g.1
fault_one single schema place (line ∷ lines) m n (inl f) (inr g) = absurd (f.0 g.0 g.1)
fault_one single schema place (line ∷ lines) m n (inr f) (inl g) = absurd (g.0 f.0 f.1)
fault_one single schema place (line ∷ lines) m n (inr f) (inr g) =
    let first = line_one single schema place line f.0 g.0 f.1 g.1 in
    fault_one single schema (place_after place g.0) lines m n (subst (λ (x : Line). FaultIn schema (place_after place x) lines m) first f.2) g.2

-- ---- the lines from `WORLD` on

heading_same : (a b : Heading) (o : Option Heading) → o ≡ Some a → o ≡ Some b → a ≡ b
heading_same a b o e f = cc

no_heading : (a : Heading) (o : Option Heading) → o ≡ Some a → o ≡ None → ⊥
no_heading a o e f = cc

body_one : OneTransaction → (schema : SchemaData) (number : ℕ) (lines : List (List ℕ)) (h k : Heading) (a b : List Line) → BodySays schema number lines h a → BodySays schema number lines k b
    → (h ≡ k) × (a ≡ b)
body_one single schema number [] h k a b s t = absurd s
body_one single schema number (world ∷ lines) h k a b s t =
    let same = heading_same h k (heading_of world) s.0 t.0 in
    (same, lines_one single schema (place_in number k) lines a b (subst (λ (x : Heading). LinesSay schema (place_in number x) lines a) same s.1) t.1)

body_right : OneTransaction → (schema : SchemaData) (number : ℕ) (lines : List (List ℕ)) (h : Heading) (a : List Line) (place : ℕ) → BodySays schema number lines h a → BodyFault schema number lines place → ⊥
body_right single schema number [] h a place s f = s
body_right single schema number (world ∷ lines) h a place s (inl f) = no_heading h (heading_of world) s.0 f.0
body_right single schema number (world ∷ lines) h a place s (inr f) =
    let same = heading_same h f.0 (heading_of world) s.0 f.1 in
    lines_right single schema (place_in number f.0) lines a place (subst (λ (x : Heading). LinesSay schema (place_in number x) lines a) same s.1) f.2

body_fault : OneTransaction → (schema : SchemaData) (number : ℕ) (lines : List (List ℕ)) (m n : ℕ) → BodyFault schema number lines m → BodyFault schema number lines n → m ≡ n
body_fault single schema number [] m n f g = f ∙ sym g
body_fault single schema number (world ∷ lines) m n (inl f) (inl g) = f.1 ∙ sym g.1
body_fault single schema number (world ∷ lines) m n (inl f) (inr g) = absurd (no_heading g.0 (heading_of world) g.1 f.0)
body_fault single schema number (world ∷ lines) m n (inr f) (inl g) = absurd (no_heading f.0 (heading_of world) f.1 g.0)
body_fault single schema number (world ∷ lines) m n (inr f) (inr g) =
    let same = heading_same f.0 g.0 (heading_of world) f.1 g.1 in
    fault_one single schema (place_in number g.0) lines m n (subst (λ (x : Heading). FaultIn schema (place_in number x) lines m) same f.2) g.2

-- ---- a whole text

-- a text declares one schema
abbrev pub OneSchema : Type 0
OneSchema = (ask : Meaning) (text : List ℕ) (schema other : SchemaData) → Declares ask text schema → Declares ask text other → schema ≡ other

-- a text that declares a schema has no fault
abbrev pub NoSchemaFault : Type 0
NoSchemaFault = (ask : Meaning) (text : List ℕ) (schema : SchemaData) (kind : SchemaKind) (line : ℕ) → Declares ask text schema → FirstSchemaFault ask text kind line → ⊥

-- a text has one first fault as a schema
abbrev pub OneSchemaFault : Type 0
OneSchemaFault = (ask : Meaning) (text : List ℕ) (kind other : SchemaKind) (line place : ℕ) → FirstSchemaFault ask text kind line → FirstSchemaFault ask text other place
    → (kind ≡ other) × (line ≡ place)

script_same : (a b : Script) → a.schema ≡ b.schema → heading_in a ≡ heading_in b → a.lines ≡ b.lines → a ≡ b
script_same a b s h l = λ i. record { schema = s i; replicas = (h i).replicas; lms = (h i).lms; ots = (h i).ots; number = (h i).number; lines = l i }

pub script_one : OneTransaction → OneSchema → (ask : Meaning) (text : List ℕ) (a b : Script) → IsScript ask text a → IsScript ask text b → a ≡ b
script_one single one ask text a b h k =
    let schema = one ask (schema_part text) h.schema k.schema h.declares k.declares in
    let says = subst (λ (s : SchemaData). BodySays s (lines_before text + 1) (body text) (heading_in a) a.lines) schema h.says in
    let both = body_one single k.schema (lines_before text + 1) (body text) (heading_in a) (heading_in b) a.lines b.lines says k.says in
    script_same a b (h.part ∙ sym k.part) both.0 both.1

pub script_right : OneTransaction → OneSchema → NoSchemaFault → (ask : Meaning) (text : List ℕ) (a : Script) (fault : ScriptFault) → IsScript ask text a → FirstFault ask text fault → ⊥
script_right single one none ask text a (Schema fault) h f = none ask (schema_part text) h.schema fault.kind fault.line h.declares f.1
script_right single one none ask text a (AtLine number) h (inl f) = let short = h.short in let long = f.0 in omega arith
script_right single one none ask text a (AtLine number) h (inr f) =
    let schema = one ask (schema_part text) h.schema f.1.0 h.declares f.1.1 in
    let says = subst (λ (s : SchemaData). BodySays s (lines_before text + 1) (body text) (heading_in a) a.lines) schema h.says in
    body_right single f.1.0 (lines_before text + 1) (body text) (heading_in a) a.lines number says f.1.2

pub fault_same : OneTransaction → OneSchema → NoSchemaFault → OneSchemaFault → (ask : Meaning) (text : List ℕ) (a b : ScriptFault) → FirstFault ask text a → FirstFault ask text b → a ≡ b
fault_same single one none first ask text (Schema a) (Schema b) f g =
    let both = first ask (schema_part text) a.kind b.kind a.line b.line f.1 g.1 in
    λ i. Schema (record { kind = both.0 i; line = both.1 i })
fault_same single one none first ask text (Schema a) (AtLine n) f (inl g) = absurd (let short = f.0 in let long = g.0 in omega arith)
fault_same single one none first ask text (Schema a) (AtLine n) f (inr g) = absurd (none ask (schema_part text) g.1.0 a.kind a.line g.1.1 f.1)
fault_same single one none first ask text (AtLine m) (Schema b) (inl f) g = absurd (let short = g.0 in let long = f.0 in omega arith)
fault_same single one none first ask text (AtLine m) (Schema b) (inr f) g = absurd (none ask (schema_part text) f.1.0 b.kind b.line f.1.1 g.1)
fault_same single one none first ask text (AtLine m) (AtLine n) (inl f) (inl g) = ap (λ k. AtLine k) (f.1 ∙ sym g.1)
fault_same single one none first ask text (AtLine m) (AtLine n) (inl f) (inr g) = absurd (let short = g.0 in let long = f.0 in omega arith)
fault_same single one none first ask text (AtLine m) (AtLine n) (inr f) (inl g) = absurd (let short = f.0 in let long = g.0 in omega arith)
fault_same single one none first ask text (AtLine m) (AtLine n) (inr f) (inr g) =
    let schema = one ask (schema_part text) f.1.0 g.1.0 f.1.1 g.1.1 in
    let fault = subst (λ (s : SchemaData). BodyFault s (lines_before text + 1) (body text) m) schema f.1.2 in
    ap (λ k. AtLine k) (body_fault single g.1.0 (lines_before text + 1) (body text) m n fault g.1.2)
