-- A line is one operation at most, or has one fault, and so has a text.
use Rattle.std.proofs.Common.{◌≡◌, ℕ, ◌+◌, List, [], ◌∷◌, Some, None, Ok, Err, refl, sym, ap, subst, ◌∙◌, arith, inl, inr}
use Rattle.std.proofs.lemmas.Str.{utf8_valid_len-IsValidUpTo}
use Rattle.update_model.specs.declared.op.Op.{Op}
use Rattle.update_model.specs.declared.value.Value.{Value}
use Rattle.text_words.specs.Lines.{lines_of}
use Rattle.text_words.specs.Words.{skip_blanks}
use Rattle.schema.specs.declared.table_def.TableDef.{TableDef}
use Rattle.schema.specs.Data.{SchemaData}
use Rattle.txn_text.specs.declared.fault.TextKind.{TextKind}
use Rattle.txn_text.specs.declared.stop.Wrong.{Wrong}
use Rattle.txn_text.specs.declared.verb.Verb.{Verb}
use Rattle.txn_text.specs.Operations.{Next, next_value, Write, WriteAll, WriteUpTo, operation_of, verb_at, IsOperation, GoesWrong, wrong_verb, wrong_value, wrong_number}
use Rattle.txn_text.specs.Transactions.{IsCutShort, IsSeen, LineFault, LineIs, LinesAre, FaultIn, Reads, FirstFault}

-- no value comes next
abbrev Ends : Next → Type 0
Ends (Ok None) = Unit {0}
Ends (Ok (Some read)) = ⊥
Ends (Err wrong) = Unit {0}

ends_by : (next : Next) → next ≡ Ok None → Ends next
ends_by next e = subst Ends (sym e) tt

ends_wrong : (next : Next) (wrong : Wrong) → next ≡ Err wrong → Ends next
ends_wrong next wrong e = subst Ends (sym e) tt

goes_on : (next : Next) (read : Value × List ℕ) → next ≡ Ok (Some read) → Ends next → ⊥
goes_on next read e h = subst Ends e h

-- values up to where no value comes are the same
write_one : (verb : Verb) (before : ℕ) (rest : List ℕ) (vs ws : List Value) (l m : List ℕ) → Write verb before rest vs l → Write verb before rest ws m
    → Ends (next_value verb before l) → Ends (next_value verb before m) → (vs ≡ ws) × (l ≡ m)
write_one verb before rest [] [] l m h k a b = (refl, h ∙ sym k)
write_one verb before rest [] (w ∷ ws) l m h k a b =
    absurd (goes_on (next_value verb before rest) (w, k.0) k.1 (subst (λ (s : List ℕ). Ends (next_value verb before s)) h a))
write_one verb before rest (v ∷ vs) [] l m h k a b =
    absurd (goes_on (next_value verb before rest) (v, h.0) h.1 (subst (λ (s : List ℕ). Ends (next_value verb before s)) k b))
write_one verb before rest (v ∷ vs) (w ∷ ws) l m h k a b =
    let here : Value × List ℕ = (v, h.0) in
    let there : Value × List ℕ = (w, k.0) in
    let same : next_value verb before rest ≡ Ok (Some here) = h.1 in
    let other : next_value verb before rest ≡ Ok (Some there) = k.1 in
    let p : here ≡ there = cc in
    let one = write_one verb before k.0 vs ws l m (subst (λ (s : List ℕ). Write verb before s vs l) (ap (λ (x : Value × List ℕ). x.1) p) h.2) k.2 a b in
    (λ i. (p i).0 ∷ one.0 i, one.1)

all_one : (verb : Verb) (before : ℕ) (rest : List ℕ) (vs ws : List Value) → WriteAll verb before rest vs → WriteAll verb before rest ws → vs ≡ ws
all_one verb before rest vs ws h k = (write_one verb before rest vs ws h.left k.left h.write k.write (ends_by _ h.end) (ends_by _ k.end)).0

stop_one : (verb : Verb) (before : ℕ) (rest : List ℕ) (w x : Wrong) → WriteUpTo verb before rest w → WriteUpTo verb before rest x → w ≡ x
stop_one verb before rest w x h k =
    let one = write_one verb before rest h.values k.values h.left k.left h.write k.write (ends_wrong _ w h.stop) (ends_wrong _ x k.stop) in
    let same = ap (next_value verb before) one.1 in
    let a : next_value verb before h.left ≡ Err w = h.stop in
    let b : next_value verb before k.left ≡ Err x = k.stop in
    cc

all_no_stop : (verb : Verb) (before : ℕ) (rest : List ℕ) (vs : List Value) (w : Wrong) → WriteAll verb before rest vs → WriteUpTo verb before rest w → ⊥
all_no_stop verb before rest vs w h k =
    let one = write_one verb before rest vs k.values h.left k.left h.write k.write (ends_by _ h.end) (ends_wrong _ w k.stop) in
    let same = ap (next_value verb before) one.1 in
    let a : next_value verb before h.left ≡ Ok None = h.end in
    let b : next_value verb before k.left ≡ Err w = k.stop in
    cc

-- what the first words of a line say
abbrev Verbs : Type 0
Verbs = Verb × List ℕ

one_verb : (tables : List TableDef) (before : ℕ) (start : List ℕ) (a b : Verbs) → verb_at tables before start ≡ Ok a → verb_at tables before start ≡ Ok b → a ≡ b
one_verb tables before start a b h k = cc

no_verb : (tables : List TableDef) (before : ℕ) (start : List ℕ) (a : Verbs) (w : Wrong) → verb_at tables before start ≡ Ok a → verb_at tables before start ≡ Err w → ⊥
no_verb tables before start a w h k = cc

values_one : (before : ℕ) (a b : Verbs) (vs ws : List Value) → a ≡ b → WriteAll a.0 before a.1 vs → WriteAll b.0 before b.1 ws → vs ≡ ws
values_one before a b vs ws e h k = all_one b.0 before b.1 vs ws (subst (λ (x : Verbs). WriteAll x.0 before x.1 vs) e h) k

stops_one : (before : ℕ) (a b : Verbs) (w x : Wrong) → a ≡ b → WriteUpTo a.0 before a.1 w → WriteUpTo b.0 before b.1 x → w ≡ x
stops_one before a b w x e h k = stop_one b.0 before b.1 w x (subst (λ (y : Verbs). WriteUpTo y.0 before y.1 w) e h) k

values_no_stop : (before : ℕ) (a b : Verbs) (vs : List Value) (w : Wrong) → a ≡ b → WriteAll a.0 before a.1 vs → WriteUpTo b.0 before b.1 w → ⊥
values_no_stop before a b vs w e h k = all_no_stop b.0 before b.1 vs w (subst (λ (x : Verbs). WriteAll x.0 before x.1 vs) e h) k

-- the same values after the same verb are the same operation
operations_same : (a b : Verbs) (vs ws : List Value) → a ≡ b → vs ≡ ws → operation_of a.0 vs ≡ operation_of b.0 ws
operations_same a b vs ws e f = λ i. operation_of (e i).0 (f i)

operation_one : (tables : List TableDef) (before : ℕ) (start : List ℕ) (a b : Op) → IsOperation tables before start a → IsOperation tables before start b → a ≡ b
operation_one tables before start a b h k =
    let e = one_verb tables before start (h.verb, h.rest) (k.verb, k.rest) h.first k.first in
    let f = values_one before (h.verb, h.rest) (k.verb, k.rest) h.values k.values e h.write k.write in
    let same = operations_same (h.verb, h.rest) (k.verb, k.rest) h.values k.values e f in
    let x : operation_of h.verb h.values ≡ Some a = h.whole in
    let y : operation_of k.verb k.values ≡ Some b = k.whole in
    cc

operation_right : (tables : List TableDef) (before : ℕ) (start : List ℕ) (a : Op) (w : Wrong) → IsOperation tables before start a → GoesWrong tables before start w → ⊥
operation_right tables before start a w h (wrong_verb y e) = no_verb tables before start (h.verb, h.rest) y h.first e
operation_right tables before start a w h (wrong_value y verb rest e up) =
    values_no_stop before (h.verb, h.rest) (verb, rest) h.values y (one_verb tables before start (h.verb, h.rest) (verb, rest) h.first e) h.write up
operation_right tables before start a w h (wrong_number verb rest values e all none) =
    let p = one_verb tables before start (h.verb, h.rest) (verb, rest) h.first e in
    let f = values_one before (h.verb, h.rest) (verb, rest) h.values values p h.write all in
    let same = operations_same (h.verb, h.rest) (verb, rest) h.values values p f in
    let x : operation_of h.verb h.values ≡ Some a = h.whole in
    cc

wrong_one : (tables : List TableDef) (before : ℕ) (start : List ℕ) (w x : Wrong) → GoesWrong tables before start w → GoesWrong tables before start x → w ≡ x
wrong_one tables before start w x (wrong_verb y e) (wrong_verb z f) = cc
wrong_one tables before start w x (wrong_verb y e) (wrong_value z verb rest f up) = absurd (no_verb tables before start (verb, rest) y f e)
wrong_one tables before start w x (wrong_verb y e) (wrong_number verb rest values f all none) = absurd (no_verb tables before start (verb, rest) y f e)
wrong_one tables before start w x (wrong_value y verb rest e up) (wrong_verb z f) = absurd (no_verb tables before start (verb, rest) z e f)
wrong_one tables before start w x (wrong_value y verb rest e up) (wrong_value z v r f to) =
    stops_one before (verb, rest) (v, r) y z (one_verb tables before start (verb, rest) (v, r) e f) up to
wrong_one tables before start w x (wrong_value y verb rest e up) (wrong_number v r values f all none) =
    absurd (values_no_stop before (v, r) (verb, rest) values y (one_verb tables before start (v, r) (verb, rest) f e) all up)
wrong_one tables before start w x (wrong_number verb rest values e all none) (wrong_verb z f) = absurd (no_verb tables before start (verb, rest) z e f)
wrong_one tables before start w x (wrong_number verb rest values e all none) (wrong_value z v r f to) =
    absurd (values_no_stop before (verb, rest) (v, r) values z (one_verb tables before start (verb, rest) (v, r) e f) all to)
wrong_one tables before start w x (wrong_number verb rest values e all none) (wrong_number v r vs f every nothing) = refl

fronts_one : (line : List ℕ) (w x : Wrong) (a b : ℕ) → IsCutShort line w a → IsCutShort line x b → a ≡ b
fronts_one line w x a b h k = sym (utf8_valid_len-IsValidUpTo line a h.longest) ∙ utf8_valid_len-IsValidUpTo line b k.longest

seen_one : (line : List ℕ) (w : Wrong) (k l : TextKind) (c d : ℕ) → IsSeen line w k c → IsSeen line w l d → (k ≡ l) × (c ≡ d)
seen_one line w k l c d (inl a) (inl b) = (a.2 ∙ sym b.2, a.3 ∙ ap (λ n. n + 1) (fronts_one line w w a.0 b.0 a.1 b.1) ∙ sym b.3)
seen_one line w k l c d (inl a) (inr b) = absurd (b.0 a.0 a.1)
seen_one line w k l c d (inr a) (inl b) = absurd (a.0 b.0 b.1)
seen_one line w k l c d (inr a) (inr b) = (a.1 ∙ sym b.1, a.2 ∙ sym b.2)

line_one : (tables : List TableDef) (before : ℕ) (line : List ℕ) (k l : TextKind) (c d : ℕ) → LineFault tables before line k c → LineFault tables before line l d → (k ≡ l) × (c ≡ d)
line_one tables before line k l c d a b =
    let e = wrong_one tables before (skip_blanks line) a.wrong b.wrong a.goes b.goes in
    seen_one line b.wrong k l c d (subst (λ (w : Wrong). IsSeen line w k c) e a.seen) b.seen

-- a line that is an operation has no fault
line_right : (tables : List TableDef) (before : ℕ) (line : List ℕ) (a : Op) (k : TextKind) (c : ℕ) → LineIs tables before line a → LineFault tables before line k c → ⊥
line_right tables before line a k c h f = operation_right tables before (skip_blanks line) a f.wrong h.1 f.goes

ops_same : (a b : Op) (rest other : List Op) → a ≡ b → rest ≡ other → a ∷ rest ≡ b ∷ other
ops_same a b rest other e f = cc

lines_one : (tables : List TableDef) (before : ℕ) (lines : List (List ℕ)) (a b : List Op) → LinesAre tables before lines a → LinesAre tables before lines b → a ≡ b
lines_one tables before [] a b h k = h ∙ sym k
lines_one tables before (line ∷ lines) a b (inl h) (inl k) = lines_one tables before lines a b h.1 k.1
lines_one tables before (line ∷ lines) a b (inl h) (inr k) = absurd (k.2.0 h.0)
lines_one tables before (line ∷ lines) a b (inr h) (inl k) = absurd (h.2.0 k.0)
lines_one tables before (line ∷ lines) a b (inr h) (inr k) =
    h.4 ∙ ops_same h.0 k.0 h.1 k.1 (operation_one tables before (skip_blanks line) h.0 k.0 h.2.1 k.2.1) (lines_one tables (before + 1) lines h.1 k.1 h.3 k.3) ∙ sym k.4

fault_one : (tables : List TableDef) (before number : ℕ) (lines : List (List ℕ)) (k l : TextKind) (m n c d : ℕ) → FaultIn tables before number lines k m c → FaultIn tables before number lines l n d
    → (k ≡ l) × (m ≡ n) × (c ≡ d)
fault_one tables before number [] k l m n c d a b = absurd a
fault_one tables before number (line ∷ lines) k l m n c d (inl a) (inl b) = let one = line_one tables before line k l c d a.0 b.0 in (one.0, a.1 ∙ sym b.1, one.1)
fault_one tables before number (line ∷ lines) k l m n c d (inl a) (inr (inl b)) = absurd (a.0.says b.0)
fault_one tables before number (line ∷ lines) k l m n c d (inl a) (inr (inr b)) = absurd (line_right tables before line b.0 k c b.1 a.0)
fault_one tables before number (line ∷ lines) k l m n c d (inr (inl a)) (inl b) = absurd (b.0.says a.0)
fault_one tables before number (line ∷ lines) k l m n c d (inr (inl a)) (inr (inl b)) = fault_one tables before (number + 1) lines k l m n c d a.1 b.1
fault_one tables before number (line ∷ lines) k l m n c d (inr (inl a)) (inr (inr b)) = absurd (b.1.0 a.0)
fault_one tables before number (line ∷ lines) k l m n c d (inr (inr a)) (inl b) = absurd (line_right tables before line a.0 l d a.1 b.0)
fault_one tables before number (line ∷ lines) k l m n c d (inr (inr a)) (inr (inl b)) = absurd (a.1.0 b.0)
fault_one tables before number (line ∷ lines) k l m n c d (inr (inr a)) (inr (inr b)) = fault_one tables (before + 1) (number + 1) lines k l m n c d a.2 b.2

no_fault_in : (tables : List TableDef) (before number : ℕ) (lines : List (List ℕ)) (ops : List Op) (k : TextKind) (m c : ℕ) → LinesAre tables before lines ops → FaultIn tables before number lines k m c → ⊥
no_fault_in tables before number [] ops k m c h a = a
no_fault_in tables before number (line ∷ lines) ops k m c (inl h) (inl a) = a.0.says h.0
no_fault_in tables before number (line ∷ lines) ops k m c (inl h) (inr (inl a)) = no_fault_in tables before (number + 1) lines ops k m c h.1 a.1
no_fault_in tables before number (line ∷ lines) ops k m c (inl h) (inr (inr a)) = a.1.0 h.0
no_fault_in tables before number (line ∷ lines) ops k m c (inr h) (inl a) = line_right tables before line h.0 k c h.2 a.0
no_fault_in tables before number (line ∷ lines) ops k m c (inr h) (inr (inl a)) = h.2.0 a.0
no_fault_in tables before number (line ∷ lines) ops k m c (inr h) (inr (inr a)) = no_fault_in tables (before + 1) (number + 1) lines h.1 k m c h.3 a.2

pub transaction_one : (schema : SchemaData) (text : List ℕ) (a b : List Op) → Reads schema text a → Reads schema text b → a ≡ b
transaction_one schema text a b h k = lines_one schema.tables 0 (lines_of text) a b h.1 k.1

pub first_one : (schema : SchemaData) (text : List ℕ) (k l : TextKind) (m n c d : ℕ) → FirstFault schema text k m c → FirstFault schema text l n d → (k ≡ l) × (m ≡ n) × (c ≡ d)
first_one schema text k l m n c d (inl a) (inl b) = (a.1 ∙ sym b.1, a.2 ∙ sym b.2, a.3 ∙ sym b.3)
first_one schema text k l m n c d (inl a) (inr b) = absurd (omega (arith, a.0, b.0))
first_one schema text k l m n c d (inr a) (inl b) = absurd (omega (arith, a.0, b.0))
first_one schema text k l m n c d (inr a) (inr b) = fault_one schema.tables 0 1 (lines_of text) k l m n c d a.1 b.1

pub read_no_fault : (schema : SchemaData) (text : List ℕ) (ops : List Op) (k : TextKind) (m c : ℕ) → Reads schema text ops → FirstFault schema text k m c → ⊥
read_no_fault schema text ops k m c h (inl a) = omega (arith, a.0, h.0)
read_no_fault schema text ops k m c h (inr a) = no_fault_in schema.tables 0 1 (lines_of text) ops k m c h.1 a.1
