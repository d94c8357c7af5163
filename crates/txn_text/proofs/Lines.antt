-- One line more, and what a text then is.
use Rattle.std.proofs.Common.{◌≡◌, ℕ, ◌+◌, ◌<◌, ◌≤◌, suc, Bool, true, false, List, [], ◌∷◌, ◌++◌, length, refl, sym, ap, subst, ◌∙◌, arith, inl, inr, Option, Some, None, Ok, Err, append_assoc, length-append}
use Rattle.std.specs.Prelude.{IsUtf8, nat_lt, if◌then◌else◌}
use Rattle.std.specs.Str.{IsValidUpTo}
use Rattle.std.proofs.lemmas.List.{append-nil}
use Rattle.std.proofs.lemmas.Bool.{ltb-true}
use Rattle.std.proofs.lemmas.Str.{utf8_valid_len-IsUtf8, utf8_valid_len-IsValidUpTo}
use Rattle.update_model.specs.declared.limits.TheConstants.{MAX_OPS}
use Rattle.update_model.specs.declared.op.Op.{Op}
use Rattle.update_model.specs.Rows.{IsOp, AreOps}
use Rattle.text_words.specs.Lines.{lines_of, Begins}
use Rattle.text_words.specs.Words.{skip_blanks}
use Rattle.schema.specs.declared.table_def.TableDef.{TableDef}
use Rattle.schema.specs.Data.{SchemaData}
use Rattle.txn_text.specs.declared.fault.TextError.{TextError}
use Rattle.txn_text.specs.declared.fault.TextError.TheVariants as error
use Rattle.txn_text.specs.declared.fault.TextKind.{TextKind}
use Rattle.txn_text.specs.declared.fault.TextKind.TheVariants.{TooManyOperations}
use Rattle.txn_text.specs.declared.keyword.Keyword.{Keyword}
use Rattle.txn_text.specs.declared.stop.Wrong.{Wrong}
use Rattle.txn_text.specs.declared.verb.Verb.{Verb}
use Rattle.txn_text.specs.Operations.{keyword_at, verb_after, verb_by, wrong_at}
use Rattle.txn_text.specs.Outcome.{HasCause, HasFaultIn, Answers, MayStand, IsTaken}
use Rattle.txn_text.specs.Transactions.{IsCutShort, ends_before, LineIs, LinesAre, FaultIn, Reads, FirstFault}

-- ---- bytes that are not UTF-8

pub not_cut : (line : List ℕ) (wrong : Wrong) (front : ℕ) → IsValidUpTo line front → ends_before line wrong front ≡ false → (other : ℕ) → IsCutShort line wrong other → ⊥
not_cut line wrong front h late other k =
    let same = sym (utf8_valid_len-IsValidUpTo line other k.longest) ∙ utf8_valid_len-IsValidUpTo line front h in
    let here : ends_before line wrong other ≡ true = k.here in
    let there = ap (ends_before line wrong) same in
    cc

pub never_cut : (line : List ℕ) (wrong : Wrong) → IsUtf8 line → (front : ℕ) → IsCutShort line wrong front → ⊥
never_cut line wrong u front k =
    let whole = utf8_valid_len-IsUtf8 line u in
    let part = utf8_valid_len-IsValidUpTo line front k.longest in
    let short : front < length line = k.longest.short in
    omega arith

-- ---- operations that a body may hold

pub begins_length : (text line rest : List ℕ) → Begins text line rest → length line ≤ length text
begins_length text line rest h =
    let e = ap length h.parts in
    let l = length-append line (h.end ++ rest) in
    omega arith

room_by : (tables : List TableDef) (before : ℕ) (start : List ℕ) (read : Option (Keyword × List ℕ)) (found : Verb × List ℕ) → verb_by tables before start read ≡ Ok found → before < 256
room_by tables before start None found e = absurd (cc)
room_by tables before start (Some read) found e = by (nat_lt before MAX_OPS) refl e
  where
    by : (b : Bool) → nat_lt before MAX_OPS ≡ b → (if b then verb_after tables read.0 read.1 else Err (wrong_at TooManyOperations start)) ≡ Ok found → before < 256
    by true t is = ltb-true before MAX_OPS t
    by false t is = absurd (cc (is))

pub room : (tables : List TableDef) (before : ℕ) (line : List ℕ) (op : Op) → LineIs tables before line op → before < 256
room tables before line op h = room_by tables before (skip_blanks line) (keyword_at (skip_blanks line)) (h.1.verb, h.1.rest) h.1.first

ops_more : (number : ℕ) (ops : List Op) (op : Op) → AreOps number ops → IsOp (number + length ops) op → AreOps number (ops ++ op ∷ [])
ops_more number [] op h k = (subst (λ n. IsOp n op) (let e : number + 0 ≡ number = omega arith in e) k, tt)
ops_more number (o ∷ os) op h k =
    (h.0, ops_more (number + 1) os op h.1 (subst (λ n. IsOp n op) (let e : number + suc (length os) ≡ number + 1 + length os = omega arith in e) k))

pub stand_more : (ops : List Op) (op : Op) → MayStand ops → length ops < 256 → IsOp (length ops) op → MayStand (ops ++ op ∷ [])
stand_more ops op h few k = record {
  few = let l = length-append ops (op ∷ []) in omega arith;
  form = ops_more 0 ops op h.form (subst (λ n. IsOp n op) (let e : length ops ≡ 0 + length ops = omega arith in e) k);
}

-- ---- a line more

no_lines : lines_of [] ≡ []
unfolding lines_of
no_lines = refl

-- what the lines from here are, all lines are
abbrev pub ReadOn : List TableDef → List (List ℕ) → List Op → List (List ℕ) → Type 0
ReadOn tables lines ops all = (more : List Op) → LinesAre tables (length ops) lines more → LinesAre tables 0 all (ops ++ more)

-- where the lines from here have a fault, all lines have it
abbrev pub FailOn : List TableDef → ℕ → ℕ → List (List ℕ) → List (List ℕ) → Type 0
FailOn tables before number lines all = (kind : TextKind) (line column : ℕ) → FaultIn tables before number lines kind line column → FaultIn tables 0 1 all kind line column

read_line : (tables : List TableDef) (ops : List Op) (line : List ℕ) (lines : List (List ℕ)) (next : List Op) (all : List (List ℕ)) → IsTaken tables ops line next
    → ReadOn tables (line ∷ lines) ops all → ReadOn tables lines next all
read_line tables ops line lines next all (inl taken) on =
    subst (λ (o : List Op). ReadOn tables lines o all) (sym taken.1) (λ more h. on more (inl (taken.0, h)))
read_line tables ops line lines next all (inr taken) on =
    let op = taken.0 in
    let n : length (ops ++ op ∷ []) ≡ length ops + 1 = (let l = length-append ops (op ∷ []) in omega arith) in
    subst (λ (o : List Op). ReadOn tables lines o all) (sym taken.2)
    (λ more h.
    subst (λ (o : List Op). LinesAre tables 0 all o) (sym (append_assoc ops (op ∷ []) more))
    (on (op ∷ more) (inr (op, more, taken.1, subst (λ k. LinesAre tables k lines more) n h, refl))))

fail_line : (tables : List TableDef) (ops : List Op) (number : ℕ) (line : List ℕ) (lines : List (List ℕ)) (next : List Op) (all : List (List ℕ)) → IsTaken tables ops line next
    → FailOn tables (length ops) number (line ∷ lines) all → FailOn tables (length next) (number + 1) lines all
fail_line tables ops number line lines next all (inl taken) on =
    subst (λ (o : List Op). FailOn tables (length o) (number + 1) lines all) (sym taken.1) (λ kind l c f. on kind l c (inr (inl (taken.0, f))))
fail_line tables ops number line lines next all (inr taken) on =
    let op = taken.0 in
    let n : length (ops ++ op ∷ []) ≡ length ops + 1 = (let l = length-append ops (op ∷ []) in omega arith) in
    subst (λ (o : List Op). FailOn tables (length o) (number + 1) lines all) (sym taken.2)
    (λ kind l c f. on kind l c (inr (inr (op, taken.1, subst (λ k. FaultIn tables k (number + 1) lines kind l c) n f))))

pub read_more : (tables : List TableDef) (ops next : List Op) (rest line after : List ℕ) (all : List (List ℕ)) → lines_of rest ≡ line ∷ lines_of after → IsTaken tables ops line next
    → ReadOn tables (lines_of rest) ops all → ReadOn tables (lines_of after) next all
read_more tables ops next rest line after all e taken on =
    read_line tables ops line (lines_of after) next all taken (subst (λ (lines : List (List ℕ)). ReadOn tables lines ops all) e on)

pub fail_more : (tables : List TableDef) (ops next : List Op) (number : ℕ) (rest line after : List ℕ) (all : List (List ℕ)) → lines_of rest ≡ line ∷ lines_of after
    → IsTaken tables ops line next → FailOn tables (length ops) number (lines_of rest) all → FailOn tables (length next) (number + 1) (lines_of after) all
fail_more tables ops next number rest line after all e taken on =
    fail_line tables ops number line (lines_of after) next all taken (subst (λ (lines : List (List ℕ)). FailOn tables (length ops) number lines all) e on)

pub read_end : (tables : List TableDef) (ops : List Op) (rest : List ℕ) (all : List (List ℕ)) → rest ≡ [] → ReadOn tables (lines_of rest) ops all → LinesAre tables 0 all ops
read_end tables ops rest all e on =
    let lines : lines_of rest ≡ [] = ap lines_of e ∙ no_lines in
    subst (λ (o : List Op). LinesAre tables 0 all o) (append-nil ops) (on [] (subst (λ (ls : List (List ℕ)). LinesAre tables (length ops) ls []) (sym lines) refl))

-- ---- a whole text

-- a text that is a list of operations has no fault
abbrev pub NoFault : Type 0
NoFault = (schema : SchemaData) (text : List ℕ) (ops : List Op) (kind : TextKind) (line column : ℕ) → Reads schema text ops → FirstFault schema text kind line column → ⊥

pub cause_of : (schema : SchemaData) (text : List ℕ) (e : TextError) → length text ≤ 4194304 → HasFaultIn schema.tables text e → HasCause schema text e
cause_of schema text (error.Fault f) few h = inr (few, h)
cause_of schema text error.Memory few h = tt

pub answers_err : NoFault → (schema : SchemaData) (text : List ℕ) (e : TextError) (wanted : List Op) → HasCause schema text e → Reads schema text wanted → Answers (Err e) wanted
answers_err law schema text (error.Fault f) wanted h r = law schema text wanted f.kind f.line f.column r h
answers_err law schema text error.Memory wanted h r = tt
