-- The lines of a transaction, and what they are read as.
use Rattle.std.proofs.Common.{◌≡◌, ◌≢◌, ℕ, zero, suc, ◌+◌, ◌^◌, ◌<◌, ◌≤◌, ◌==◌, nat_lt, true, false, inr, List, [], ◌∷◌, ◌++◌, length, Option, Some, None, Result, Ok, Err, refl, sym, ap, subst, ◌∙◌, append_assoc, append-nil, nat_le, arith}
use Rattle.std.specs.Prelude.{codes, map, option_and_then, option_map, decimal, slice_get, IsAscii}
use Rattle.std.specs.Fmt.{signed_decimal}
use Rattle.std.specs.Char.{is_ascii_lowercase}
use Rattle.std.specs.List.{AllByRecursion, list_all}
use Rattle.std.specs.Str.{is_utf8}
use Rattle.std.proofs.lemmas.Bool.{and_parts}
use Rattle.std.proofs.lemmas.Bool.Decides.{nat_tests}
use Rattle.std.proofs.lemmas.Str.{IsUtf8-from_ascii, is_utf8-from_IsUtf8}
use Rattle.update_model.specs.declared.op.Op.{Op}
use Rattle.update_model.specs.declared.op.Op.TheVariants as op
use Rattle.update_model.specs.declared.row_name.RowName.{RowName}
use Rattle.update_model.specs.declared.value.Value.{Value}
use Rattle.update_model.specs.declared.value.Value.TheVariants as value
use Rattle.update_model.specs.Rows.{AreOps, IsOp, IsRowName, IsValue}
use Rattle.text_words.specs.Lines.{EndsInNoCr, lines_of}
use Rattle.text_words.specs.Names.{is_a_name, is_name_byte, is_spelled_as_name}
use Rattle.text_words.specs.Words.{first_word, skip_blanks, words_of, words_within}
use Rattle.text_words.specs.declared.style.Style.TheVariants.{Spaced}
use Rattle.text_words.specs.declared.word.Word.{Word}
use Rattle.text_words.specs.declared.word.Word.TheVariants as word
use Rattle.text_words.proofs.LinesLemmas.{before_lf}
use Rattle.schema.specs.declared.table_def.TableDef.{TableDef}
use Rattle.schema.specs.Data.{SchemaData}
use Rattle.table_text.specs.declared.name_style.NameStyle.TheVariants.{Full}
use Rattle.table_text.specs.Names.{name_text}
use Rattle.table_text.specs.Operations.{operation_text}
use Rattle.table_text.specs.Values.{value_text, values_text}
use Rattle.txn_text.specs.Operations.{IsBlank, WriteAll, beside, insert_into, keyword_in, next_value, operation_of, placed, value_at, value_by, verb_at, verb_by}
use Rattle.txn_text.specs.Outcome.{IsVerb}
use Rattle.txn_text.specs.Transactions.{LineIs, LinesAre, Reads}
use Rattle.txn_text.specs.Values.{Written, value_for, value_in}
use Rattle.txn_printing.specs.Printing.{AreNamed, HasTable, IsNamed, IsPrintable, transaction_text}
use Rattle.txn_printing.proofs.Bytes.{IsPrinted, quoted_printed, stands_printed}
use Rattle.txn_printing.proofs.Words.{AreByRule, AreEach, BeginsWith, IsOneWord, behind_blanks, behind_first, first_of, none_of, words_read}
use Rattle.txn_printing.proofs.Values.{AreAsPrinted, AreNamesAgain, AreReadAgain, Stands, all_join, decimal_stands, integer_stands, name_bare, name_stands, stands_bare, value_written}

-- what the laws of words, values and names say
pub record Laws : Type 0 where
  pub rule : AreByRule
  pub printed : AreAsPrinted
  pub again : AreReadAgain
  pub names : AreNamesAgain

-- the type of verbs, which is that of what this says
abbrev domain_of : {A : Type 0} (F : A → Type 0) → Type 0
domain_of {A = X} F = X

abbrev Verbs : Type 0
Verbs = domain_of IsVerb

-- ---- the values of a line

-- each word writes its value
abbrev Write : (Word → Written) → List Word → List Value → Type 0
Write read [] [] = Unit {0}
Write read [] (v ∷ vs) = ⊥
Write read (w ∷ ws) [] = ⊥
Write read (w ∷ ws) (v ∷ vs) = (read w ≡ Ok v) × Write read ws vs

value_starts : (verb : Verbs) (before : ℕ) (start : List ℕ) → 0 < length start → value_at verb before start ≡ value_by verb before start (first_word Spaced start)
value_starts verb before [] some = absurd (omega arith)
value_starts verb before (byte ∷ bytes) some = refl

next_is : (verb : Verbs) (before : ℕ) (rest : List ℕ) (w : Word) (ws : List Word) (v : Value) (some : 0 < length (skip_blanks rest)) (begins : BeginsWith Spaced (skip_blanks rest) w ws)
    → value_for verb before w ≡ Ok v → next_value verb before rest ≡ Ok (Some (v, begins.0))
next_is verb before rest w ws v some begins is =
    let start = skip_blanks rest in
    value_starts verb before start some ∙ ap (value_by verb before start) begins.1 ∙ ap (placed start begins.0) is

all_written : (verb : Verbs) (before : ℕ) (read : Word → Written) → ((w : Word) → value_for verb before w ≡ read w) → (rest : List ℕ) (ws : List Word) (vs : List Value) → words_of Spaced rest ≡ Some ws
    → Write read ws vs → WriteAll verb before rest vs
all_written verb before read same rest [] [] e each = record { left = rest; write = refl; end = ap (value_at verb before) (none_of Spaced rest e) }
all_written verb before read same rest [] (v ∷ vs) e each = absurd each
all_written verb before read same rest (w ∷ ws) [] e each = absurd each
all_written verb before read same rest (w ∷ ws) (v ∷ vs) e each =
    let first = first_of Spaced rest w ws e in
    let next = next_is verb before rest w ws v first.0 first.1 (same w ∙ each.0) in
    let others = all_written verb before read same first.1.0 ws vs first.1.2 each.1 in
    record { left = others.left; write = (first.1.0, next, others.write); end = others.end }

-- words that are printed of values, and write them
abbrev AreWritten : ℕ → List Value → Type 0
AreWritten before vs = (ws : List Word) × AreEach Spaced (map (value_text Full) vs) ws × Write (value_in before) ws vs

values_written : Laws → (before : ℕ) → before < 2 ^ 16 → (vs : List Value) → AllByRecursion (IsValue before) vs → AreWritten before vs
values_written laws before few [] all = ([], tt, tt)
values_written laws before few (v ∷ vs) all =
    let first = value_written laws.rule laws.printed laws.again laws.names before few v all.0 in
    let others = values_written laws before few vs all.1 in
    (first.0 ∷ others.0, (first.1, others.1), (first.2, others.2))

values_behind : (vs : List Value) → values_text Full vs ≡ behind_blanks (map (value_text Full) vs)
values_behind [] = refl
values_behind (v ∷ vs) = ap (λ (rest : List ℕ). 32 ∷ (value_text Full v ++ rest)) (values_behind vs)

-- ---- names

-- a byte of ASCII that stands in a word
abbrev IsNamely : ℕ → Type 0
IsNamely byte = Stands byte × (byte < 128)

letter_namely : (byte : ℕ) → is_ascii_lowercase byte ≡ true → IsNamely byte
letter_namely byte h = (grind (arith, nat_tests, h), grind (arith, nat_tests, h))

byte_namely : (byte : ℕ) → is_name_byte byte ≡ true → IsNamely byte
byte_namely byte h = (grind (arith, nat_tests, h), grind (arith, nat_tests, h))

bytes_namely : (name : List ℕ) → list_all is_name_byte name ≡ true → AllByRecursion IsNamely name
bytes_namely [] h = tt
bytes_namely (b ∷ bs) h = let parts = and_parts (is_name_byte b) (list_all is_name_byte bs) h in (byte_namely b parts.0, bytes_namely bs parts.1)

spelled_namely : (name : List ℕ) → is_spelled_as_name name ≡ true → (0 < length name) × AllByRecursion IsNamely name
spelled_namely [] h = absurd cc
spelled_namely (b ∷ bs) h = let parts = and_parts (is_ascii_lowercase b) (list_all is_name_byte bs) h in (omega arith, (letter_namely b parts.0, bytes_namely bs parts.1))

name_namely : (name : List ℕ) → is_a_name name ≡ true → (0 < length name) × AllByRecursion IsNamely name
name_namely name h = spelled_namely name (and_parts (nat_le (length name) 32) (is_spelled_as_name name) h).1

namely_stands : (name : List ℕ) → AllByRecursion IsNamely name → AllByRecursion Stands name
namely_stands [] all = tt
namely_stands (b ∷ bs) all = (all.0.0, namely_stands bs all.1)

namely_ascii : (name : List ℕ) → AllByRecursion IsNamely name → IsAscii name
namely_ascii [] all i = omega arith
namely_ascii (b ∷ bs) all zero = all.0.1
namely_ascii (b ∷ bs) all (suc i) = namely_ascii bs all.1 i

-- ---- the operation of a line

room : (before : ℕ) → before < 256 → nat_lt before 256 ≡ true
room before few = grind (arith, nat_tests, few)

insert_words : Laws → (tables : List TableDef) (number : ℕ) (table : TableDef) (vs : List Value) (ws : List Word) → slice_get tables number ≡ Some table → IsNamed tables number table
    → AreEach Spaced (map (value_text Full) vs) ws
    → words_of Spaced (operation_text tables Full (op.Insert number vs)) ≡ Some (word.Plain (codes "INSERT") ∷ word.Plain table.name ∷ ws)
unfolding words_within first_word
insert_words laws tables number table vs ws there named each =
    let name = name_namely table.name named.spelled in
    let bare : IsOneWord Spaced table.name (word.Plain table.name) = stands_bare laws.rule table.name name.0 (namely_stands table.name name.1) in
    let all = words_read laws.rule Spaced (codes "INSERT" ∷ table.name ∷ map (value_text Full) vs) (word.Plain (codes "INSERT") ∷ word.Plain table.name ∷ ws) (refl, (bare, each)) in
    let line : 32 ∷ operation_text tables Full (op.Insert number vs) ≡ behind_blanks (codes "INSERT" ∷ table.name ∷ map (value_text Full) vs) =
    rw (there, values_behind vs) refl in
    behind_first Spaced (operation_text tables Full (op.Insert number vs)) _ (ap (words_of Spaced) line ∙ all)

delete_words : Laws → (tables : List TableDef) (row : RowName) → IsRowName row
    → words_of Spaced (operation_text tables Full (op.Delete row)) ≡ Some (word.Plain (codes "DELETE") ∷ word.Plain (name_text Full row) ∷ [])
unfolding words_within first_word
delete_words laws tables row is =
    let text = name_text Full row in
    let all = words_read laws.rule Spaced (codes "DELETE" ∷ text ∷ []) (word.Plain (codes "DELETE") ∷ word.Plain text ∷ []) (refl, (name_bare laws.rule row is, tt)) in
    let line : 32 ∷ operation_text tables Full (op.Delete row) ≡ behind_blanks (codes "DELETE" ∷ text ∷ []) = ap (λ (rest : List ℕ). 32 ∷ (codes "DELETE" ++ (32 ∷ rest))) (sym (append-nil text)) in
    behind_first Spaced (operation_text tables Full (op.Delete row)) _ (ap (words_of Spaced) line ∙ all)

-- the name of a table is UTF-8
pub name_utf8 : (name : List ℕ) → is_a_name name ≡ true → is_utf8 name ≡ true
name_utf8 name h = is_utf8-from_IsUtf8 name (IsUtf8-from_ascii name (namely_ascii name (name_namely name h).1))

said : (line : List ℕ) → 0 < length (skip_blanks line) → ¬ IsBlank line
said line some blank = let none : length (skip_blanks line) ≡ 0 = ap length blank in omega arith

-- what a name of a table makes of an insert
insert_reads : (tables : List TableDef) (number : ℕ) (table : TableDef) → IsNamed tables number table → (verb : Verbs) → insert_into tables (word.Plain table.name) ≡ Some verb
    → (before : ℕ) (w : Word) → value_for verb before w ≡ value_in before w
insert_reads tables number table named verb e before w =
    let through : option_map (λ (v : Verbs). value_for v before w) (insert_into tables (word.Plain table.name)) ≡ Some (value_for verb before w) = ap (option_map (λ (v : Verbs). value_for v before w)) e in
    let here : option_map (λ (v : Verbs). value_for v before w) (insert_into tables (word.Plain table.name)) ≡ Some (value_in before w) =
    rw (name_utf8 table.name named.spelled, named.first) refl in
    cc

insert_whole : (tables : List TableDef) (number : ℕ) (table : TableDef) (vs : List Value) → slice_get tables number ≡ Some table → IsNamed tables number table → length vs ≡ length table.columns
    → (verb : Verbs) → insert_into tables (word.Plain table.name) ≡ Some verb → operation_of verb vs ≡ Some (op.Insert number vs)
insert_whole tables number table vs there named same verb e =
    let test : (length vs == length table.columns) ≡ true = grind (arith, nat_tests, same) in
    let through : option_and_then (λ (v : Verbs). operation_of v vs) (insert_into tables (word.Plain table.name)) ≡ operation_of verb vs = ap (option_and_then (λ (v : Verbs). operation_of v vs)) e in
    let here : option_and_then (λ (v : Verbs). operation_of v vs) (insert_into tables (word.Plain table.name)) ≡ Some (op.Insert number vs) =
    rw (name_utf8 table.name named.spelled, named.first, there, test) refl in
    sym through ∙ here

insert_verb : (tables : List TableDef) (before : ℕ) (name start after rest : List ℕ) (verb : Verbs) → before < 256 → insert_into tables (word.Plain name) ≡ Some verb
    → first_word Spaced start ≡ Some (word.Plain (codes "INSERT"), after) → first_word Spaced (skip_blanks after) ≡ Some (word.Plain name, rest) → verb_at tables before start ≡ Ok (verb, rest)
insert_verb tables before name start after rest verb few e first second = rw (first, room before few, second, e) refl

insert_is : Laws → (tables : List TableDef) (before number : ℕ) (table : TableDef) (vs : List Value) → before < 256 → AllByRecursion (IsValue before) vs → slice_get tables number ≡ Some table
    → IsNamed tables number table → length vs ≡ length table.columns → (found : Option Verbs) → insert_into tables (word.Plain table.name) ≡ found
    → LineIs tables before (operation_text tables Full (op.Insert number vs)) (op.Insert number vs)
insert_is laws tables before number table vs few is there named columns None e = absurd (let no = rw (name_utf8 table.name named.spelled, named.first) at e in cc)
insert_is laws tables before number table vs few is there named columns (Some verb) e =
    let line = operation_text tables Full (op.Insert number vs) in
    let written = values_written laws before (omega (arith, few)) vs is in
    let words = insert_words laws tables number table vs written.0 there named written.1 in
    let first = first_of Spaced line (word.Plain (codes "INSERT")) (word.Plain table.name ∷ written.0) words in
    let second = first_of Spaced first.1.0 (word.Plain table.name) written.0 first.1.2 in (
      said line first.0,
      record {
        verb = verb;
        rest = second.1.0;
        values = vs;
        first = insert_verb tables before table.name (skip_blanks line) first.1.0 second.1.0 verb few e first.1.1 second.1.1;
        write = all_written verb before (value_in before) (insert_reads tables number table named verb e before) second.1.0 written.0 vs second.1.2 written.2;
        whole = insert_whole tables number table vs there named columns verb e;
      },
    )

-- what is read where a delete is
abbrev is_ok_read : {A B : Type 0} → Result A B → Type 0
is_ok_read (Ok a) = Unit {0}
is_ok_read (Err b) = ⊥

abbrev ok_read : {A B : Type 0} (r : Result A B) → is_ok_read r → A
ok_read (Ok a) is = a
ok_read (Err b) is = absurd is

-- the verb of a delete
abbrev a_delete : Verbs
a_delete = (ok_read (verb_by [] 0 [] (beside (keyword_in (word.Plain (codes "DELETE"))) [])) tt).0

delete_verb : (tables : List TableDef) (before : ℕ) (start after : List ℕ) → before < 256 → first_word Spaced start ≡ Some (word.Plain (codes "DELETE"), after)
    → verb_at tables before start ≡ Ok (a_delete, after)
delete_verb tables before start after few first = rw (first, room before few) refl

delete_is : Laws → (tables : List TableDef) (before : ℕ) (row : RowName) → before < 256 → IsRowName row → LineIs tables before (operation_text tables Full (op.Delete row)) (op.Delete row)
delete_is laws tables before row few is =
    let line = operation_text tables Full (op.Delete row) in
    let words = delete_words laws tables row is in
    let first = first_of Spaced line (word.Plain (codes "DELETE")) (word.Plain (name_text Full row) ∷ []) words in
    let read : value_for a_delete before (word.Plain (name_text Full row)) ≡ Ok (value.Row row) = rw (laws.names row is) refl in (
      said line first.0,
      record {
        verb = a_delete;
        rest = first.1.0;
        values = value.Row row ∷ [];
        first = delete_verb tables before (skip_blanks line) first.1.0 few first.1.1;
        write = all_written a_delete before (value_for a_delete before) (λ w. refl) first.1.0 (word.Plain (name_text Full row) ∷ []) (value.Row row ∷ []) first.1.2 (read, tt);
        whole = refl;
      },
    )

op_is : Laws → (tables : List TableDef) → AreNamed tables → (before : ℕ) → before < 256 → (o : Op) → IsOp before o → HasTable tables o → LineIs tables before (operation_text tables Full o) o
op_is laws tables named before few (op.Insert number vs) is (table, there, columns) =
    insert_is laws tables before number table vs few is.3 there (named number table there) columns (insert_into tables (word.Plain table.name)) refl
op_is laws tables named before few (op.Delete row) is has = delete_is laws tables before row few is

-- ---- bytes that are printed

value_printed : (before : ℕ) → before < 2 ^ 16 → (v : Value) → IsValue before v → AllByRecursion IsPrinted (value_text Full v)
value_printed before few value.Null is = (omega arith, (omega arith, (omega arith, (omega arith, tt))))
value_printed before few (value.Int n) is = stands_printed (signed_decimal n) (integer_stands n is)
value_printed before few (value.Text text) is = quoted_printed text
value_printed before few (value.Flag true) is = (omega arith, (omega arith, (omega arith, (omega arith, tt))))
value_printed before few (value.Flag false) is = (omega arith, (omega arith, (omega arith, (omega arith, (omega arith, tt)))))
value_printed before few (value.Row row) is = stands_printed (name_text Full row) (name_stands row is)
value_printed before few (value.Own index) is =
    let fit : index + 1 < 2 ^ 64 = omega (arith, is, few) in
    (omega arith, stands_printed (decimal (index + 1)) (decimal_stands (index + 1) fit))

values_printed : (before : ℕ) → before < 2 ^ 16 → (vs : List Value) → AllByRecursion (IsValue before) vs → AllByRecursion IsPrinted (values_text Full vs)
values_printed before few [] all = tt
values_printed before few (v ∷ vs) all = (omega arith, all_join IsPrinted (value_text Full v) (values_text Full vs) (value_printed before few v all.0) (values_printed before few vs all.1))

op_printed : (tables : List TableDef) → AreNamed tables → (before : ℕ) → before < 2 ^ 16 → (o : Op) → IsOp before o → HasTable tables o → AllByRecursion IsPrinted (operation_text tables Full o)
op_printed tables named before few (op.Insert number vs) is (table, there, columns) =
    let name : AllByRecursion IsPrinted table.name = stands_printed table.name (namely_stands table.name (name_namely table.name (named number table there).spelled).1) in
    rw there (
      omega arith,
      (
        omega arith,
        (
          omega arith,
          (
            omega arith,
            (
              omega arith,
              (
                omega arith,
                (
                  omega arith,
                  all_join IsPrinted table.name (values_text Full vs) name (values_printed before few vs is.3),
                ),
              ),
            ),
          ),
        ),
      ),
    )
op_printed tables named before few (op.Delete row) is has =
    (omega arith, (omega arith, (omega arith, (omega arith, (omega arith, (omega arith, (omega arith, stands_printed (name_text Full row) (name_stands row is))))))))

-- ---- lines

no_lf : (line : List ℕ) → AllByRecursion IsPrinted line → AllByRecursion (λ byte. byte ≢ 10) line
no_lf [] all = tt
no_lf (b ∷ bs) all = let low = all.0 in ((λ same. omega (arith, low, same)), no_lf bs all.1)

no_last : (front : List ℕ) → AllByRecursion IsPrinted (front ++ 13 ∷ []) → ⊥
no_last [] all = let low = all.0 in omega (arith, low)
no_last (b ∷ bs) all = no_last bs all.1

no_cr : (line : List ℕ) → AllByRecursion IsPrinted line → EndsInNoCr line
no_cr line all front e = no_last front (subst (AllByRecursion IsPrinted) e all)

first_line : (tables : List TableDef) (o : Op) (ops : List Op) → AllByRecursion IsPrinted (operation_text tables Full o)
    → lines_of (transaction_text tables (o ∷ ops)) ≡ operation_text tables Full o ∷ lines_of (transaction_text tables ops)
first_line tables o ops all =
    let line = operation_text tables Full o in
    ap lines_of (append_assoc line (10 ∷ []) (transaction_text tables ops)) ∙ before_lf line (transaction_text tables ops) (no_lf line all) (no_cr line all)

lines_are : Laws → (tables : List TableDef) → AreNamed tables → (before : ℕ) (ops : List Op) → before + length ops ≤ 256 → AreOps before ops → AllByRecursion (HasTable tables) ops
    → LinesAre tables before (lines_of (transaction_text tables ops)) ops
unfolding lines_of
lines_are laws tables named before [] few form there = refl
lines_are laws tables named before (o ∷ os) few form there =
    let printed = op_printed tables named before (omega arith) o form.0 there.0 in
    let is = op_is laws tables named before (omega arith) o form.0 there.0 in
    let others = lines_are laws tables named (before + 1) os (omega arith) form.1 there.1 in
    subst (λ (lines : List (List ℕ)). LinesAre tables before lines (o ∷ os)) (sym (first_line tables o os printed)) (inr (o, os, is, others, refl))

pub reads_again : Laws → (schema : SchemaData) (ops : List Op) → AreNamed schema.tables → IsPrintable schema.tables ops → Reads schema (transaction_text schema.tables ops) ops
reads_again laws schema ops named is = (is.short, lines_are laws schema.tables named 0 ops (omega (arith, is.few)) is.form is.tables_there)
