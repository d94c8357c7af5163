-- A text is one query or has one first fault.
use Rattle.std.proofs.Common.{◌≡◌, ℕ, ◌≤◌, ◌<◌, Bool, true, false, List, length, take, refl, sym, ap, subst, ◌∙◌, inl, inr, Option, Some, None, Ok, Err, arith}
use Rattle.std.specs.Prelude.{Result, MatchOption, MatchBool, IsUtf8}
use Rattle.std.specs.Str.{IsValidUpTo}
use Rattle.std.proofs.lemmas.Str.{utf8_valid_len-IsUtf8, utf8_valid_len-IsValidUpTo}
use Rattle.expression_text.specs.declared.token.Token.{Token}
use Rattle.expression_text.specs.Columns.{column_in}
use Rattle.expression_text.specs.Grammar.{Parses, Disjunction}
use Rattle.row_check.specs.Trees.{Tree}
use Rattle.schema.specs.declared.table_def.TableDef.{TableDef}
use Rattle.schema.specs.Data.{SchemaData}
use Rattle.query.specs.declared.fault.QueryKind.{QueryKind}
use Rattle.query.specs.declared.stop.Spot.{Spot}
use Rattle.query.specs.declared.stop.Wrong.{Wrong}
use Rattle.query.specs.Columns.{kind_named, names_of}
use Rattle.query.specs.Conditions.{wrong_in}
use Rattle.query.specs.Data.{ConditionData}
use Rattle.query.specs.Grammar.{condition_in, condition_place, has_condition}
use Rattle.query.specs.Pieces.{pieces_of, spot_after}
use Rattle.query.specs.Queries.{QueryData, ConditionRead, IsTyped, ReadsCondition, IsFormOf, head_by, table_of, optional, IsConditionOf, tail_by, whole_by, Say, spot_of, Reads, IsBroken, IsWrong, FirstFault}

-- tokens are at most one expression
abbrev pub Alone : Type 0
Alone = (column_of : List ℕ → ℕ) (tokens : List Token) (a b : Tree) → Parses column_of Disjunction tokens a → Parses column_of Disjunction tokens b → a ≡ b

form_one : (words : List Token) (a b : Option Wrong) → IsFormOf words a → IsFormOf words b → a ≡ b
form_one words a b (inl x) (inl y) = x.1 ∙ sym y.1
form_one words a b (inl x) (inr (inl y)) = absurd (let p = x.0 in let q = y.0 in cc)
form_one words a b (inl x) (inr (inr y)) = absurd (let p = x.0 in let q = y.0 in cc)
form_one words a b (inr (inl x)) (inl y) = absurd (let p = x.0 in let q = y.0 in cc)
form_one words a b (inr (inl x)) (inr (inl y)) = x.2 ∙ sym y.2
form_one words a b (inr (inl x)) (inr (inr y)) = absurd (x.1 y.1)
form_one words a b (inr (inr x)) (inl y) = absurd (let p = x.0 in let q = y.0 in cc)
form_one words a b (inr (inr x)) (inr (inl y)) = absurd (y.1 x.1)
form_one words a b (inr (inr x)) (inr (inr y)) = x.2 ∙ sym y.2

typed_one : (tables : List TableDef) (table at : ℕ) (words : List Token) (tree : Tree) (a b : ConditionRead) → IsTyped tables table at words tree a → IsTyped tables table at words tree b → a ≡ b
typed_one tables table at words tree a b (inl x) (inl y) = x.1 ∙ sym y.1
typed_one tables table at words tree a b (inl x) (inr y) = absurd (y.0 x.0)
typed_one tables table at words tree a b (inr x) (inl y) = absurd (x.0 y.0)
typed_one tables table at words tree a b (inr x) (inr y) = x.1 ∙ sym y.1

-- what words come to where nothing is wrong with one of them
abbrev Meant : List TableDef → ℕ → ℕ → List Token → ConditionRead → Type 0
Meant tables table at words read = (tree : Tree) × Parses (column_in (names_of words)) Disjunction words tree × IsTyped tables table at words tree read

meant_one : Alone → (tables : List TableDef) (table at : ℕ) (words : List Token) (a b : ConditionRead) → Meant tables table at words a → Meant tables table at words b → a ≡ b
meant_one alone tables table at words a b x y =
    let same : y.0 ≡ x.0 = alone (column_in (names_of words)) words y.0 x.0 y.1 x.1 in
    typed_one tables table at words x.0 a b x.2 (subst (λ (tree : Tree). IsTyped tables table at words tree b) same y.2)

reads_one : Alone → (tables : List TableDef) (table at : ℕ) (words : List Token) (a b : ConditionRead) → ReadsCondition tables table at words a → ReadsCondition tables table at words b → a ≡ b
reads_one alone tables table at words a b x y =
    let step : (m : Option Wrong) → MatchOption m (Meant tables table at words a) (λ wrong. a ≡ Err wrong) → MatchOption m (Meant tables table at words b) (λ wrong. b ≡ Err wrong) → a ≡ b = elim [
      | Some wrong ↦ λ p q. p ∙ sym q
      | None ↦ λ p q. meant_one alone tables table at words a b p q
    ] in
    step (wrong_in (kind_named tables table) at words) x y

-- what the condition comes to, where there is one
abbrev Found : List TableDef → List Token → Result (Option ConditionData) Wrong → Type 0
Found tables words found = (read : ConditionRead) × ReadsCondition tables (table_of tables words) (condition_place words) (condition_in words) read × (found ≡ optional read)

condition_one : Alone → (tables : List TableDef) (words : List Token) (a b : Result (Option ConditionData) Wrong) → IsConditionOf tables words a → IsConditionOf tables words b → a ≡ b
condition_one alone tables words a b x y =
    let step : (h : Bool) → MatchBool h (Found tables words a) (a ≡ Ok None) → MatchBool h (Found tables words b) (b ≡ Ok None) → a ≡ b = elim [
      | true ↦ λ p q. p.2 ∙ (ap optional (reads_one alone tables (table_of tables words) (condition_place words) (condition_in words) p.0 q.0 p.1 q.1) ∙ sym q.2)
      | false ↦ λ p q. p ∙ sym q
    ] in
    step (has_condition words) x y

say_one : Alone → (tables : List TableDef) (words : List Token) (a b : Result QueryData Wrong) → Say tables words a → Say tables words b → a ≡ b
say_one alone tables words a b x y =
    let same : y.form ≡ x.form = form_one words y.form x.form y.is_form x.is_form in
    let of_y : head_by tables words x.form ≡ None → IsConditionOf tables words y.found =
    subst (λ (form : Option Wrong). head_by tables words form ≡ None → IsConditionOf tables words y.found) same y.is_condition in
    let step : (h : Option Wrong) → (h ≡ None → IsConditionOf tables words x.found) → (h ≡ None → IsConditionOf tables words y.found) → whole_by tables words h x.found ≡ whole_by tables words h y.found = elim [
      | Some wrong ↦ λ p q. refl
      | None ↦ λ p q. ap (tail_by tables words) (condition_one alone tables words x.found y.found (p refl) (q refl))
    ] in
    x.is ∙ (step (head_by tables words x.form) x.is_condition of_y ∙ (ap (λ (form : Option Wrong). whole_by tables words (head_by tables words form) y.found) (sym same) ∙ sym y.is))

pub query_one : Alone → (schema : SchemaData) (text : List ℕ) (query other : QueryData) → Reads schema text query → Reads schema text other → query ≡ other
query_one alone schema text query other x y =
    let a : Result QueryData Wrong = Ok query in
    let b : Result QueryData Wrong = Ok other in
    let same : a ≡ b = say_one alone schema.tables (pieces_of text).0 a b x.says y.says in
    cc

broken_utf8 : (text : List ℕ) (front : ℕ) → IsValidUpTo text front → IsUtf8 text → ⊥
broken_utf8 text front h u =
    let whole = utf8_valid_len-IsUtf8 text u in
    let part = utf8_valid_len-IsValidUpTo text front h in
    let short : front < length text = h.short in
    omega arith

broken_one : (text : List ℕ) (kind other : QueryKind) (spot place : Spot) → IsBroken text kind spot → IsBroken text other place → (kind ≡ other) × (spot ≡ place)
broken_one text kind other spot place x y =
    let same : x.front ≡ y.front = sym (utf8_valid_len-IsValidUpTo text x.front x.longest) ∙ utf8_valid_len-IsValidUpTo text y.front y.longest in
    (x.kind_is ∙ sym y.kind_is, x.spot_is ∙ (ap (λ n. spot_after 1 1 (take n text)) same ∙ sym y.spot_is))

wrong_one : Alone → (schema : SchemaData) (text : List ℕ) (kind other : QueryKind) (spot place : Spot) → IsWrong schema text kind spot → IsWrong schema text other place → (kind ≡ other) × (spot ≡ place)
wrong_one alone schema text kind other spot place x y =
    let a : Result QueryData Wrong = Err x.wrong in
    let b : Result QueryData Wrong = Err y.wrong in
    let all : a ≡ b = say_one alone schema.tables (pieces_of text).0 a b x.says y.says in
    let same : x.wrong ≡ y.wrong = cc in
    (x.kind_is ∙ (ap (λ (w : Wrong). w.kind) same ∙ sym y.kind_is), x.spot_is ∙ (ap (λ (w : Wrong). spot_of (pieces_of text).1 w.at) same ∙ sym y.spot_is))

long_not_few : (text : List ℕ) → 4194304 < length text → length text ≤ 4194304 → ⊥
long_not_few text a b = omega arith

pub fault_one : Alone → (schema : SchemaData) (text : List ℕ) (kind other : QueryKind) (spot place : Spot) → FirstFault schema text kind spot → FirstFault schema text other place
    → (kind ≡ other) × (spot ≡ place)
fault_one alone schema text kind other spot place (inl x) (inl y) = (x.1 ∙ sym y.1, x.2 ∙ sym y.2)
fault_one alone schema text kind other spot place (inl x) (inr (inl y)) = absurd (long_not_few text x.0 y.few)
fault_one alone schema text kind other spot place (inl x) (inr (inr y)) = absurd (long_not_few text x.0 y.few)
fault_one alone schema text kind other spot place (inr (inl x)) (inl y) = absurd (long_not_few text y.0 x.few)
fault_one alone schema text kind other spot place (inr (inr x)) (inl y) = absurd (long_not_few text y.0 x.few)
fault_one alone schema text kind other spot place (inr (inl x)) (inr (inl y)) = broken_one text kind other spot place x y
fault_one alone schema text kind other spot place (inr (inl x)) (inr (inr y)) = absurd (broken_utf8 text x.front x.longest y.utf8)
fault_one alone schema text kind other spot place (inr (inr x)) (inr (inl y)) = absurd (broken_utf8 text y.front y.longest x.utf8)
fault_one alone schema text kind other spot place (inr (inr x)) (inr (inr y)) = wrong_one alone schema text kind other spot place x y

pub read_no_fault : Alone → (schema : SchemaData) (text : List ℕ) (query : QueryData) (kind : QueryKind) (spot : Spot) → Reads schema text query → FirstFault schema text kind spot → ⊥
read_no_fault alone schema text query kind spot x (inl y) = long_not_few text y.0 x.few
read_no_fault alone schema text query kind spot x (inr (inl y)) = broken_utf8 text y.front y.longest x.utf8
read_no_fault alone schema text query kind spot x (inr (inr y)) =
    let a : Result QueryData Wrong = Ok query in
    let b : Result QueryData Wrong = Err y.wrong in
    let same : a ≡ b = say_one alone schema.tables (pieces_of text).0 a b x.says y.says in
    absurd (cc)
