-- No two invariants of a schema have one name, so that going through them finds the one that is wanted and no other.
use Rattle.std.proofs.Common.{◌≡◌, ℕ, ◌+◌, ◌==◌, ◌<◌, ◌≤◌, Bool, true, false, ◌&&◌, cond, List, [], ◌∷◌, ◌++◌, refl, ap, ◌∙◌, arith, Option, Some, None}
use Rattle.std.specs.List.{AllByRecursion}
use Rattle.std.proofs.lemmas.Bool.{eq-eqb, ne_eqb}
use Rattle.schema.specs.declared.action.Action.{Action}
use Rattle.table_model.specs.declared.invariant.Invariant.{Invariant}
use Rattle.schema.specs.declared.table_def.TableDef.{TableDef}
use Rattle.schema.specs.Columns.{target_of}
use Rattle.table_model.specs.Invariants.{Declared, each_from, unique_declared, at_most_declared, refers_declared, reference_declared, check_declared, match_declared, table_declared, invariants_of}
use Rattle.table_model.specs.Verdicts.{keeps_least}
use Rattle.table_model.specs.Visible.{Rules}
use Rattle.confluence_checker.specs.Forms.{is_same, kind_number}

-- ---- names that differ

abbrev pub Differ : Declared → Declared → Type 0
Differ d e = is_same d.which e.which ≡ false

first_no : (a b c d : Bool) → a ≡ false → (a && b && c && d) ≡ false
first_no a b c d h = ap (λ (x : Bool). x && b && c && d) h

second_no : (a b c d : Bool) → b ≡ false → (a && b && c && d) ≡ false
second_no true b c d h = ap (λ (x : Bool). x && c && d) h
second_no false b c d h = refl

third_no : (a b c d : Bool) → c ≡ false → (a && b && c && d) ≡ false
third_no true true c d h = ap (λ (x : Bool). x && d) h
third_no true false c d h = refl
third_no false b c d h = refl

kinds_differ : (d e : Declared) → kind_number d.which.kind < kind_number e.which.kind → Differ d e
kinds_differ d e h = first_no _ (d.which.table == e.which.table) (d.which.place == e.which.place) (d.which.line == e.which.line) (ne_eqb (kind_number d.which.kind) (kind_number e.which.kind) (λ same. omega arith))

tables_differ : (d e : Declared) → d.which.table < e.which.table → Differ d e
tables_differ d e h = second_no (kind_number d.which.kind == kind_number e.which.kind) _ (d.which.place == e.which.place) (d.which.line == e.which.line) (ne_eqb d.which.table e.which.table (λ same. omega arith))

places_differ : (d e : Declared) → d.which.place < e.which.place → Differ d e
places_differ d e h = third_no (kind_number d.which.kind == kind_number e.which.kind) (d.which.table == e.which.table) _ (d.which.line == e.which.line) (ne_eqb d.which.place e.which.place (λ same. omega arith))

pub same_itself : (a : Invariant) → is_same a a ≡ true
same_itself a =
    ap (λ (x : Bool). x && (a.table == a.table) && (a.place == a.place) && (a.line == a.line)) (eq-eqb (kind_number a.kind) (kind_number a.kind) refl)
    ∙ ap (λ (x : Bool). x && (a.place == a.place) && (a.line == a.line)) (eq-eqb a.table a.table refl)
    ∙ ap (λ (x : Bool). x && (a.line == a.line)) (eq-eqb a.place a.place refl) ∙ eq-eqb a.line a.line refl

-- ---- lists of invariants all of whose names differ

abbrev pub Apart : List Declared → Type 0
Apart [] = Unit {0}
Apart (d ∷ ds) = AllByRecursion (Differ d) ds × Apart ds

each_append : (P : Declared → Type 0) (xs ys : List Declared) → AllByRecursion P xs → AllByRecursion P ys → AllByRecursion P (xs ++ ys)
each_append P [] ys a b = b
each_append P (x ∷ xs) ys a b = (a.0, each_append P xs ys a.1 b)

each_weaker : (P Q : Declared → Type 0) → ((d : Declared) → P d → Q d) → (xs : List Declared) → AllByRecursion P xs → AllByRecursion Q xs
each_weaker P Q w [] a = tt
each_weaker P Q w (x ∷ xs) a = (w x a.0, each_weaker P Q w xs a.1)

apart_append : (P Q : Declared → Type 0) → ((d e : Declared) → P d → Q e → Differ d e) → (xs ys : List Declared) → AllByRecursion P xs → AllByRecursion Q ys → Apart xs → Apart ys → Apart (xs ++ ys)
apart_append P Q cross [] ys p q a b = b
apart_append P Q cross (x ∷ xs) ys p q a b =
    (each_append (Differ x) xs ys a.0 (each_weaker Q (Differ x) (λ e h. cross x e p.0 h) ys q), apart_append P Q cross xs ys p.1 q a.1 b)

each_of : {X : Type 0} (P : Declared → Type 0) (declares : ℕ → X → List Declared) → ((k : ℕ) (x : X) → AllByRecursion P (declares k x)) → (k : ℕ) (xs : List X) → AllByRecursion P (each_from declares k xs)
each_of P declares one k [] = tt
each_of P declares one k (x ∷ xs) = each_append P (declares k x) (each_from declares (k + 1) xs) (one k x) (each_of P declares one (k + 1) xs)

each_later : {X : Type 0} (key : Declared → ℕ) (declares : ℕ → X → List Declared) → ((k : ℕ) (x : X) → AllByRecursion (λ d. key d ≡ k) (declares k x)) → (k : ℕ) (xs : List X) → AllByRecursion (λ d. k ≤ key d) (each_from declares k xs)
each_later key declares one k [] = tt
each_later key declares one k (x ∷ xs) =
    each_append (λ d. k ≤ key d) (declares k x) (each_from declares (k + 1) xs) (each_weaker (λ d. key d ≡ k) (λ d. k ≤ key d) (λ d h. omega arith) (declares k x) (one k x))
    (each_weaker (λ d. k + 1 ≤ key d) (λ d. k ≤ key d) (λ d h. omega arith) (each_from declares (k + 1) xs) (each_later key declares one (k + 1) xs))

-- where each item's names have its number as a key, the items' names differ
apart_each : {X : Type 0} (key : Declared → ℕ) (differ : (d e : Declared) → key d < key e → Differ d e) (declares : ℕ → X → List Declared)
    → ((k : ℕ) (x : X) → AllByRecursion (λ d. key d ≡ k) (declares k x)) → ((k : ℕ) (x : X) → Apart (declares k x)) → (k : ℕ) (xs : List X) → Apart (each_from declares k xs)
apart_each key differ declares keys one k [] = tt
apart_each key differ declares keys one k (x ∷ xs) =
    apart_append (λ d. key d ≡ k) (λ d. k + 1 ≤ key d) (λ d e p q. differ d e (omega arith)) (declares k x) (each_from declares (k + 1) xs)
    (keys k x) (each_later key declares keys (k + 1) xs) (one k x) (apart_each key differ declares keys one (k + 1) xs)

-- ---- those of a table

most_each : (P : Declared → Type 0) (b : Bool) (d : Declared) → P d → AllByRecursion P (cond b [] (d ∷ []))
most_each P true d h = tt
most_each P false d h = (h, tt)

most_apart : (b : Bool) (d : Declared) → Apart (cond b [] (d ∷ []))
most_apart true d = tt
most_apart false d = (tt, tt)

refers_each : (P : Declared → Type 0) (table place line : ℕ) → ((t : ℕ × Action) → AllByRecursion P (refers_declared table place line (Some t))) → (o : Option (ℕ × Action)) → AllByRecursion P (refers_declared table place line o)
refers_each P table place line h None = tt
refers_each P table place line h (Some t) = h t

refers_apart : (table place line : ℕ) (o : Option (ℕ × Action)) → Apart (refers_declared table place line o)
refers_apart table place line None = tt
refers_apart table place line (Some t) = (tt, tt)

kept_each : (P : Declared → Type 0) (b : Bool) (d e : Declared) → P d → P e → AllByRecursion P (cond b (d ∷ []) (e ∷ []))
kept_each P true d e p q = (p, tt)
kept_each P false d e p q = (q, tt)

kept_apart : (b : Bool) (d e : Declared) → Apart (cond b (d ∷ []) (e ∷ []))
kept_apart true d e = (tt, tt)
kept_apart false d e = (tt, tt)

table_all : (number : ℕ) (table : TableDef) → AllByRecursion (λ d. d.which.table ≡ number) (table_declared number table)
table_all number table =
    let P : Declared → Type 0 = λ d. d.which.table ≡ number in
    let A = each_from (unique_declared table.kept number) 0 table.uniques in
    let B = at_most_declared number table in
    let C = each_from (reference_declared number) 0 table.columns in
    let D = each_from (check_declared number) 0 table.checks in
    let E = each_from (match_declared number) 0 table.matches in
    each_append P (A ++ B ++ C ++ D) E
    (each_append P (A ++ B ++ C) D
    (each_append P (A ++ B) C (each_append P A B (each_of P (unique_declared table.kept number) (λ k x. kept_each P (keeps_least table.kept x.column) _ _ refl refl) 0 table.uniques) (most_each P (table.at_most == 0) _ refl))
    (each_of P (reference_declared number) (λ k c. refers_each P number k c.line (λ t. (refl, tt)) (target_of c.kind)) 0 table.columns))
    (each_of P (check_declared number) (λ k x. (refl, tt)) 0 table.checks))
    (each_of P (match_declared number) (λ k x. (refl, tt)) 0 table.matches)

table_apart : (number : ℕ) (table : TableDef) → Apart (table_declared number table)
table_apart number table =
    let key : Declared → ℕ = λ d. d.which.place in
    let K : ℕ → Declared → Type 0 = λ n d. kind_number d.which.kind ≡ n in
    let L : ℕ → Declared → Type 0 = λ n d. kind_number d.which.kind < n in
    let cross : (n : ℕ) (d e : Declared) → L n d → K n e → Differ d e = λ n d e p q. kinds_differ d e (omega arith) in
    let A = each_from (unique_declared table.kept number) 0 table.uniques in
    let B = at_most_declared number table in
    let C = each_from (reference_declared number) 0 table.columns in
    let D = each_from (check_declared number) 0 table.checks in
    let E = each_from (match_declared number) 0 table.matches in
    let b : AllByRecursion (K 2) B = most_each (K 2) (table.at_most == 0) _ refl in
    let c : AllByRecursion (K 3) C = each_of (K 3) (reference_declared number) (λ k x. refers_each (K 3) number k x.line (λ t. (refl, tt)) (target_of x.kind)) 0 table.columns in
    let d : AllByRecursion (K 4) D = each_of (K 4) (check_declared number) (λ k x. (refl, tt)) 0 table.checks in
    let e : AllByRecursion (K 5) E = each_of (K 5) (match_declared number) (λ k x. (refl, tt)) 0 table.matches in
    let a : AllByRecursion (L 2) A = each_of (L 2) (unique_declared table.kept number) (λ k x. kept_each (L 2) (keeps_least table.kept x.column) _ _ (omega arith) (omega arith)) 0 table.uniques in
    let ab : AllByRecursion (L 3) (A ++ B) = each_append (L 3) A B (each_weaker (L 2) (L 3) (λ x h. omega arith) A a) (each_weaker (K 2) (L 3) (λ x h. omega arith) B b) in
    let abc : AllByRecursion (L 4) (A ++ B ++ C) = each_append (L 4) (A ++ B) C (each_weaker (L 3) (L 4) (λ x h. omega arith) (A ++ B) ab) (each_weaker (K 3) (L 4) (λ x h. omega arith) C c) in
    let abcd : AllByRecursion (L 5) (A ++ B ++ C ++ D) = each_append (L 5) (A ++ B ++ C) D (each_weaker (L 4) (L 5) (λ x h. omega arith) (A ++ B ++ C) abc) (each_weaker (K 4) (L 5) (λ x h. omega arith) D d) in
    apart_append (L 5) (K 5) (cross 5) (A ++ B ++ C ++ D) E abcd e
    (apart_append (L 4) (K 4) (cross 4) (A ++ B ++ C) D abc d
    (apart_append (L 3) (K 3) (cross 3) (A ++ B) C ab c
    (apart_append (L 2) (K 2) (cross 2) A B a b
    (apart_each key places_differ (unique_declared table.kept number) (λ k x. kept_each (λ z. z.which.place ≡ k) (keeps_least table.kept x.column) _ _ refl refl)
    (λ k x. kept_apart (keeps_least table.kept x.column) _ _) 0 table.uniques) (most_apart (table.at_most == 0) _))
    (apart_each key places_differ (reference_declared number) (λ k x. refers_each (λ z. z.which.place ≡ k) number k x.line (λ t. (refl, tt)) (target_of x.kind)) (λ k x. refers_apart number k x.line (target_of x.kind)) 0 table.columns))
    (apart_each key places_differ (check_declared number) (λ k x. (refl, tt)) (λ k x. (tt, tt)) 0 table.checks))
    (apart_each key places_differ (match_declared number) (λ k x. (refl, tt)) (λ k x. (tt, tt)) 0 table.matches)

-- the names of a schema's invariants all differ
pub invariants_apart : (rules : Rules) → Apart (invariants_of rules)
invariants_apart rules = apart_each (λ d. d.which.table) tables_differ table_declared table_all table_apart 0 rules.tables

-- those before one have other names
pub earlier_differ : (earlier later : List Declared) (d : Declared) → Apart (earlier ++ d ∷ later) → AllByRecursion (λ e. Differ e d) earlier
earlier_differ [] later d a = tt
earlier_differ (e ∷ earlier) later d a = (middle earlier a.0, earlier_differ earlier later d a.1)
  where
    middle : (es : List Declared) → AllByRecursion (Differ e) (es ++ d ∷ later) → Differ e d
    middle [] h = h.0
    middle (x ∷ xs) h = middle xs h.1
