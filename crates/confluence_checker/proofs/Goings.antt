-- Going through the invariants of a schema.
use Rattle.std.proofs.Common.{◌≡◌, ℕ, ◌+◌, ◌<◌, Bool, true, false, cond, List, [], ◌∷◌, ◌++◌, length, drop, get_or, refl, sym, ap, ◌∙◌, Option, Some, slice_get}
use Rattle.table_model.specs.declared.invariant.Invariant.{Invariant}
use Rattle.schema.specs.declared.rules.UniqueRule.{UniqueRule}
use Rattle.table_model.specs.declared.invariant.InvariantKind.{InvariantKind}
use Rattle.table_model.specs.declared.invariant.InvariantKind.TheVariants as kind
use Rattle.table_model.specs.Invariants.{Claim, Declared, Unique, UniqueKept, claim_holds, declared_at, each_from, unique_declared}
use Rattle.table_model.specs.Verdicts.{keeps_least, unique_holds}
use Rattle.table_model.specs.Visible.{Rules, TableRow}
use Rattle.confluence_checker.specs.declared.found.FoundInvariant.{FoundInvariant}
use Rattle.confluence_checker.specs.Forms.{found_among, is_same, seen, unique_kind}
use Rattle.confluence_checker.proofs.Lists.{drop_next}
use Rattle.confluence_checker.proofs.Bounds.{left_at}

-- first these, then those
pub found_append : (rules : Rules) (rows : List TableRow) (which : Invariant) (xs ys : List Declared) (found : FoundInvariant)
    → found_among rules rows which (xs ++ ys) found ≡ found_among rules rows which ys (found_among rules rows which xs found)
found_append rules rows which [] ys found = refl
found_append rules rows which (d ∷ ds) ys found = found_append rules rows which ds ys (seen found (is_same d.which which) (claim_holds rules rows d.claim))

-- what one item more declares
pub found_next : {X : Type 0} (rules : Rules) (rows : List TableRow) (which : Invariant) (declares : ℕ → X → List Declared) (xs : List X) (i : ℕ) (x : X) (found next all : FoundInvariant) → i < length xs → x ≡ get_or xs i x
    → next ≡ found_among rules rows which (declares i x) found → found_among rules rows which (each_from declares i (drop i xs)) found ≡ all
    → found_among rules rows which (each_from declares (i + 1) (drop (i + 1) xs)) next ≡ all
found_next rules rows which declares xs i x found next all h e made told =
    let rest = each_from declares (i + 1) (drop (i + 1) xs) in
    ap (found_among rules rows which rest) made ∙ sym (found_append rules rows which (declares i x) rest found)
    ∙ sym (ap (λ l. found_among rules rows which (each_from declares i l) found) (drop_next xs i x h e)) ∙ told

pub found_at : {X : Type 0} (rules : Rules) (rows : List TableRow) (which : Invariant) (declares : ℕ → X → List Declared) (xs : List X) (i : ℕ) (x : X) (found next all : FoundInvariant) → slice_get xs i ≡ Some x
    → next ≡ found_among rules rows which (declares i x) found → found_among rules rows which (each_from declares i (drop i xs)) found ≡ all
    → found_among rules rows which (each_from declares (i + 1) (drop (i + 1) xs)) next ≡ all
found_at rules rows which declares xs i x found next all at made told =
    let rest = each_from declares (i + 1) (drop (i + 1) xs) in
    ap (found_among rules rows which rest) made ∙ sym (found_append rules rows which (declares i x) rest found)
    ∙ sym (ap (λ l. found_among rules rows which (each_from declares i l) found) (left_at xs i x at)) ∙ told

-- the five kinds of invariants of a table
pub found_table : (rules : Rules) (rows : List TableRow) (which : Invariant) (A B C D E : List Declared) (before a b c d e : FoundInvariant)
    → a ≡ found_among rules rows which A before → b ≡ found_among rules rows which B a → c ≡ found_among rules rows which C b → d ≡ found_among rules rows which D c → e ≡ found_among rules rows which E d
    → e ≡ found_among rules rows which (A ++ B ++ C ++ D ++ E) before
found_table rules rows which A B C D E before a b c d e ha hb hc hd he =
    let ab : b ≡ found_among rules rows which (A ++ B) before = hb ∙ ap (found_among rules rows which B) ha ∙ sym (found_append rules rows which A B before) in
    let abc : c ≡ found_among rules rows which (A ++ B ++ C) before = hc ∙ ap (found_among rules rows which C) ab ∙ sym (found_append rules rows which (A ++ B) C before) in
    let abcd : d ≡ found_among rules rows which (A ++ B ++ C ++ D) before = hd ∙ ap (found_among rules rows which D) abc ∙ sym (found_append rules rows which (A ++ B ++ C) D before) in
    he ∙ ap (found_among rules rows which E) abcd ∙ sym (found_append rules rows which (A ++ B ++ C ++ D) E before)

-- a UNIQUE, by its kind
pub found_unique : (rules : Rules) (rows : List TableRow) (which : Invariant) (kept : Option ℕ) (number place : ℕ) (rule : UniqueRule) (found : FoundInvariant)
    → seen found (is_same (record { kind = unique_kind kept rule.column; table = number; place = place; line = rule.line }) which) (unique_holds rows number rule.column)
    ≡ found_among rules rows which (unique_declared kept number place rule) found
found_unique rules rows which kept number place rule found =
    let at : InvariantKind → Claim → List Declared = λ k claim. declared_at k number place rule.line claim in
    let step : (b : Bool) → seen found (is_same (record { kind = cond b kind.UniqueKept kind.Unique; table = number; place = place; line = rule.line }) which) (unique_holds rows number rule.column)
    ≡ found_among rules rows which (cond b (at kind.UniqueKept (UniqueKept number rule.column)) (at kind.Unique (Unique number rule.column))) found =
    elim [ true ↦ refl | false ↦ refl ] in
    step (keeps_least kept rule.column)
