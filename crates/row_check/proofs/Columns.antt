-- The values in columns, one column more at a time.
use Rattle.std.proofs.Common.{◌≡◌, ℕ, ◌+◌, ◌<◌, List, [], ◌∷◌, ◌++◌, length, take, map, get_or, ap, ◌∙◌, sym, subst, refl, zero, suc, arith, Bool, true, false, ◌&&◌, IsTrue, nat_lt, All}
use Rattle.std.specs.Prelude.{unwrap_or}
use Rattle.std.specs.List.{list_all}
use Rattle.std.proofs.lemmas.Bool.Decides.{nat_tests}
use Rattle.std.proofs.lemmas.List.{map_more}
use Rattle.std.proofs.lemmas.Option.{slice_get-get_or}
use Rattle.update_model.specs.declared.value.Value.{Value}
use Rattle.update_model.specs.declared.value.Value.TheVariants.{Null}
use Rattle.row_check.specs.declared.expr.Expr.{Expr, Native}
use Rattle.row_check.specs.Meaning.{value_at, FitsRow}

-- what a row gives at a column that it has
value_there : (row : List Value) (column : ℕ) (value : Value) → column < length row → value ≡ get_or row column value → value_at row column ≡ value
value_there row column value low e = ap (λ o. unwrap_or o Null) (slice_get-get_or row column value low) ∙ sym e

-- the values so far, and the one in the next column
pub arguments_more : (row : List Value) (columns : List ℕ) (i column : ℕ) (args new : List Value) (value copied : Value)
    → i < length columns → args ≡ map (value_at row) (take i columns) → get_or columns i 0 < length row → column ≡ get_or columns i 0
    → value ≡ get_or row column value → copied ≡ value → new ≡ args ++ copied ∷ [] → new ≡ map (value_at row) (take (i + 1) columns)
arguments_more row columns i column args new value copied low so_far has at there same pushed =
    let more = map_more (value_at row) columns i 0 low in
    let next : value ≡ get_or row (get_or columns i 0) value = there ∙ ap (λ k. get_or row k value) at in
    let is = value_there row (get_or columns i 0) value has next in
    cc

and_true : (a b : Bool) → IsTrue (a && b) → IsTrue a × IsTrue b
and_true true b h = (refl, h)
and_true false b h = absurd cc

-- the test of each column, and what it says
pub has-all : (n : ℕ) (columns : List ℕ) → IsTrue (list_all (λ column. nat_lt column n) columns) → All (λ column. column < n) columns
has-all n [] h k d low = absurd (omega arith)
has-all n (c ∷ cs) h zero d low = let both = and_true (nat_lt c n) _ h in grind (arith, nat_tests, both.0)
has-all n (c ∷ cs) h (suc k) d low = has-all n cs (and_true (nat_lt c n) _ h).1 k d (omega arith)

pub all-has : (n : ℕ) (columns : List ℕ) → All (λ column. column < n) columns → IsTrue (list_all (λ column. nat_lt column n) columns)
all-has n [] all = refl
all-has n (c ∷ cs) all =
    let first : c < n = all zero 0 (omega arith) in
    let here : nat_lt c n ≡ true = grind (arith, nat_tests, first) in
    let later = all-has n cs (λ k d low. all (suc k) d (omega arith)) in
    rw here later

-- a native check fits where the test of its columns passes
pub native_fits : (row : List Value) (expr : Expr) (number : ℕ) (columns : List ℕ) (test : Bool) → expr ≡ Native number columns
    → test ≡ list_all (λ column. nat_lt column (length row)) columns → (IsTrue test → FitsRow row expr) × (FitsRow row expr → IsTrue test)
native_fits row expr number columns test is tested = (
  (λ h. let P : Expr → Type 0 = λ e. FitsRow row e in subst P (sym is) (has-all (length row) columns (sym tested ∙ h))),
  (λ h. let P : Expr → Type 0 = λ e. FitsRow row e in tested ∙ all-has (length row) columns (subst P is h)),
)
