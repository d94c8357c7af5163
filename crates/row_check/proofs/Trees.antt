-- What trees of expressions mean, and rows of the kinds that they read.
use Rattle.std.proofs.Common.{◌≡◌, ℕ, ℤ, zero, suc, ◌<◌, Bool, not, ◌&&◌, ◌||◌, List, [], ◌∷◌, length, refl, ap, ◌∙◌, sym, subst, arith, slice_index_or}
use Rattle.std.specs.Prelude.{Option, Some, None, IsSome}
use Rattle.update_model.specs.declared.value.Value.{Value}
use Rattle.update_model.specs.declared.value.Value.TheVariants as value
use Rattle.row_check.specs.declared.term.Term.{Term}
use Rattle.row_check.specs.declared.term.Term.TheVariants as term
use Rattle.row_check.specs.declared.expr.Expr.{Expr, And', Or', Not', Compare, IsNull, Native}
use Rattle.row_check.specs.Comparisons.{AreComparable}
use Rattle.row_check.specs.Meaning.{value_at, holds, FitsRow, FitsTerm, IsTextOrNull, term_value, length_of}
use Rattle.row_check.specs.declared.kind.Kind.{Kind}
use Rattle.row_check.specs.declared.kind.Kind.TheVariants as kind
use Rattle.row_check.specs.Kinds.{plain_kind, literal_kind, length_kind, term_kind, HasKinds, IsOfKind, FitsKinds}
use Rattle.row_check.specs.Trees.{tree_of, holds_tree}

pub holds_as_tree : (relation : ℕ → List Value → Bool) (row : List Value) (expr : Expr) → holds relation row expr ≡ holds_tree relation row (tree_of expr)
holds_as_tree r row (And' _ a _ b) = ap (λ x. x && holds r row b) (holds_as_tree r row a) ∙ ap (λ x. holds_tree r row (tree_of a) && x) (holds_as_tree r row b)
holds_as_tree r row (Or' _ a _ b) = ap (λ x. x || holds r row b) (holds_as_tree r row a) ∙ ap (λ x. holds_tree r row (tree_of a) || x) (holds_as_tree r row b)
holds_as_tree r row (Not' _ a) = ap not (holds_as_tree r row a)
holds_as_tree r row (Compare left cmp right) = refl
holds_as_tree r row (IsNull column) = refl
holds_as_tree r row (Native number columns) = refl

-- a kind that no reference has
abbrev IsPlain : Kind → Type 0
IsPlain kind.Reference = ⊥
IsPlain other = Unit {0}

-- the row has a value of this kind, or null, in the column
record Has (k : Kind) (row : List Value) (column : ℕ) : Type 0 where
  low : column < length row
  of_kind : IsOfKind k (value_at row column)

plain_has : (kinds : List Kind) (row : List Value) (column : ℕ) (k : Kind) → FitsKinds kinds row → plain_kind kinds column ≡ Some k → Has k row column × IsPlain k
plain_has [] [] column k f e = absurd cc
plain_has [] (value ∷ row) column k f e = absurd f
plain_has (kind ∷ kinds) [] column k f e = absurd f
plain_has (kind.Int ∷ kinds) (value ∷ row) zero k f e = let is : kind.Int ≡ k = cc in subst (λ k. Has k (value ∷ row) zero × IsPlain k) is (record { low = omega arith; of_kind = f.0 }, tt)
plain_has (kind.Text ∷ kinds) (value ∷ row) zero k f e = let is : kind.Text ≡ k = cc in subst (λ k. Has k (value ∷ row) zero × IsPlain k) is (record { low = omega arith; of_kind = f.0 }, tt)
plain_has (kind.Flag ∷ kinds) (value ∷ row) zero k f e = let is : kind.Flag ≡ k = cc in subst (λ k. Has k (value ∷ row) zero × IsPlain k) is (record { low = omega arith; of_kind = f.0 }, tt)
plain_has (kind.Reference ∷ kinds) (value ∷ row) zero k f e = absurd cc
plain_has (kind ∷ kinds) (value ∷ row) (suc column) k f e =
    let h : Has k row column × IsPlain k = plain_has kinds row column k f.1 e in
    let low : column < length row = h.0.low in
    (record { low = omega arith; of_kind = h.0.of_kind }, h.1)

some_of : {A : Type 0} (o : Option A) → IsSome o → (x : A) × (o ≡ Some x)
some_of (Some x) e = (x, refl)
some_of None e = absurd cc

plain_low : (kinds : List Kind) (row : List Value) (column : ℕ) → FitsKinds kinds row → IsSome (plain_kind kinds column) → column < length row
plain_low kinds row column f e = let some = some_of (plain_kind kinds column) e in (plain_has kinds row column some.0 f some.1).0.low

-- a side of a comparison that fits, of a kind
record Fits (k : Kind) (row : List Value) (t : Term) : Type 0 where
  fits : FitsTerm row t
  of_kind : IsOfKind k (term_value row t)
  plain : IsPlain k

literal_fits : (row : List Value) (v : Value) (k : Kind) → literal_kind v ≡ Some k → Fits k row (term.Literal v)
literal_fits row (value.Int n) k e = let is : kind.Int ≡ k = cc in subst (λ k. Fits k row (term.Literal (value.Int n))) is (record { fits = tt; of_kind = tt; plain = tt })
literal_fits row (value.Text bytes) k e = let is : kind.Text ≡ k = cc in subst (λ k. Fits k row (term.Literal (value.Text bytes))) is (record { fits = tt; of_kind = tt; plain = tt })
literal_fits row (value.Flag flag) k e = let is : kind.Flag ≡ k = cc in subst (λ k. Fits k row (term.Literal (value.Flag flag))) is (record { fits = tt; of_kind = tt; plain = tt })
literal_fits row value.Null k e = absurd cc
literal_fits row (value.Row name) k e = absurd cc
literal_fits row (value.Own index) k e = absurd cc

text_measures : (v : Value) → IsOfKind kind.Text v → IsTextOrNull v × IsOfKind kind.Int (length_of v)
text_measures value.Null h = (tt, tt)
text_measures (value.Text bytes) h = (tt, tt)
text_measures (value.Int n) h = absurd h
text_measures (value.Flag flag) h = absurd h
text_measures (value.Row name) h = absurd h
text_measures (value.Own index) h = absurd h

length_fits : (kinds : List Kind) (row : List Value) (column : ℕ) (k : Kind) (o : Option Kind) → FitsKinds kinds row → plain_kind kinds column ≡ o
    → length_kind o ≡ Some k → Fits k row (term.Length column)
length_fits kinds row column k (Some kind.Text) f e is =
    let has = (plain_has kinds row column kind.Text f e).0 in
    let measured = text_measures (value_at row column) has.of_kind in
    let same : kind.Int ≡ k = cc in
    subst (λ k. Fits k row (term.Length column)) same (record { fits = (has.low, measured.0); of_kind = measured.1; plain = tt })
length_fits kinds row column k (Some kind.Int) f e is = absurd cc
length_fits kinds row column k (Some kind.Flag) f e is = absurd cc
length_fits kinds row column k (Some kind.Reference) f e is = absurd cc
length_fits kinds row column k None f e is = absurd cc

term_fits : (kinds : List Kind) (row : List Value) (t : Term) (k : Kind) → FitsKinds kinds row → term_kind kinds t ≡ Some k → Fits k row t
term_fits kinds row (term.Column column) k f e = let h = plain_has kinds row column k f e in record { fits = h.0.low; of_kind = h.0.of_kind; plain = h.1 }
term_fits kinds row (term.Literal v) k f e = literal_fits row v k e
term_fits kinds row (term.Length column) k f e = length_fits kinds row column k (plain_kind kinds column) f refl e

with_int : (n : ℤ) (b : Value) → IsOfKind kind.Int b → AreComparable (value.Int n) b
with_int n value.Null i = tt
with_int n (value.Int m) i = tt
with_int n b i = absurd i

with_text : (bytes : List ℕ) (b : Value) → IsOfKind kind.Text b → AreComparable (value.Text bytes) b
with_text bytes value.Null i = tt
with_text bytes (value.Text others) i = tt
with_text bytes b i = absurd i

with_flag : (flag : Bool) (b : Value) → IsOfKind kind.Flag b → AreComparable (value.Flag flag) b
with_flag flag value.Null i = tt
with_flag flag (value.Flag other) i = tt
with_flag flag b i = absurd i

comparable : (k : Kind) (a b : Value) → IsPlain k → IsOfKind k a → IsOfKind k b → AreComparable a b
comparable kind.Int value.Null b p h i = tt
comparable kind.Int (value.Int n) b p h i = with_int n b i
comparable kind.Int a b p h i = absurd h
comparable kind.Text value.Null b p h i = tt
comparable kind.Text (value.Text bytes) b p h i = with_text bytes b i
comparable kind.Text a b p h i = absurd h
comparable kind.Flag value.Null b p h i = tt
comparable kind.Flag (value.Flag flag) b p h i = with_flag flag b i
comparable kind.Flag a b p h i = absurd h
comparable kind.Reference a b p h i = absurd p

pub kinds_fit : (kinds : List Kind) (row : List Value) (expr : Expr) → HasKinds kinds (tree_of expr) → FitsKinds kinds row → FitsRow row expr
kinds_fit kinds row (And' _ a _ b) h f = (kinds_fit kinds row a h.0 f, kinds_fit kinds row b h.1 f)
kinds_fit kinds row (Or' _ a _ b) h f = (kinds_fit kinds row a h.0 f, kinds_fit kinds row b h.1 f)
kinds_fit kinds row (Not' _ a) h f = kinds_fit kinds row a h f
kinds_fit kinds row (Compare left cmp right) h f =
    let some = some_of (term_kind kinds left) h.0 in
    let l = term_fits kinds row left some.0 f some.1 in
    let r = term_fits kinds row right some.0 f (sym h.1 ∙ some.1) in
    (l.fits, r.fits, comparable some.0 (term_value row left) (term_value row right) l.plain l.of_kind r.of_kind)
kinds_fit kinds row (IsNull column) h f = plain_low kinds row column f h
kinds_fit kinds row (Native number columns) h f = λ k d low. plain_low kinds row (slice_index_or columns k d) f (h k d low)
