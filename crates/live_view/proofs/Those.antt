-- The lines that are not among others, and going through them side by side.
use Rattle.std.proofs.Common.{◌≡◌, ◌⊎◌, inl, inr, ℕ, zero, suc, ◌+◌, ◌<◌, ◌≤◌, List, [], ◌∷◌, ◌++◌, length, get_or, refl, sym, ap, subst, ◌∙◌, arith, append_assoc, append-nil, drop, drop-cons}
use Rattle.std.proofs.lemmas.List.{drop_all}
use Rattle.std.specs.Prelude.{◌≢◌, ◌↔◌}
use Rattle.std.specs.List.{AllByRecursion, Contains}
use Rattle.std.specs.List.Sorted.{IsStrictlySortedBy}
use Rattle.std.specs.Cmp.{IsTotalOrder}
use Rattle.std.specs.Ordering.{ordering_reverse}
use Rattle.std.specs.declared.cmp.Ordering.{Ordering}
use Rattle.std.specs.declared.cmp.Ordering.TheVariants.{Less, Equal, Greater}
use Rattle.std.proofs.lemmas.Cmp.{on_total}
use Rattle.table_model.proofs.Rising.{name_cmp_total}
use Rattle.live_view.specs.Named.{RiseByName, name_in, named_cmp}
use Rattle.live_view.specs.Cursors.{BeginsAt, BeginsBefore, Passes, begins_with}
use Rattle.live_view.specs.Changes.{AreMissing, Line}

-- ---- elements

pub here : {X : Type 0} (x : X) (xs : List X) → Contains (x ∷ xs) x
here x xs = (0, omega arith, refl)

pub there : {X : Type 0} (x y : X) (xs : List X) → Contains xs y → Contains (x ∷ xs) y
there x y xs has = (suc has.0, omega (arith, has.1), has.2)

pub one_of : {X : Type 0} (x y : X) (xs : List X) → Contains (x ∷ xs) y → (x ≡ y) ⊎ Contains xs y
one_of x y xs (zero, lt, is) = inl is
one_of x y xs (suc k, lt, is) = inr (k, omega (arith, lt), is)

pub none_of : {X : Type 0} (x : X) → Contains [] x → ⊥
none_of x has = absurd (omega (arith, has.1))

pub in_all : {X : Type 0} (P : X → Type 0) (xs : List X) (x : X) → AllByRecursion P xs → Contains xs x → P x
in_all P [] x all has = absurd (none_of x has)
in_all P (y ∷ ys) x all has = elim (one_of y x ys has) [
  | inl same ↦ subst P same all.0
  | inr later ↦ in_all P ys x all.1 later
]

pub behind_front : {X : Type 0} (front rest : List X) (x : X) → Contains rest x → Contains (front ++ rest) x
behind_front [] rest x has = has
behind_front (y ∷ front) rest x has = there y x (front ++ rest) (behind_front front rest x has)

pub in_either : {X : Type 0} (front rest : List X) (x : X) → Contains (front ++ rest) x → Contains front x ⊎ Contains rest x
in_either [] rest x has = inr has
in_either (y ∷ front) rest x has = elim (one_of y x (front ++ rest) has) [
  | inl same ↦ inl (subst (Contains (y ∷ front)) same (here y front))
  | inr later ↦ elim (in_either front rest x later) [
    | inl first ↦ inl (there y x front first)
    | inr second ↦ inr second
  ]
]

-- ---- the order of lines

named_cmp_total : IsTotalOrder named_cmp
named_cmp_total = on_total name_in name_cmp_total

not_itself : (o : Ordering) → o ≡ Less → (o ≡ ordering_reverse o) → ⊥
not_itself Less less back = cc
not_itself Equal less back = cc
not_itself Greater less back = cc

pub not_before_itself : (line : Line) → named_cmp line line ≡ Less → ⊥
not_before_itself line less = not_itself (named_cmp line line) less (named_cmp_total.antisymm line line)

pub not_both : (a b : Line) → named_cmp a b ≡ Less → named_cmp b a ≡ Less → ⊥
not_both a b first second = not_before_itself a (named_cmp_total.trans a b a first second)

pub rising_behind : (front rest : List Line) → RiseByName (front ++ rest) → RiseByName rest
unfolding IsStrictlySortedBy
rising_behind [] rest rising = rising
rising_behind (x ∷ front) rest rising = rising_behind front rest rising.1

-- ---- one line beside others

-- How far the lines are told that are not among others: those before the rest, and of the others no more than is left is wanted.
pub record IsTold (all others ahead rest left : List Line) : Type 0 where
  pub so_far : (tail : List Line) → AreMissing others ahead tail → AreMissing others all (left ++ tail)
  pub rising : RiseByName rest
  pub wanted : (line : Line) → Contains ahead line → Contains others line → Contains rest line
  pub within : (line : Line) → Contains rest line → Contains others line

pub told_first : (all others : List Line) → RiseByName others → IsTold all others all others []
told_first all others rising = record { so_far = λ tail those. those; rising = rising; wanted = λ line has other. other; within = λ line has. has }

pub told_last : (all others rest left : List Line) → IsTold all others [] rest left → AreMissing others all left
told_last all others rest left told = subst (AreMissing others all) (append-nil left) (told.so_far [] refl)

left_of : (line : Line) (rest next : List Line) → Passes rest line next → (other : Line) → (named_cmp other line ≡ Less → ⊥) → Contains rest other → Contains next other
left_of line rest next passes other not_before has = elim (in_either passes.passed next other (subst (λ (l : List Line). Contains l other) passes.parts has)) [
  | inl front ↦ absurd (not_before (in_all (λ x. named_cmp x line ≡ Less) passes.passed other passes.before front))
  | inr later ↦ later
]

first_is : (line : Line) (next : List Line) → RiseByName next → BeginsAt next line → Contains next line → begins_with next line
unfolding IsStrictlySortedBy
first_is line [] rising stops has = none_of line has
first_is line (first ∷ next) rising stops has = elim (one_of first line next has) [
  | inl same ↦ same
  | inr later ↦ absurd (stops (in_all (λ x. named_cmp first x ≡ Less) next line rising.0 later))
]

begins_has : (line : Line) (next : List Line) → begins_with next line → Contains next line
begins_has line [] begins = absurd begins
begins_has line (first ∷ next) begins = subst (Contains (first ∷ next)) begins (here first next)

still : (all others ahead rest left : List Line) (line : Line) (next : List Line) → RiseByName (line ∷ ahead) → IsTold all others (line ∷ ahead) rest left → Passes rest line next
    → ((other : Line) → Contains ahead other → Contains others other → Contains next other)
unfolding IsStrictlySortedBy
still all others ahead rest left line next rising told passes other has among =
    left_of line rest next passes other (λ before. not_both line other (in_all (λ x. named_cmp line x ≡ Less) ahead other rising.0 has) before)
    (told.wanted other (there line other ahead has) among)

next_within : (all others ahead rest left : List Line) (line : Line) (next : List Line) → IsTold all others (line ∷ ahead) rest left → Passes rest line next
    → ((other : Line) → Contains next other → Contains others other)
next_within all others ahead rest left line next told passes other has =
    told.within other (subst (λ (l : List Line). Contains l other) (sym passes.parts) (behind_front passes.passed next other has))

next_rising : (all others ahead rest left : List Line) (line : Line) (next : List Line) → IsTold all others (line ∷ ahead) rest left → Passes rest line next → RiseByName next
next_rising all others ahead rest left line next told passes = rising_behind passes.passed next (subst RiseByName passes.parts told.rising)

pub told_among : (all others ahead rest left : List Line) (line : Line) (next : List Line) → RiseByName (line ∷ ahead) → IsTold all others (line ∷ ahead) rest left → Passes rest line next
    → begins_with next line → IsTold all others ahead next left
unfolding IsStrictlySortedBy
told_among all others ahead rest left line next rising told passes begins =
    let has : Contains others line = next_within all others ahead rest left line next told passes line (begins_has line next begins) in
    record {
      so_far = λ tail those. told.so_far tail (inr (has, those));
      rising = next_rising all others ahead rest left line next told passes;
      wanted = still all others ahead rest left line next rising told passes;
      within = next_within all others ahead rest left line next told passes;
    }

pub told_apart : (all others ahead rest left : List Line) (line : Line) (next : List Line) → RiseByName (line ∷ ahead) → IsTold all others (line ∷ ahead) rest left → Passes rest line next
    → (begins_with next line → ⊥) → IsTold all others ahead next (left ++ line ∷ [])
unfolding IsStrictlySortedBy
told_apart all others ahead rest left line next rising told passes apart =
    let up : RiseByName next = next_rising all others ahead rest left line next told passes in
    let not_in : Contains others line → ⊥ =
    λ among. apart (first_is line next up passes.stops (left_of line rest next passes line (not_before_itself line) (told.wanted line (here line ahead) among))) in
    record {
      so_far = λ tail those. subst (AreMissing others all) (sym (append_assoc left (line ∷ []) tail)) (told.so_far (line ∷ tail) (inl (not_in, (tail, refl, those))));
      rising = up;
      wanted = still all others ahead rest left line next rising told passes;
      within = next_within all others ahead rest left line next told passes;
    }

-- ---- passing lines

pub record ArePassed (lines : List Line) (line : Line) (rest : List Line) : Type 0 where
  pub passed : List Line
  pub parts : lines ≡ passed ++ rest
  pub before : AllByRecursion (λ other. named_cmp other line ≡ Less) passed

all_more : (P : Line → Type 0) (front : List Line) (x : Line) → AllByRecursion P front → P x → AllByRecursion P (front ++ x ∷ [])
all_more P [] x all h = (h, tt)
all_more P (y ∷ front) x all h = (all.0, all_more P front x all.1 h)

pub pass_first : (lines : List Line) (line : Line) → ArePassed lines line lines
pass_first lines line = record { passed = []; parts = refl; before = tt }

pub pass_one : (lines : List Line) (line first : Line) (rest : List Line) → ArePassed lines line (first ∷ rest) → named_cmp first line ≡ Less → ArePassed lines line rest
pass_one lines line first rest passed less = record {
  passed = passed.passed ++ first ∷ [];
  parts = passed.parts ∙ sym (append_assoc passed.passed (first ∷ []) rest);
  before = all_more (λ other. named_cmp other line ≡ Less) passed.passed first passed.before less;
}

pub pass_next : (lines : List Line) (line : Line) (rest : List Line) → ArePassed lines line rest → BeginsBefore rest line → ArePassed lines line (drop 1 rest)
pass_next lines line [] passed begins = absurd begins
pass_next lines line (first ∷ rest) passed less = pass_one lines line first rest passed less

pub at_first : (lines : List Line) (line first : Line) → 1 ≤ length lines → first ≡ get_or lines 0 first → (named_cmp first line ≡ Less → ⊥) → BeginsAt lines line
at_first [] line first long is not_before = absurd (omega (arith, long))
at_first (x ∷ lines) line first long is not_before = λ less. not_before (subst (λ (l : Line). named_cmp l line ≡ Less) (sym is) less)

drop_at_one : (all : List Line) (i : ℕ) (line : Line) → i < length all → line ≡ get_or all i line → drop i all ≡ line ∷ drop (i + 1) all
drop_at_one all i line lt is =
    let next : suc i ≡ i + 1 = omega arith in
    let rest : drop (suc i) all ≡ drop (i + 1) all = ap (λ (n : ℕ). drop n all) next in
    drop-cons all i line lt ∙ ap (λ (x : Line). x ∷ drop (suc i) all) (sym is) ∙ ap (λ (l : List Line). line ∷ l) rest

-- One turn of going through.
pub told_step : (all others rest left more : List Line) (line : Line) (next : List Line) (i : ℕ) → i < length all → line ≡ get_or all i line
    → RiseByName (drop i all) → IsTold all others (drop i all) rest left → Passes rest line next
    → (begins_with next line × (more ≡ left)) ⊎ ((begins_with next line → ⊥) × (more ≡ left ++ line ∷ [])) → IsTold all others (drop (i + 1) all) next more
told_step all others rest left more line next i lt is rising told passes added =
    let here_is : drop i all ≡ line ∷ drop (i + 1) all = drop_at_one all i line lt is in
    by_case (drop (i + 1) all) (subst RiseByName here_is rising) (subst (λ (l : List Line). IsTold all others l rest left) here_is told) added
  where
    by_case : (ahead : List Line) → RiseByName (line ∷ ahead) → IsTold all others (line ∷ ahead) rest left
        → (begins_with next line × (more ≡ left)) ⊎ ((begins_with next line → ⊥) × (more ≡ left ++ line ∷ [])) → IsTold all others ahead next more
    by_case ahead up told (inl among) = subst (IsTold all others ahead next) (sym among.1) (told_among all others ahead rest left line next up told passes among.0)
    by_case ahead up told (inr apart) = subst (IsTold all others ahead next) (sym apart.1) (told_apart all others ahead rest left line next up told passes apart.0)

pub up_step : (all : List Line) (line : Line) (i : ℕ) → i < length all → line ≡ get_or all i line → RiseByName (drop i all) → RiseByName (drop (i + 1) all)
unfolding IsStrictlySortedBy
up_step all line i lt is rising = (subst RiseByName (drop_at_one all i line lt is) rising).1

pub told_end : (all others rest left : List Line) (i : ℕ) → length all ≤ i → IsTold all others (drop i all) rest left → AreMissing others all left
told_end all others rest left i end told = told_last all others rest left (subst (λ (l : List Line). IsTold all others l rest left) (drop_all i all end) told)
