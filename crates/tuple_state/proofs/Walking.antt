-- The rows to which CASCADE references lead.
use Rattle.std.proofs.Common.{◌≡◌, ℕ, zero, suc, ◌+◌, ◌<◌, ◌≤◌, Bool, true, false, ◌&&◌, ◌||◌, List, [], ◌∷◌, length, get_or, take, nat_lt, Option, Some, None, refl, sym, ap, ◌∙◌, arith}
use Rattle.std.specs.Prelude.{All, IfSome, slice_get}
use Rattle.std.specs.declared.cmp.Ordering.{Ordering}
use Rattle.std.specs.declared.cmp.Ordering.TheVariants.{Less, Equal, Greater}
use Rattle.std.specs.Ordering.{is_lt, nat_cmp, match_ordering}
use Rattle.std.specs.BTreeSet.{insert_key}
use Rattle.std.specs.List.{list_all, AllByRecursion}
use Rattle.std.proofs.lemmas.Bool.{and_from, and_parts, both_ways, false_from_ne_true, or_right}
use Rattle.std.proofs.lemmas.Bool.Decides.{nat_tests}
use Rattle.std.proofs.lemmas.List.{take_more}
use Rattle.std.proofs.lemmas.List.Elements.{recursion_from_All}
use Rattle.std.proofs.lemmas.List.Folds.{list_all-append}
use Rattle.tuple_state.specs.declared.links.Link.{Link}

pub and_turned : (a b : Bool) → (a && b) ≡ (b && a)
and_turned true true = refl
and_turned true false = refl
and_turned false true = refl
and_turned false false = refl

pub and_moved : (a b c : Bool) → ((a && b) && c) ≡ (a && (b && c))
and_moved true b c = refl
and_moved false b c = refl

and_twice : (a b : Bool) → (a && b) ≡ ((a && b) && a)
and_twice true true = refl
and_twice true false = refl
and_twice false b = refl

equal_from : (a b : ℕ) → nat_cmp a b ≡ Equal → a ≡ b
equal_from a b h = grind arith

-- a test of keys with one more among them
pub all_inserted : (test : ℕ → Bool) (keys : List ℕ) (k : ℕ) → list_all test (insert_key nat_cmp keys k) ≡ (list_all test keys && test k)
all_inserted test [] k = and_turned (test k) true
all_inserted test (x ∷ keys) k =
    let rest = all_inserted test keys k in
    let step : (o : Ordering) → nat_cmp k x ≡ o → list_all test (match_ordering o (k ∷ x ∷ keys) (x ∷ keys) (x ∷ insert_key nat_cmp keys k)) ≡ ((test x && list_all test keys) && test k) =
    elim [
      | Less ↦ λ e. and_turned (test k) (test x && list_all test keys)
      | Equal ↦ λ e. and_twice (test x) (list_all test keys) ∙ ap (λ n. (test x && list_all test keys) && test n) (sym (equal_from k x e))
      | Greater ↦ λ e. ap (λ b. test x && b) rest ∙ sym (and_moved (test x) (list_all test keys) (test k))
    ] in
    step (nat_cmp k x) refl

-- keys that an order puts below one are below it
below_tests : (keys : List ℕ) (k : ℕ) → AllByRecursion (λ q. nat_cmp q k ≡ Less) keys → list_all (λ q. nat_lt q k) keys ≡ true
below_tests [] k h = refl
below_tests (q ∷ keys) k h = and_from _ _ (let e = h.0 in grind (arith, nat_tests)) (below_tests keys k h.1)

all_below : (keys : List ℕ) (k : ℕ) → All (λ q. nat_cmp q k ≡ Less) keys → list_all (λ q. nat_lt q k) keys ≡ true
all_below keys k h = below_tests keys k (recursion_from_All _ keys h)

all_got : (test : ℕ → Bool) (keys : List ℕ) (i k : ℕ) → slice_get keys i ≡ Some k → list_all test keys ≡ true → test k ≡ true
all_got test [] i k at h = absurd (cc)
all_got test (x ∷ keys) zero k at h = let same : x ≡ k = cc in ap test (sym same) ∙ (and_parts (test x) (list_all test keys) h).0
all_got test (x ∷ keys) (suc i) k at h = all_got test keys i k at (and_parts (test x) (list_all test keys) h).1

up_to : (keys : List ℕ) (last place : ℕ) → AllByRecursion (λ q. is_lt (nat_cmp last q) ≡ false) keys → nat_lt last place ≡ true → list_all (λ k. nat_lt k place) keys ≡ true
up_to [] last place h low = refl
up_to (x ∷ keys) last place h low = and_from _ _ (let e = h.0 in grind (arith, nat_tests)) (up_to keys last place h.1 low)

-- the last of some keys tells whether another comes after all of them
pub last_tells : (keys : List ℕ) (last place i : ℕ) → slice_get keys i ≡ Some last → All (λ q. is_lt (nat_cmp last q) ≡ false) keys → nat_lt last place ≡ list_all (λ k. nat_lt k place) keys
last_tells keys last place i at h =
    let step : (b : Bool) → nat_lt last place ≡ b → b ≡ list_all (λ k. nat_lt k place) keys =
    elim [
      | true ↦ λ e. sym (up_to keys last place (recursion_from_All _ keys h) e)
      | false ↦ λ e. sym (false_from_ne_true _ (λ all. both_ways _ e (all_got (λ k. nat_lt k place) keys i last at all)))
    ] in
    step (nat_lt last place) refl

-- ---- the rows that are still to be looked at

-- what is taken out last is above the others
pub below_taken : (o : Option ℕ) (keys : List ℕ) → IfSome o (λ k. All (λ q. nat_cmp q k ≡ Less) keys) → IfSome o (λ k. list_all (λ q. nat_lt q k) keys ≡ true)
below_taken None keys h = tt
below_taken (Some k) keys h = all_below keys k h

-- a test of one link
pub only_link : (f : Link → Bool) (links : List Link) (d : Link) → 1 ≤ length links → length links < 2 → f (get_or links 0 d) ≡ list_all f links
only_link f [] d some few = absurd (omega (arith, some))
only_link f (x ∷ []) d some few = sym (and_turned (f x) true)
only_link f (x ∷ y ∷ links) d some few = absurd (omega (arith, few))

-- one more link
pub link_added : (test : ℕ → Bool) (links : List Link) (n : ℕ) (d : Link) (old now next : Bool) → n < length links → now ≡ (old && list_all (λ (l : Link). test l.place) (take n links))
    → next ≡ (now && test (get_or links n d).place) → next ≡ (old && list_all (λ (l : Link). test l.place) (take (n + 1) links))
link_added test links n d old now next below so added =
    let f : Link → Bool = λ l. test l.place in
    added ∙ ap (λ b. b && f (get_or links n d)) so ∙ and_moved old (list_all f (take n links)) (f (get_or links n d))
    ∙ ap (λ b. old && (list_all f (take n links) && b)) (sym (and_turned (f (get_or links n d)) true) ∙ refl)
    ∙ ap (λ b. old && b) (sym (ap (list_all f) (take_more links n d below) ∙ list_all-append f (take n links) (get_or links n d ∷ [])))

module _ (t : ℕ → Bool) (keys : List ℕ) (place : ℕ) (start v : Bool) (so : start ≡ list_all t (place ∷ keys)) (here : t place ≡ v) where
  pub stop : v ≡ false → false ≡ start
  stop hidden = sym (so ∙ ap (λ b. b && list_all t keys) (here ∙ hidden))

  pub go_on : (w next : Bool) → v ≡ w → next ≡ (list_all t keys && w) → start ≡ next
  go_on w next same added = so ∙ ap (λ b. b && list_all t keys) (here ∙ same) ∙ and_turned w (list_all t keys) ∙ sym added

-- a test of all that was pending, and of what comes, is one of all that is pending then
pub still : (before added after seen : Bool) → before ≡ true → added ≡ true → after ≡ (before && (seen || added)) → after ≡ true
still before added after seen b a is = is ∙ and_from before (seen || added) b (or_right seen added a)
