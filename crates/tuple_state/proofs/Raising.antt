-- Counts that grow, and what is pending.
use Rattle.std.proofs.Common.{◌≡◌, ◌≢◌, ℕ, zero, suc, ◌+◌, ◌<◌, ◌≤◌, ◌==◌, Bool, true, false, cond, not, ◌&&◌, List, [], ◌∷◌, ◌++◌, length, get_or, set, take, refl, sym, ap, ◌∙◌, subst, Option, Some, nat_lt, get_or-set_other, get_or-set_same, length-append, arith, inl, inr}
use Rattle.std.specs.Prelude.{count_by, slice_get}
use Rattle.std.proofs.lemmas.Bool.{and_from, and_parts, both_ways, cases_Bool, eqb-true, eq-eqb, false_from_ne_true}
use Rattle.std.proofs.lemmas.Bool.Decides.{nat_tests}
use Rattle.std.proofs.lemmas.List.Sums.{sum_by-cons, sum_by-le-sum_by, sum_by-set, sum_by_more, sum_by_push}
use Rattle.std.proofs.Math.ListN.{length-set}
use Rattle.table_model.proofs.Founded.{all-append}
use Rattle.tuple_state.specs.declared.links.Link.{Link}
use Rattle.tuple_state.specs.Causes.{AreRising, Raised, absent_times, are_below, is_absent, one_at, standing, times_in, times_of}
use Rattle.tuple_state.specs.Links.{are_inside, is_of, numbers_from, numbers_of}
use Rattle.tuple_state.proofs.Linking.{numbers_cons}

-- ---- counts of lists

-- 1 where it is so
abbrev pub unit : Bool → ℕ
unit b = cond b 1 0

-- what passes a test passes one of two others
pub count_split : {X : Type 0} (f g h : X → Bool) (xs : List X) → ((x : X) → unit (f x) ≡ unit (g x) + unit (h x)) → count_by f xs ≡ count_by g xs + count_by h xs
count_split f g h [] each = refl
count_split f g h (x ∷ xs) each =
    let a = sum_by-cons (λ y. unit (f y)) x xs in
    let b = sum_by-cons (λ y. unit (g y)) x xs in
    let c = sum_by-cons (λ y. unit (h y)) x xs in
    let e = each x in
    let rest = count_split f g h xs each in
    omega (arith, a, b, c, e, rest)

pub count_same : {X : Type 0} (f g : X → Bool) (xs : List X) → ((x : X) → f x ≡ g x) → count_by f xs ≡ count_by g xs
count_same f g xs each = λ i. count_by (λ x. each x i) xs

pub count_fewer : {X : Type 0} (f g : X → Bool) (xs : List X) → ((x : X) → unit (f x) ≤ unit (g x)) → count_by f xs ≤ count_by g xs
count_fewer f g xs each = sum_by-le-sum_by (λ x. unit (f x)) (λ x. unit (g x)) xs each

and_fewer : (a b : Bool) → unit (a && b) ≤ unit b
and_fewer true b = omega arith
and_fewer false true = omega arith
and_fewer false false = omega arith

pub absent_fewer : (links : List Link) (causes : List ℕ) (k : ℕ) → absent_times links causes k ≤ times_in links k
absent_fewer links causes k =
    count_fewer (λ (link : Link). is_absent causes link.place && (link.number == k)) (λ (link : Link). link.number == k) links (λ link. and_fewer (is_absent causes link.place) (link.number == k))

pub times_fewer : (links : List Link) (place k : ℕ) → times_of links place k ≤ times_in links k
times_fewer links place k =
    count_fewer (λ (link : Link). is_of place link && (link.number == k)) (λ (link : Link). link.number == k) links (λ link. and_fewer (is_of place link) (link.number == k))

-- ---- one count more

other_number : (a b : ℕ) → a ≢ b → (a == b) ≡ false
other_number a b ne = false_from_ne_true (a == b) (λ e. ne (eqb-true a b e))

module _ (causes : List ℕ) (place : ℕ) (inside : place < length causes) where
  abbrev grown : List ℕ
  grown = set causes place (get_or causes place 0 + 1)

  pub grown_count : (k : ℕ) → get_or grown k 0 ≡ get_or causes k 0 + one_at place k
  grown_count k = elim (cases_Bool (place == k)) [
    | inl y ↦
        let same : place ≡ k = eqb-true place k y in
        let one : one_at place k ≡ 1 = ap (λ b. unit b) y in
        let here : get_or grown k 0 ≡ get_or causes place 0 + 1 = ap (λ n. get_or grown n 0) (sym same) ∙ (rw get_or-set_same refl) in
        here ∙ (λ i. get_or causes (same i) 0 + sym one i)
    | inr n ↦
        let ne : k ≢ place = λ e. both_ways _ n (eq-eqb place k (sym e)) in
        let none : one_at place k ≡ 0 = ap (λ b. unit b) n in
        let there : get_or grown k 0 ≡ get_or causes k 0 = (rw get_or-set_other refl) in
        omega (arith, there, none)
  ]

  not_zero : (n : ℕ) → not (n + 1 == 0) ≡ true
  not_zero n = ap not (other_number (n + 1) 0 (λ e. absurd (omega (arith, e))))

  -- a place is absent where it was, or where it is this one
  pub absent_grown : (p : ℕ) → (get_or causes place 0 ≡ 0) → unit (is_absent grown p) ≡ unit (is_absent causes p) + unit (p == place)
  absent_grown p z = elim (cases_Bool (p == place)) [
    | inl y ↦
        let same : p ≡ place = eqb-true p place y in
        let here : get_or grown p 0 ≡ get_or causes place 0 + 1 = ap (λ n. get_or grown n 0) same ∙ (rw get_or-set_same refl) in
        let now : is_absent grown p ≡ true = ap (λ n. not (n == 0)) here ∙ not_zero (get_or causes place 0) in
        let before : is_absent causes p ≡ false = ap (λ n. not (get_or causes n 0 == 0)) same ∙ ap (λ n. not (n == 0)) z in
        (λ i. unit (now i)) ∙ (λ i. unit (sym before i) + unit (sym y i))
    | inr n ↦
        let ne : p ≢ place = λ e. both_ways _ n (eq-eqb p place e) in
        let there : get_or grown p 0 ≡ get_or causes p 0 = (rw get_or-set_other refl) in
        let none : unit (p == place) ≡ 0 = ap (λ b. unit b) n in
        let same : unit (is_absent grown p) ≡ unit (is_absent causes p) = ap (λ n. unit (not (n == 0))) there in
        omega (arith, none, same)
  ]

  pub absent_same : (p : ℕ) → (get_or causes place 0 ≢ 0) → is_absent grown p ≡ is_absent causes p
  absent_same p nz = elim (cases_Bool (p == place)) [
    | inl y ↦
        let same : p ≡ place = eqb-true p place y in
        let here : get_or grown p 0 ≡ get_or causes place 0 + 1 = ap (λ n. get_or grown n 0) same ∙ (rw get_or-set_same refl) in
        let now : is_absent grown p ≡ true = ap (λ n. not (n == 0)) here ∙ not_zero (get_or causes place 0) in
        let before : is_absent causes p ≡ true = ap (λ n. not (get_or causes n 0 == 0)) same ∙ ap not (other_number (get_or causes place 0) 0 nz) in
        now ∙ sym before
    | inr n ↦
        let ne : p ≢ place = λ e. both_ways _ n (eq-eqb p place e) in
        ap (λ m. not (m == 0)) (let there : get_or grown p 0 ≡ get_or causes p 0 = (rw get_or-set_other refl) in there)
  ]

  both_and : (a b c d : Bool) → unit a ≡ unit b + unit c → unit (a && d) ≡ unit (b && d) + unit (c && d)
  both_and a b c true h = ap (λ x. unit x) (and_one a) ∙ h ∙ (λ i. unit (sym (and_one b) i) + unit (sym (and_one c) i))
    where
      and_one : (x : Bool) → (x && true) ≡ x
      and_one true = refl
      and_one false = refl
  both_and a b c false h = ap (λ x. unit x) (and_none a) ∙ (λ i. unit (sym (and_none b) i) + unit (sym (and_none c) i))
    where
      and_none : (x : Bool) → (x && false) ≡ false
      and_none true = refl
      and_none false = refl

  pub times_grown : (links : List Link) (k : ℕ) → (get_or causes place 0 ≡ 0) → absent_times links grown k ≡ absent_times links causes k + times_of links place k
  times_grown links k z =
      count_split (λ (link : Link). is_absent grown link.place && (link.number == k)) (λ (link : Link). is_absent causes link.place && (link.number == k)) (λ (link : Link). is_of place link && (link.number == k)) links
      (λ link. both_and (is_absent grown link.place) (is_absent causes link.place) (is_of place link) (link.number == k) (absent_grown link.place z))

  pub times_same : (links : List Link) (k : ℕ) → (get_or causes place 0 ≢ 0) → absent_times links grown k ≡ absent_times links causes k
  times_same links k nz = count_same (λ (link : Link). is_absent grown link.place && (link.number == k)) (λ (link : Link). is_absent causes link.place && (link.number == k)) links (λ link. ap (λ b. b && (link.number == k)) (absent_same link.place nz))

  standing_set : standing grown + unit (get_or causes place 0 == 0) ≡ standing causes
  standing_set =
      let s = sum_by-set (λ n. unit (n == 0)) causes place (get_or causes place 0 + 1) 0 inside in
      let none : unit (get_or causes place 0 + 1 == 0) ≡ 0 = ap (λ b. unit b) (other_number (get_or causes place 0 + 1) 0 (λ e. absurd (omega (arith, e)))) in
      omega (arith, s, none)

  -- a count that leaves 0 leaves one fewer at 0
  pub one_standing : get_or causes place 0 ≡ 0 → standing grown + 1 ≡ standing causes
  one_standing z = let s = standing_set in let one : unit (get_or causes place 0 == 0) ≡ 1 = ap (λ n. unit (n == 0)) z in omega (arith, s, one)

  same_standing : get_or causes place 0 ≢ 0 → standing grown ≡ standing causes
  same_standing nz = let s = standing_set in let none : unit (get_or causes place 0 == 0) ≡ 0 = ap (λ b. unit b) (other_number _ _ nz) in omega (arith, s, none)

  pub raised_first : (pending : List ℕ) → get_or causes place 0 ≡ 0 → (links : List Link) → Raised links (one_at place) causes pending grown (pending ++ place ∷ [])
  raised_first pending z links = record {
    count = grown_count;
    owes = λ k.
        let a = times_grown links k z in
        let b = sum_by_push (λ p. times_of links p k) pending place in
        omega (arith, a, b);
    each = length-set causes place _;
    work = let s = one_standing z in let l = length-append pending (place ∷ []) in omega (arith, s, l);
    inside = λ all. all-append (λ p. nat_lt p (length causes)) pending (place ∷ []) all (and_from _ _ (grind (arith, nat_tests)) refl);
  }

  pub raised_again : (pending : List ℕ) → get_or causes place 0 ≢ 0 → (links : List Link) → Raised links (one_at place) causes pending grown pending
  raised_again pending nz links = record {
    count = grown_count;
    owes = λ k. let a = times_same links k nz in omega (arith, a);
    each = length-set causes place _;
    work = let s = same_standing nz in omega (arith, s);
    inside = λ all. all;
  }

-- ---- one after another

pub raised_none : (links : List Link) (causes pending : List ℕ) (more : ℕ → ℕ) → ((k : ℕ) → more k ≡ 0) → Raised links more causes pending causes pending
raised_none links causes pending more none = record {
  count = λ k. let n = none k in omega (arith, n);
  owes = λ k. refl;
  each = refl;
  work = refl;
  inside = λ all. all;
}

pub raised_then : (links : List Link) (first second more : ℕ → ℕ) (a p b q c r : List ℕ) → Raised links first a p b q → Raised links second b q c r → ((k : ℕ) → more k ≡ first k + second k) → Raised links more a p c r
raised_then links first second more a p b q c r x y sums = record {
  count = λ k. let i = x.count k in let j = y.count k in let s = sums k in omega (arith, i, j, s);
  owes = λ k. let i = x.owes k in let j = y.owes k in omega (arith, i, j);
  each = y.each ∙ x.each;
  work = let i = x.work in let j = y.work in omega (arith, i, j);
  inside = λ all.
      let now = x.inside all in
      subst (λ n. are_below n r ≡ true) x.each (y.inside (subst (λ n. are_below n q ≡ true) (sym x.each) now));
}

-- ---- the numbers of a place

pub numbers_counted : (place k : ℕ) (links : List Link) → count_by (λ n. n == k) (numbers_of links place) ≡ times_of links place k
numbers_counted place k [] = refl
numbers_counted place k (x ∷ links) =
    let rest = numbers_counted place k links in
    let step : (b : Bool) → count_by (λ n. n == k) (cond b (x.number ∷ numbers_of links place) (numbers_of links place)) ≡ unit (b && (x.number == k)) + times_of links place k =
    elim [
      | true ↦ sum_by-cons (λ n. cond (n == k) 1 0) x.number (numbers_of links place) ∙ ap (λ n. unit (x.number == k) + n) rest
      | false ↦ omega (arith, rest)
    ] in
    ap (count_by (λ n. n == k)) (numbers_cons place x links) ∙ step (is_of place x) ∙ sym (sum_by-cons (λ (l : Link). cond (is_of place l && (l.number == k)) 1 0) x links)

pub left_more : (links : List Link) (k index number : ℕ) (o next : Option ℕ) → o ≡ Some index → numbers_from links (Some index) ≡ numbers_from links next ++ number ∷ []
    → count_by (λ n. n == k) (numbers_from links o) ≡ count_by (λ n. n == k) (numbers_from links next) + one_at number k
left_more links k index number o next is more =
    ap (λ (p : Option ℕ). count_by (λ n. n == k) (numbers_from links p)) is ∙ ap (count_by (λ n. n == k)) more ∙ sum_by_push (λ n. cond (n == k) 1 0) (numbers_from links next) number

pub one_here : (place : ℕ) → one_at place place ≡ 1
one_here place = ap unit (eq-eqb place place refl)

-- ---- links that rise

pub rising_at : (low high : ℕ) (links : List Link) (k : ℕ) (d : Link) → AreRising low high links → k < length links → ((get_or links k d).number < high) × ((get_or links k d).place < (get_or links k d).number) × (low ≤ (get_or links k d).number)
unfolding AreRising
rising_at low high [] k d rise below = absurd (omega (arith, below))
rising_at low high (x ∷ links) zero d rise below = (rise.1, rise.2, rise.0)
rising_at low high (x ∷ links) (suc k) d rise below =
    let rest = rising_at x.number high links k d rise.3 (omega (arith, below)) in
    let a = rise.0 in
    let b = rest.2 in
    (rest.0, rest.1, omega (arith, a, b))

pub rising_there : (low high : ℕ) (links : List Link) (k : ℕ) (link : Link) → AreRising low high links → slice_get links k ≡ Some link → link.number < high
unfolding AreRising
rising_there low high [] k link rise at = absurd (cc)
rising_there low high (x ∷ links) zero link rise at = let same : x ≡ link = cc in subst (λ (l : Link). l.number < high) same rise.1
rising_there low high (x ∷ links) (suc k) link rise at = rising_there x.number high links k link rise.3 at

-- the places so far are below the next number
pub rising_take : (low high : ℕ) (links : List Link) (k : ℕ) (d : Link) → AreRising low high links → k < length links → are_inside (get_or links k d).number (take k links) ≡ true
unfolding AreRising
rising_take low high [] k d rise below = absurd (omega (arith, below))
rising_take low high (x ∷ links) zero d rise below = refl
rising_take low high (x ∷ links) (suc k) d rise below =
    let next = (rising_at x.number high links k d rise.3 (omega (arith, below))).2 in
    let own = rise.2 in
    let lt : x.place < (get_or links k d).number = omega (arith, next, own) in
    and_from _ _ (grind (arith, nat_tests)) (rising_take x.number high links k d rise.3 (omega (arith, below)))

-- which places are absent goes by their counts
pub absent_by_counts : (first k : ℕ) (a b : List ℕ) (links : List Link) → are_inside first links ≡ true → ((p : ℕ) → p < first → get_or a p 0 ≡ get_or b p 0) → absent_times links a k ≡ absent_times links b k
absent_by_counts first k a b [] inside same = refl
absent_by_counts first k a b (link ∷ links) inside same =
    let parts = and_parts (nat_lt link.place first) _ inside in
    let below : link.place < first = (let lt = parts.0 in grind (arith, nat_tests)) in
    sum_by-cons (λ (l : Link). cond (is_absent a l.place && (l.number == k)) 1 0) link links
    ∙ (λ i. unit (not (same link.place below i == 0) && (link.number == k)) + absent_by_counts first k a b links parts.1 same i)
    ∙ sym (sum_by-cons (λ (l : Link). cond (is_absent b l.place && (l.number == k)) 1 0) link links)

module _ (low high : ℕ) (links : List Link) (causes : List ℕ) (i : ℕ) (d : Link) (rise : AreRising low high links) (below : i < length links) where
  abbrev it : Link
  it = get_or links i d

  -- one number counted
  pub number_counted : get_or causes it.place 0 ≢ 0 → it.number < length causes → (k : ℕ)
      → absent_times (take (i + 1) links) (set causes it.number (get_or causes it.number 0 + 1)) k ≡ absent_times (take i links) causes k + one_at it.number k
  number_counted gone inside k =
      let g = grown_count causes it.number inside in
      let at = rising_at low high links i d rise below in
      let same : (p : ℕ) → p < it.number → get_or (set causes it.number (get_or causes it.number 0 + 1)) p 0 ≡ get_or causes p 0 = λ p lt.
      let a = g p in let none : one_at it.number p ≡ 0 = ap unit (other_number it.number p (λ e. absurd (omega (arith, e, lt)))) in omega (arith, a, none) in
      let absent : is_absent (set causes it.number (get_or causes it.number 0 + 1)) it.place ≡ true = ap (λ n. not (n == 0)) (same it.place at.1) ∙ ap not (other_number _ 0 gone) in
      sum_by_more (λ (l : Link). cond (is_absent (set causes it.number (get_or causes it.number 0 + 1)) l.place && (l.number == k)) 1 0) links i d below
      ∙ (λ j. absent_by_counts it.number k (set causes it.number (get_or causes it.number 0 + 1)) causes (take i links) (rising_take low high links i d rise below) same j + unit (absent j && (it.number == k)))

  pub number_passed : get_or causes it.place 0 ≡ 0 → (k : ℕ) → absent_times (take (i + 1) links) causes k ≡ absent_times (take i links) causes k
  number_passed here k =
      let absent : is_absent causes it.place ≡ false = ap (λ n. not (n == 0)) here in
      let m = sum_by_more (λ (l : Link). cond (is_absent causes l.place && (l.number == k)) 1 0) links i d below in
      let none : unit (is_absent causes it.place && (it.number == k)) ≡ 0 = ap (λ b. unit (b && (it.number == k))) absent in
      omega (arith, m, none)
