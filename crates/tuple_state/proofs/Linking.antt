-- The links of a place, from the last one on back.
use Rattle.std.proofs.Common.{◌≡◌, ◌≢◌, ℕ, zero, suc, ◌+◌, ◌<◌, ◌≤◌, ◌==◌, ◌⊎◌, ◌||◌, Bool, true, false, cond, List, [], ◌∷◌, ◌++◌, length, map, get_or, set, take, replicate, refl, sym, ap, ◌∙◌, subst, Option, Some, None, nat_lt, get_or-set_other, get_or-set_same, arith, inl, inr}
use Rattle.std.specs.Prelude.{slice_get, filter}
use Rattle.std.specs.List.{list_any}
use Rattle.std.proofs.lemmas.Bool.{and_parts, both_ways, cases_Bool, eqb-true, eq-eqb, false_from_ne_true, or_right}
use Rattle.std.proofs.lemmas.Bool.Decides.{nat_tests}
use Rattle.std.proofs.lemmas.List.{take_all, take_more, length-take-le}
use Rattle.std.proofs.Math.ListN.{length-set}
use Rattle.std.proofs.lemmas.List.Folds.{list_any-append}
use Rattle.table_model.proofs.Founded.{all_weaker, all-append}
use Rattle.tuple_state.specs.declared.links.Link.{Link}
use Rattle.tuple_state.specs.Links.{IsBelow, IsLinked, are_inside, further_or, is_of, latest, numbers_at, numbers_from, numbers_of}
use Rattle.tuple_state.proofs.Marking.{slice_get_below}
use Rattle.tuple_state.proofs.Lookups.{get_or_from}

abbrev first_or : Bool → Option ℕ
first_or b = cond b (Some 0) None

-- one more link
pub latest_push : (place : ℕ) (links : List Link) (link : Link) → latest place (links ++ link ∷ []) ≡ cond (is_of place link) (Some (length links)) (latest place links)
unfolding latest
latest_push place [] link = refl
latest_push place (x ∷ links) link =
    let rest = latest_push place links link in
    let step : (b : Bool) → further_or (cond b (Some (length links)) (latest place links)) (first_or (is_of place x)) ≡ cond b (Some (suc (length links))) (further_or (latest place links) (first_or (is_of place x))) =
    elim [ true ↦ refl | false ↦ refl ] in
    ap (λ o. further_or o (first_or (is_of place x))) rest ∙ step (is_of place link)

-- what the last link of a place is
pub record IsLatest (place : ℕ) (links : List Link) (index : ℕ) : Type 0 where
  pub below : index < length links
  pub link : Link
  pub at : slice_get links index ≡ Some link
  pub of : link.place ≡ place
  pub numbers : numbers_of links place ≡ numbers_of (take index links) place ++ link.number ∷ []

pub numbers_cons : (place : ℕ) (x : Link) (links : List Link) → numbers_of (x ∷ links) place ≡ cond (is_of place x) (x.number ∷ numbers_of links place) (numbers_of links place)
numbers_cons place x links =
    let step : (b : Bool) → map (λ (l : Link). l.number) (cond b (x ∷ filter (is_of place) links) (filter (is_of place) links)) ≡ cond b (x.number ∷ numbers_of links place) (numbers_of links place) =
    elim [ true ↦ refl | false ↦ refl ] in
    step (is_of place x)

none_of : (o p : Option ℕ) → further_or o p ≡ None → (o ≡ None) × (p ≡ None)
none_of None p h = (refl, h)
none_of (Some k) p h = absurd (cc)

pub no_numbers : (place : ℕ) (links : List Link) → latest place links ≡ None → numbers_of links place ≡ []
unfolding latest
no_numbers place [] h = refl
no_numbers place (x ∷ links) h =
    let parts = none_of (latest place links) (first_or (is_of place x)) h in
    let rest = no_numbers place links parts.0 in
    let step : (b : Bool) → first_or b ≡ None → cond b (x.number ∷ numbers_of links place) (numbers_of links place) ≡ [] =
    elim [ true ↦ λ e. absurd (cc) | false ↦ λ e. rest ] in
    numbers_cons place x links ∙ step (is_of place x) parts.1

pub some_latest : (place : ℕ) (links : List Link) (index : ℕ) → latest place links ≡ Some index → IsLatest place links index
unfolding latest
some_latest place [] index h = absurd (cc)
some_latest place (x ∷ links) index h =
    let b = is_of place x in
    let later : (k : ℕ) → latest place links ≡ Some k → further_or (Some k) (first_or b) ≡ Some index → IsLatest place (x ∷ links) index =
    λ k e g.
    let same : suc k ≡ index = cc in
    let rest = some_latest place links k e in
    subst (λ (n : ℕ). IsLatest place (x ∷ links) n) same (record {
      below = omega (arith, rest.below);
      link = rest.link;
      at = rest.at;
      of = rest.of;
      numbers =
          numbers_cons place x links
          ∙ (let step : (d : Bool) → cond d (x.number ∷ numbers_of links place) (numbers_of links place) ≡ cond d (x.number ∷ numbers_of (take k links) place) (numbers_of (take k links) place) ++ rest.link.number ∷ [] =
          elim [ true ↦ ap (λ l. x.number ∷ l) rest.numbers | false ↦ rest.numbers ] in
          step b)
          ∙ ap (λ l. l ++ rest.link.number ∷ []) (sym (numbers_cons place x (take k links)));
    }) in
    let here : latest place links ≡ None → (d : Bool) → is_of place x ≡ d → first_or d ≡ Some index → IsLatest place (x ∷ links) index =
    λ none. elim [
      | true ↦ λ e g.
          let same : 0 ≡ index = cc in
          subst (λ (n : ℕ). IsLatest place (x ∷ links) n) same (record {
            below = omega arith;
            link = x;
            at = refl;
            of = eqb-true x.place place e;
            numbers = numbers_cons place x links ∙ ap (λ d. cond d (x.number ∷ numbers_of links place) (numbers_of links place)) e ∙ ap (λ l. x.number ∷ l) (no_numbers place links none);
          })
      | false ↦ λ e g. absurd (cc)
    ] in
    let step : (o : Option ℕ) → latest place links ≡ o → further_or o (first_or b) ≡ Some index → IsLatest place (x ∷ links) index =
    elim [ None ↦ λ e g. here e b refl g | Some k ↦ λ e g. later k e g ] in
    step (latest place links) refl h

-- ---- reading

take_take : (links : List Link) (k n : ℕ) → k ≤ n → take k (take n links) ≡ take k links
take_take links zero n h = refl
take_take [] (suc k) zero h = refl
take_take [] (suc k) (suc n) h = refl
take_take (x ∷ links) (suc k) zero h = absurd (omega (arith, h))
take_take (x ∷ links) (suc k) (suc n) h = ap (λ l. x ∷ l) (take_take links k n (omega (arith, h)))

get_take : (links : List Link) (k n : ℕ) (x : Link) → slice_get (take n links) k ≡ Some x → slice_get links k ≡ Some x
get_take links k zero x h = absurd (cc)
get_take [] k (suc n) x h = absurd (cc)
get_take (y ∷ links) zero (suc n) x h = h
get_take (y ∷ links) (suc k) (suc n) x h = get_take links k n x h

numbers_one : (links : List Link) (k : ℕ) (link : Link) (place : ℕ) → slice_get links k ≡ Some link → link.place ≡ place → numbers_of (take (suc k) links) place ≡ numbers_of (take k links) place ++ link.number ∷ []
numbers_one [] k link place at of = absurd (cc)
numbers_one (x ∷ links) zero link place at of =
    let same : x ≡ link = cc in
    numbers_cons place x [] ∙ ap (λ b. cond b (x.number ∷ []) []) (ap (λ (l : Link). is_of place l) same ∙ eq-eqb link.place place of) ∙ ap (λ (l : Link). l.number ∷ []) same
numbers_one (x ∷ links) (suc k) link place at of =
    let rest = numbers_one links k link place at of in
    let step : (d : Bool) → cond d (x.number ∷ numbers_of (take (suc k) links) place) (numbers_of (take (suc k) links) place) ≡ cond d (x.number ∷ numbers_of (take k links) place) (numbers_of (take k links) place) ++ link.number ∷ [] =
    elim [ true ↦ ap (λ l. x.number ∷ l) rest | false ↦ rest ] in
    numbers_cons place x (take (suc k) links) ∙ step (is_of place x) ∙ ap (λ l. l ++ link.number ∷ []) (sym (numbers_cons place x (take k links)))

length_take_lt : (links : List Link) (n k : ℕ) → k < length (take n links) → k < n
length_take_lt links zero k h = absurd (omega (arith, h))
length_take_lt [] (suc n) k h = absurd (omega (arith, h))
length_take_lt (x ∷ links) (suc n) zero h = omega arith
length_take_lt (x ∷ links) (suc n) (suc k) h = let rest = length_take_lt links n k (omega (arith, h)) in omega (arith, rest)

length_take_below : (links : List Link) (n k : ℕ) → k < length (take n links) → k ≤ n
length_take_below links n k h = let lt = length_take_lt links n k h in omega (arith, lt)

-- the numbers from a place's last link among the first ones are its numbers among them
pub from_latest : (links : List Link) (n place : ℕ) (o : Option ℕ) → o ≡ latest place (take n links) → numbers_from links o ≡ numbers_of (take n links) place
from_latest links n place None e = sym (no_numbers place (take n links) (sym e))
from_latest links n place (Some k) e =
    let it = some_latest place (take n links) k (sym e) in
    let at = get_take links k n it.link it.at in
    let below : k ≤ n = length_take_below links n k it.below in
    ap (λ o. numbers_at links o k) at
    ∙ numbers_one links k it.link it.link.place at refl
    ∙ (λ i. numbers_of (take k links) (it.of i) ++ it.link.number ∷ [])
    ∙ ap (λ l. numbers_of l place ++ it.link.number ∷ []) (sym (take_take links k n below))
    ∙ sym it.numbers

pub below_latest : (links : List Link) (n place : ℕ) (o : Option ℕ) → o ≡ latest place (take n links) → IsBelow o n
below_latest links n place None e = tt
below_latest links n place (Some k) e = let it = some_latest place (take n links) k (sym e) in length_take_lt links n k it.below

-- the numbers from a link are those from the one before it, and its own
pub older_numbers : (links : List Link) (k : ℕ) (link : Link) (o : Option ℕ) → slice_get links k ≡ Some link → o ≡ latest link.place (take k links)
    → numbers_from links (Some k) ≡ numbers_from links o ++ link.number ∷ []
older_numbers links k link o at e =
    ap (λ p. numbers_at links p k) at ∙ numbers_one links k link link.place at refl ∙ ap (λ l. l ++ link.number ∷ []) (sym (from_latest links k link.place o e))

-- how many links are left at most
abbrev pub size_of : Option ℕ → ℕ
size_of None = 0
size_of (Some index) = suc index

pub default_free : {X : Type 0} (xs : List X) (k : ℕ) (d e : X) → k < length xs → get_or xs k d ≡ get_or xs k e
default_free [] k d e h = absurd (omega (arith, h))
default_free (x ∷ xs) zero d e h = refl
default_free (x ∷ xs) (suc k) d e h = default_free xs k d e (omega (arith, h))

pub link_there : (links : List Link) (k : ℕ) → k < length links → (link : Link) × (slice_get links k ≡ Some link)
link_there [] k below = absurd (omega (arith, below))
link_there (x ∷ links) zero below = (x, refl)
link_there (x ∷ links) (suc k) below = link_there links k (omega (arith, below))

module _ (newest older : List (Option ℕ)) (links : List Link) (linked : IsLinked newest older links) where
  last_is : (place : ℕ) (o : Option ℕ) → place < length newest → o ≡ get_or newest place o → o ≡ latest place (take (length links) links)
  last_is place o below is =
      is ∙ default_free newest place o None below ∙ linked.last place below ∙ ap (latest place) (sym (take_all (length links) links (omega arith)))

  pub last_numbers : (place : ℕ) (o : Option ℕ) → place < length newest → o ≡ get_or newest place o → numbers_from links o ≡ numbers_of links place
  last_numbers place o below is =
      from_latest links (length links) place o (last_is place o below is) ∙ ap (λ l. numbers_of l place) (take_all (length links) links (omega arith))

  pub last_below : (place : ℕ) (o : Option ℕ) → place < length newest → o ≡ get_or newest place o → IsBelow o (length links)
  last_below place o below is = below_latest links (length links) place o (last_is place o below is)

  before_is : (k : ℕ) (link : Link) (o : Option ℕ) → slice_get links k ≡ Some link → o ≡ get_or older k o → o ≡ latest link.place (take k links)
  before_is k link o at is = let below = slice_get_below links k link at in is ∙ default_free older k o None (omega (arith, below, linked.each)) ∙ linked.before k link at

  pub before_numbers : (k : ℕ) (link : Link) (o : Option ℕ) → slice_get links k ≡ Some link → o ≡ get_or older k o → numbers_from links (Some k) ≡ numbers_from links o ++ link.number ∷ []
  before_numbers k link o at is = older_numbers links k link o at (before_is k link o at is)

  pub before_below : (k : ℕ) (o : Option ℕ) → k < length links → o ≡ get_or older k o → IsBelow o k
  before_below k o below is = let it = link_there links k below in below_latest links k it.0.place o (before_is k it.0 o it.1 is)

-- ---- finding the last links

-- the last links are known of the links before one
pub record Threaded (newest older : List (Option ℕ)) (links : List Link) (index : ℕ) : Type 0 where
  pub last : (place : ℕ) → place < length newest → get_or newest place None ≡ latest place (take index links)
  pub before : (k : ℕ) (link : Link) → k < index → slice_get links k ≡ Some link → get_or older k None ≡ latest link.place (take k links)

place_inside : (size : ℕ) (links : List Link) (k : ℕ) (link : Link) → are_inside size links ≡ true → slice_get links k ≡ Some link → link.place < size
place_inside size [] k link inside at = absurd (cc)
place_inside size (x ∷ links) zero link inside at =
    let parts = and_parts (nat_lt x.place size) _ inside in
    let here : x.place < size = (let e = parts.0 in grind (arith, nat_tests)) in
    let same : x ≡ link = cc in
    subst (λ (l : Link). l.place < size) same here
place_inside size (x ∷ links) (suc k) link inside at = place_inside size links k link (and_parts (nat_lt x.place size) _ inside).1 at

take_pushed : (links : List Link) (k : ℕ) (link : Link) → slice_get links k ≡ Some link → take (k + 1) links ≡ take k links ++ link ∷ []
take_pushed links k link at = let below = slice_get_below links k link at in take_more links k link below ∙ ap (λ (l : Link). take k links ++ l ∷ []) (get_or_from links k link link at)

pub thread_step : (newest older : List (Option ℕ)) (links : List Link) (k : ℕ) (link : Link) (o : Option ℕ) → length older ≡ length links → are_inside (length newest) links ≡ true → slice_get links k ≡ Some link
    → o ≡ get_or newest link.place None → Threaded newest older links k → Threaded (set newest link.place (Some k)) (set older k o) links (k + 1)
thread_step newest older links k link o each inside at is so =
    let below = slice_get_below links k link at in
    let placed = place_inside (length newest) links k link inside at in
    let len = length-set newest link.place (Some k) in
    let found : o ≡ latest link.place (take k links) = is ∙ so.last link.place placed in
    record {
      last = λ place under.
          let pushed = ap (latest place) (take_pushed links k link at) ∙ latest_push place (take k links) link in
          let size = length-take-le k links (omega (arith, below)) in
          elim (cases_Bool (link.place == place)) [
            | inl y ↦
                let same : link.place ≡ place = eqb-true link.place place y in
                ap (λ n. get_or (set newest n (Some k)) place None) same
                ∙ (let lt : place < length newest = omega (arith, placed, same) in rw get_or-set_same refl)
                ∙ ap Some (sym size) ∙ sym (pushed ∙ ap (λ b. cond b (Some (length (take k links))) (latest place (take k links))) y)
            | inr n ↦
                let ne : place ≢ link.place = λ e. both_ways _ n (eq-eqb link.place place (sym e)) in
                (rw get_or-set_other refl) ∙ so.last place (omega (arith, under, len)) ∙ sym (pushed ∙ ap (λ b. cond b (Some (length (take k links))) (latest place (take k links))) n)
          ];
      before = λ j other under at_j. elim (cases_Bool (j == k)) [
        | inl y ↦
            let same : j ≡ k = eqb-true j k y in
            let one : link ≡ other = (let e : Some link ≡ Some other = sym at ∙ ap (slice_get links) (sym same) ∙ at_j in cc) in
            ap (λ n. get_or (set older k o) n None) same ∙ (let lt : k < length older = omega (arith, below, each) in rw get_or-set_same refl) ∙ found
            ∙ (λ i. latest (one i).place (take (sym same i) links))
        | inr n ↦
            let ne : j ≢ k = λ e. both_ways _ n (eq-eqb j k e) in
            (rw get_or-set_other refl) ∙ so.before j other (omega (arith, under, ne)) at_j
      ];
    }

pub thread_end : (newest older : List (Option ℕ)) (links : List Link) (k : ℕ) → length links ≤ k → length older ≡ length links → are_inside (length newest) links ≡ true → Threaded newest older links k → IsLinked newest older links
thread_end newest older links k past each inside so = record {
  each = each;
  inside = inside;
  last = λ place below. so.last place below ∙ ap (latest place) (take_all k links past);
  before = λ j link at. let below = slice_get_below links j link at in so.before j link (omega (arith, below, past)) at;
}

-- ---- asking the numbers of a place

pub below_more : (o : Option ℕ) (k n : ℕ) → IsBelow o k → k ≤ n → IsBelow o n
below_more None k n h le = tt
below_more (Some i) k n h le = omega (arith, h, le)

pub asked_here : (t : ℕ → Bool) (links : List Link) (k : ℕ) (o : Option ℕ) (link : Link) → o ≡ Some k → slice_get links k ≡ Some link → t link.number ≡ true → list_any t (numbers_from links o) ≡ true
asked_here t links k o link is at here =
    ap (λ (p : Option ℕ). list_any t (numbers_from links p)) is ∙ ap (list_any t) (older_numbers links k link (latest link.place (take k links)) at refl)
    ∙ list_any-append t (numbers_from links (latest link.place (take k links))) (link.number ∷ []) ∙ or_right _ _ (ap (λ b. b || false) here)

or_none : (a b : Bool) → b ≡ false → (a || (b || false)) ≡ a
or_none true b h = refl
or_none false b h = ap (λ x. x || false) h

pub asked_on : (t : ℕ → Bool) (links : List Link) (k : ℕ) (o next : Option ℕ) (link : Link) → o ≡ Some k → numbers_from links (Some k) ≡ numbers_from links next ++ link.number ∷ [] → t link.number ≡ false
    → list_any t (numbers_from links o) ≡ list_any t (numbers_from links next)
asked_on t links k o next link is numbers here =
    ap (λ (p : Option ℕ). list_any t (numbers_from links p)) is ∙ ap (list_any t) numbers ∙ list_any-append t (numbers_from links next) (link.number ∷ []) ∙ or_none _ _ here

pub link_at : (links : List Link) (k : ℕ) (d : Link) → k < length links → slice_get links k ≡ Some (get_or links k d)
link_at [] k d below = absurd (omega (arith, below))
link_at (x ∷ links) zero d below = refl
link_at (x ∷ links) (suc k) d below = link_at links k d (omega (arith, below))

-- ---- room for more

nat_cases : (a b : ℕ) → (a < b) ⊎ (b ≤ a)
nat_cases zero zero = inr (omega arith)
nat_cases zero (suc b) = inl (omega arith)
nat_cases (suc a) zero = inr (omega arith)
nat_cases (suc a) (suc b) = elim (nat_cases a b) [ inl h ↦ inl (omega (arith, h)) | inr h ↦ inr (omega (arith, h)) ]

take_append : (links added : List Link) → take (length links) (links ++ added) ≡ links
take_append [] added = refl
take_append (x ∷ links) added = ap (λ l. x ∷ l) (take_append links added)

take_front : (links added : List Link) (k : ℕ) → k ≤ length links → take k (links ++ added) ≡ take k links
take_front links added zero h = refl
take_front [] added (suc k) h = absurd (omega (arith, h))
take_front (x ∷ links) added (suc k) h = ap (λ l. x ∷ l) (take_front links added k (omega (arith, h)))

get_front : (links added : List Link) (k : ℕ) → k < length links → slice_get (links ++ added) k ≡ slice_get links k
get_front [] added k h = absurd (omega (arith, h))
get_front (x ∷ links) added zero h = refl
get_front (x ∷ links) added (suc k) h = get_front links added k (omega (arith, h))

inside_more : (size more : ℕ) (links : List Link) → are_inside size links ≡ true → are_inside (size + more) links ≡ true
inside_more size more links h = all_weaker (λ (l : Link). nat_lt l.place size) (λ (l : Link). nat_lt l.place (size + more)) (λ l e. grind (arith, nat_tests)) links h

latest_outside : (place size : ℕ) (links : List Link) → are_inside size links ≡ true → size ≤ place → latest place links ≡ None
unfolding latest
latest_outside place size [] h le = refl
latest_outside place size (x ∷ links) h le =
    let parts = and_parts (nat_lt x.place size) _ h in
    let below : x.place < size = (let e = parts.0 in grind (arith, nat_tests)) in
    let other : is_of place x ≡ false = false_from_ne_true _ (λ e. let same = eqb-true x.place place e in absurd (omega (arith, below, le, same))) in
    ap (λ o. further_or o (first_or (is_of place x))) (latest_outside place size links parts.1 le) ∙ ap first_or other

none_front : (xs : List (Option ℕ)) (m k : ℕ) → k < length xs → get_or (xs ++ replicate m None) k None ≡ get_or xs k None
none_front [] m k below = absurd (omega (arith, below))
none_front (x ∷ xs) m zero below = refl
none_front (x ∷ xs) m (suc k) below = none_front xs m k (omega (arith, below))

all_none : (m k : ℕ) → ◌≡◌ {A = Option ℕ} (get_or (replicate m None) k None) None
all_none zero k = refl
all_none (suc m) zero = refl
all_none (suc m) (suc k) = all_none m k

none_back : (xs : List (Option ℕ)) (m k : ℕ) → length xs ≤ k → get_or (xs ++ replicate m None) k None ≡ None
none_back [] m k over = all_none m k
none_back (x ∷ xs) m zero over = absurd (omega (arith, over))
none_back (x ∷ xs) m (suc k) over = none_back xs m k (omega (arith, over))

pub threaded_more : (newest older : List (Option ℕ)) (links added : List Link) (m n : ℕ) → IsLinked newest older links → Threaded (newest ++ replicate m None) (older ++ replicate n None) (links ++ added) (length links)
threaded_more newest older links added m n so =
    let front : take (length links) (links ++ added) ≡ links = take_append links added in
    record {
      last = λ place below. elim (nat_cases place (length newest)) [
        | inl lt ↦ none_front newest m place lt ∙ so.last place lt ∙ ap (latest place) (sym front)
        | inr le ↦ none_back newest m place le ∙ sym (latest_outside place (length newest) links so.inside le) ∙ ap (latest place) (sym front)
      ];
      before = λ k link under at.
          let old : slice_get links k ≡ Some link = sym (get_front links added k under) ∙ at in
          none_front older n k (omega (arith, under, so.each)) ∙ so.before k link old ∙ ap (latest link.place) (sym (take_front links added k (omega (arith, under))));
    }

pub inside_added : (size more : ℕ) (links added : List Link) → are_inside size links ≡ true → are_inside (size + more) added ≡ true → are_inside (size + more) (links ++ added) ≡ true
inside_added size more links added h g = all-append (λ (l : Link). nat_lt l.place (size + more)) links added (inside_more size more links h) g
