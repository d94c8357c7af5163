-- The updates that delete a row are found by its place.
use Rattle.std.proofs.Common.{◌≡◌, ℕ, zero, suc, ◌+◌, ◌<◌, Bool, true, false, cond, ◌&&◌, ◌||◌, List, [], ◌∷◌, ◌++◌, length, get_or, map, reverse, take, refl, sym, ap, ◌∙◌, Option, Some, None, inl, inr, arith}
use Rattle.std.specs.Prelude.{is_some}
use Rattle.std.specs.List.{list_all, list_any, position_from}
use Rattle.std.proofs.lemmas.Bool.{and_parts, and_from, both_ways, cases_Bool, eqb-true, eq-eqb, false_from_ne_true}
use Rattle.std.proofs.lemmas.Bool.Decides.{nat_tests}
use Rattle.std.proofs.lemmas.List.{map-append, take_more}
use Rattle.std.proofs.lemmas.List.Folds.{list_all-append}
use Rattle.update_model.specs.declared.row_name.RowName.{RowName}
use Rattle.update_model.proofs.Closed.{is_some-position}
use Rattle.table_model.specs.Visible.{same_row}
use Rattle.table_model.proofs.Standing.{row_from_same, same_row-refl}
use Rattle.tuple_state.specs.declared.dropped.Dropped.{Dropped}
use Rattle.tuple_state.specs.declared.inserted.Inserted.{Inserted}
use Rattle.tuple_state.specs.declared.links.Link.{Link}
use Rattle.tuple_state.specs.Kept.{deletes_at, is_named, pairs_of, place_of}
use Rattle.tuple_state.specs.Links.{are_inside, is_of, numbers_of}
use Rattle.tuple_state.specs.State.{row_of}
use Rattle.tuple_state.proofs.Linking.{numbers_cons}
use Rattle.tuple_state.proofs.Lookups.{named_reversed, reverse_cons, row_found}

-- the parts of a link and a deletion side by side
pub record IsPair (place : RowName → Option ℕ) (link : Link) (drop : Dropped) (links : List Link) (dropped : List Dropped) : Type 0 where
  pub at : Some link.place ≡ place drop.name
  pub number : link.number ≡ drop.position
  pub rest : pairs_of links ≡ deletes_at place dropped

pub pair_parts : (place : RowName → Option ℕ) (link : Link) (drop : Dropped) (links : List Link) (dropped : List Dropped) → pairs_of (link ∷ links) ≡ deletes_at place (drop ∷ dropped) → IsPair place link drop links dropped
pair_parts place link drop links dropped h =
    let T : Type 0 = Option ℕ × ℕ in
    let head : List T → T → T = λ l d. get_or l 0 d in
    let none : T = (None, 0) in
    let first : ◌≡◌ {A = T} (Some link.place, link.number) (place drop.name, drop.position) = ap (λ (l : List T). get_or l 0 none) h in
    record { at = ap (λ (p : T). p.0) first; number = ap (λ (p : T). p.1) first; rest = (cc) }

or_false : (a b : Bool) → a ≡ false → (a || b) ≡ b
or_false a b h = ap (λ x. x || b) h

and_true : (b : Bool) → (b && true) ≡ b
and_true true = refl
and_true false = refl

and_false : (b : Bool) → (b && false) ≡ false
and_false true = refl
and_false false = refl

module _ (rows : List Inserted) (past : ℕ → Bool) (place : ℕ) (name : RowName) (found : place_of rows name ≡ Some place) where
  -- a name at the same place is the same
  pub one_name : (other : RowName) → place_of rows other ≡ Some place → name ≡ other
  one_name other h =
      let a = row_found rows name place found in
      let b = row_found rows other place h in
      let same : a.it ≡ b.it = (let e : Some a.it ≡ Some b.it = sym a.at ∙ b.at in cc) in
      sym a.name_is ∙ ap (λ (it : Inserted). it.name) same ∙ b.name_is

  -- whether one of the updates that delete a row is of the past
  pub any_deleter : (links : List Link) (dropped : List Dropped) → pairs_of links ≡ deletes_at (place_of rows) dropped
      → list_any past (numbers_of links place) ≡ list_any (λ (d : Dropped). past d.position && same_row name d.name) dropped
  any_deleter [] [] h = refl
  any_deleter [] (d ∷ dropped) h = absurd (cc)
  any_deleter (link ∷ links) [] h = absurd (cc)
  any_deleter (link ∷ links) (d ∷ dropped) h =
      let pair = pair_parts (place_of rows) link d links dropped h in
      let rest = any_deleter links dropped pair.rest in
      let numbers = ap (list_any past) (numbers_cons place link links) in
      elim (cases_Bool (is_of place link)) [
        | inl y ↦
            let same : link.place ≡ place = eqb-true link.place place y in
            let named : same_row name d.name ≡ true = ap (same_row name) (sym (one_name d.name (sym pair.at ∙ ap Some same))) ∙ same_row-refl name in
            numbers ∙ ap (λ b. list_any past (cond b (link.number ∷ numbers_of links place) (numbers_of links place))) y
            ∙ (λ i. past (pair.number i) || rest i) ∙ ap (λ b. b || list_any (λ (d : Dropped). past d.position && same_row name d.name) dropped) (sym (ap (λ b. past d.position && b) named ∙ and_true (past d.position)))
        | inr n ↦
            let other : same_row name d.name ≡ false =
            false_from_ne_true _ (λ e.
            let one : Some link.place ≡ Some place = pair.at ∙ ap (place_of rows) (sym (row_from_same name d.name e)) ∙ found in
            let same : link.place ≡ place = cc in
            both_ways _ n (eq-eqb link.place place same)) in
            numbers ∙ ap (λ b. list_any past (cond b (link.number ∷ numbers_of links place) (numbers_of links place))) n ∙ rest
            ∙ sym (or_false _ _ (ap (λ b. past d.position && b) other ∙ and_false (past d.position)))
      ]

-- ---- making the links

pub holds_at : (t : Dropped → Bool) (xs : List Dropped) (i : ℕ) (d : Dropped) → i < length xs → list_all t xs ≡ true → t (get_or xs i d) ≡ true
holds_at t [] i d below h = absurd (omega (arith, below))
holds_at t (x ∷ xs) zero d below h = (and_parts (t x) _ h).0
holds_at t (x ∷ xs) (suc i) d below h = holds_at t xs i d (omega (arith, below)) (and_parts (t x) _ h).1

pub links_step : (place : RowName → Option ℕ) (dropped : List Dropped) (i : ℕ) (d : Dropped) (links : List Link) (k : ℕ) → i < length dropped → pairs_of links ≡ deletes_at place (take i dropped)
    → place (get_or dropped i d).name ≡ Some k → pairs_of (links ++ record { place = k; number = (get_or dropped i d).position } ∷ []) ≡ deletes_at place (take (i + 1) dropped)
links_step place dropped i d links k below so at =
    let it = get_or dropped i d in
    map-append (λ (l : Link). (Some l.place, l.number)) links (record { place = k; number = it.position } ∷ [])
    ∙ (λ j. so j ++ (sym at j, it.position) ∷ [])
    ∙ sym (map-append (λ (x : Dropped). (place x.name, x.position)) (take i dropped) (it ∷ []))
    ∙ ap (deletes_at place) (sym (take_more dropped i d below))

pub links_inside : (place : RowName → Option ℕ) (limit : ℕ) (links : List Link) (dropped : List Dropped) → pairs_of links ≡ deletes_at place dropped → ((name : RowName) (k : ℕ) → place name ≡ Some k → k < limit) → are_inside limit links ≡ true
links_inside place limit [] dropped h inside = refl
links_inside place limit (link ∷ links) [] h inside = absurd (cc)
links_inside place limit (link ∷ links) (d ∷ dropped) h inside =
    let pair = pair_parts place link d links dropped h in
    let lt : link.place < limit = inside d.name link.place (sym pair.at) in
    and_from _ _ (grind (arith, nat_tests)) (links_inside place limit links dropped pair.rest inside)

-- ---- more rows

found_stays : (t : Inserted → Bool) (i : ℕ) (xs ys : List Inserted) (k : ℕ) → position_from t i xs ≡ Some k → position_from t i (xs ++ ys) ≡ Some k
found_stays t i [] ys k h = absurd (cc)
found_stays t i (x ∷ xs) ys k h =
    elim (t x) as (λ b. cond b (Some i) (position_from t (i + 1) xs) ≡ Some k → cond b (Some i) (position_from t (i + 1) (xs ++ ys)) ≡ Some k) [ true ↦ λ g. g | false ↦ λ g. found_stays t (i + 1) xs ys k g ] h

pub place_stays : (rows news : List Inserted) (name : RowName) (k : ℕ) → place_of rows name ≡ Some k → place_of (rows ++ news) name ≡ Some k
place_stays rows news name k h = found_stays (λ (it : Inserted). same_row it.name name) 0 rows news k h

deletes_stay : (rows news : List Inserted) (links : List Link) (dropped : List Dropped) → pairs_of links ≡ deletes_at (place_of rows) dropped → pairs_of links ≡ deletes_at (place_of (rows ++ news)) dropped
deletes_stay rows news [] [] h = refl
deletes_stay rows news [] (d ∷ dropped) h = absurd (cc)
deletes_stay rows news (link ∷ links) [] h = absurd (cc)
deletes_stay rows news (link ∷ links) (d ∷ dropped) h =
    let pair = pair_parts (place_of rows) link d links dropped h in
    let at = place_stays rows news d.name link.place (sym pair.at) in
    λ i. (sym at i, pair.number i) ∷ deletes_stay rows news links dropped pair.rest i

pub deleted_next : (rows news : List Inserted) (dropped drops : List Dropped) (links after : List Link) → pairs_of links ≡ deletes_at (place_of rows) dropped → pairs_of after ≡ pairs_of links ++ deletes_at (place_of (rows ++ news)) drops
    → pairs_of after ≡ deletes_at (place_of (rows ++ news)) (dropped ++ drops)
deleted_next rows news dropped drops links after so added =
    added ∙ ap (λ l. l ++ deletes_at (place_of (rows ++ news)) drops) (deletes_stay rows news links dropped so)
    ∙ sym (map-append (λ (x : Dropped). (place_of (rows ++ news) x.name, x.position)) dropped drops)

-- what is deleted is found
homed_back : (rows : List Inserted) (names : List Dropped) → list_all (is_named (reverse (map row_of rows))) (map (λ (d : Dropped). d.name) names) ≡ true → list_all (λ (d : Dropped). is_some (place_of rows d.name)) names ≡ true
homed_back rows [] h = refl
homed_back rows (d ∷ names) h =
    let parts = and_parts (is_named (reverse (map row_of rows)) d.name) _ h in
    and_from _ _ (is_some-position (λ (it : Inserted). same_row it.name d.name) 0 rows ∙ sym (named_reversed rows d.name) ∙ parts.0) (homed_back rows names parts.1)

all_back : (t : RowName → Bool) (xs : List RowName) → list_all t (reverse xs) ≡ true → list_all t xs ≡ true
all_back t [] h = refl
all_back t (x ∷ xs) h =
    let both = sym (ap (list_all t) (reverse_cons x xs) ∙ list_all-append t (reverse xs) (x ∷ [])) ∙ h in
    let parts = and_parts (list_all t (reverse xs)) _ both in
    and_from _ _ (and_parts (t x) true parts.1).0 (all_back t xs parts.0)

pub drops_found : (rows : List Inserted) (dropped drops : List Dropped) → list_all (is_named (reverse (map row_of rows))) (reverse (map (λ (d : Dropped). d.name) (dropped ++ drops))) ≡ true
    → list_all (λ (d : Dropped). is_some (place_of rows d.name)) drops ≡ true
drops_found rows dropped drops h =
    let t = is_named (reverse (map row_of rows)) in
    let whole = all_back t (map (λ (d : Dropped). d.name) (dropped ++ drops)) h in
    let split = sym (ap (list_all t) (map-append (λ (d : Dropped). d.name) dropped drops) ∙ list_all-append t (map (λ (d : Dropped). d.name) dropped) (map (λ (d : Dropped). d.name) drops)) ∙ whole in
    homed_back rows drops (and_parts (list_all t (map (λ (d : Dropped). d.name) dropped)) _ split).1

pub not_none : {X : Type 0} (o : Option X) → is_some o ≡ true → o ≡ None → ⊥
not_none o some none = both_ways _ (ap is_some none) some

module _ {get place : RowName → Option ℕ} (same : (name : RowName) → get name ≡ place name) where
  pub all_same : (names : List Dropped) → list_all (λ (d : Dropped). is_some (get d.name)) names ≡ list_all (λ (d : Dropped). is_some (place d.name)) names
  all_same names = λ i. list_all (λ (d : Dropped). is_some (same d.name i)) names

  pub pairs_same : (names : List Dropped) → deletes_at get names ≡ deletes_at place names
  pairs_same names = λ i. deletes_at (λ name. same name i) names
