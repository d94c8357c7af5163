-- The least row of each group.
use Rattle.std.proofs.Common.{◌≡◌, ◌≢◌, ℕ, zero, suc, ◌+◌, ◌<◌, ◌≤◌, ◌==◌, Bool, true, false, ◌&&◌, ◌||◌, List, [], ◌∷◌, length, get_or, set, get_or-set_other, get_or-set_same, refl, sym, ap, ◌∙◌, subst, Option, Some, None, is_none, arith, inl, inr}
use Rattle.std.specs.Prelude.{count_by, slice_get}
use Rattle.std.specs.declared.cmp.Ordering.{Ordering}
use Rattle.std.specs.declared.cmp.Ordering.TheVariants.{Less, Equal, Greater}
use Rattle.std.specs.Ordering.{is_lt, ordering_reverse}
use Rattle.std.proofs.lemmas.Bool.{and_from, and_parts, both_ways, eq-eqb, eqb-true, false_from_ne_true, or_cases, or_left, or_right}
use Rattle.std.proofs.lemmas.Cmp.{tied_itself}
use Rattle.update_model.specs.declared.row_name.RowName.{RowName}
use Rattle.table_model.specs.Counts.{one_where}
use Rattle.table_model.specs.Visible.{goes_before, kept_of, name_cmp}
use Rattle.table_model.proofs.Rising.{name_cmp_total}
use Rattle.table_model.proofs.Standing.{bool_same}
use Rattle.tuple_state.specs.declared.inserted.Inserted.{Inserted}
use Rattle.tuple_state.specs.declared.shape.Shape.{Shape}
use Rattle.tuple_state.specs.declared.links.Link.{Link}
use Rattle.tuple_state.specs.Links.{is_of}
use Rattle.tuple_state.specs.Causes.{absent_times}
use Rattle.tuple_state.specs.Least.{AreGrouped, AreLeast, AreSettled, IsLeastOf, any_from, are_equal, is_behind, is_first, is_first_at, is_lesser, is_lesser_at, is_free, is_in, is_passed, is_passed_in, is_standing, passed_by}
use Rattle.tuple_state.specs.State.{keep_any, row_of, rules_over}
use Rattle.tuple_state.proofs.Layers.{plain_shapes}
use Rattle.tuple_state.proofs.Grouping.{group_same, last_or}
use Rattle.tuple_state.proofs.Marking.{slice_get_below}

-- ---- names in order

from_less : (o : Ordering) → is_lt o ≡ true → o ≡ Less
from_less Less h = refl
from_less Equal h = absurd cc
from_less Greater h = absurd cc

less_itself : (a : RowName) → is_lt (name_cmp a a) ≡ false
less_itself a = ap is_lt (tied_itself name_cmp_total a)

less_onward : (a b c : RowName) → is_lt (name_cmp a b) ≡ true → is_lt (name_cmp b c) ≡ true → is_lt (name_cmp a c) ≡ true
less_onward a b c p q = ap is_lt (name_cmp_total.trans a b c (from_less _ p) (from_less _ q))

-- what is no greater than a lesser name is lesser
less_under : (a b c : RowName) → is_lt (name_cmp b a) ≡ false → is_lt (name_cmp b c) ≡ true → is_lt (name_cmp a c) ≡ true
less_under a b c not_below below =
    let step : (o : Ordering) → name_cmp a b ≡ o → is_lt (name_cmp a c) ≡ true = elim [
      | Less ↦ λ e. less_onward a b c (ap is_lt e) below
      | Equal ↦ λ e. ap is_lt (name_cmp_total.congr a b c e) ∙ below
      | Greater ↦ λ e. absurd (both_ways _ not_below (ap is_lt (name_cmp_total.antisymm b a ∙ ap ordering_reverse e)))
    ] in
    step (name_cmp a b) refl

-- ---- the least one so far

one_row : (rows : List Inserted) (k : ℕ) (a b : Inserted) → slice_get rows k ≡ Some a → slice_get rows k ≡ Some b → a ≡ b
one_row rows k a b x y = let same : Some a ≡ Some b = sym x ∙ y in cc

module _ (rows : List Inserted) (standing : ℕ → Inserted → Bool) (n : ℕ) (it : Inserted) (at : slice_get rows n ≡ Some it) where
  pub extend_same : standing n it ≡ false → (o : Option ℕ) → IsLeastOf rows standing n o → IsLeastOf rows standing (n + 1) o
  extend_same fails None none = λ k other below there.
      elim (last_or k n below) [
        | inl old ↦ none k other old there
        | inr last ↦ let one = one_row rows n other it (ap (slice_get rows) (sym last) ∙ there) at in (λ i. standing (last i) (one i)) ∙ fails
      ]
  extend_same fails (Some q) f = record {
    it = f.it;
    at = f.at;
    stands = f.stands;
    least = λ k other below there stands.
        elim (last_or k n below) [
          | inl old ↦ f.least k other old there stands
          | inr last ↦ let one = one_row rows n other it (ap (slice_get rows) (sym last) ∙ there) at in absurd (both_ways _ ((λ i. standing (last i) (one i)) ∙ fails) stands)
        ];
  }

  pub extend_kept : (o : Option ℕ) → is_first rows it o ≡ false → IsLeastOf rows standing n o → IsLeastOf rows standing (n + 1) o
  extend_kept None fails none = absurd cc
  extend_kept (Some q) fails f = record {
    it = f.it;
    at = f.at;
    stands = f.stands;
    least = λ k other below there stands.
        elim (last_or k n below) [
          | inl old ↦ f.least k other old there stands
          | inr last ↦
              let one = one_row rows n other it (ap (slice_get rows) (sym last) ∙ there) at in
              ap (λ (x : Inserted). is_lt (name_cmp x.name f.it.name)) one ∙ sym (ap (is_first_at it) f.at) ∙ fails
        ];
  }

  pub extend_new : standing n it ≡ true → (o : Option ℕ) → is_first rows it o ≡ true → IsLeastOf rows standing n o → IsLeastOf rows standing (n + 1) (Some n)
  extend_new stands None first none = record {
    it = it;
    at = at;
    stands = stands;
    least = λ k other below there also.
        elim (last_or k n below) [
          | inl old ↦ absurd (both_ways _ (none k other old there) also)
          | inr last ↦ ap (λ (x : Inserted). is_lt (name_cmp x.name it.name)) (one_row rows n other it (ap (slice_get rows) (sym last) ∙ there) at) ∙ less_itself it.name
        ];
  }
  extend_new stands (Some q) first f = record {
    it = it;
    at = at;
    stands = stands;
    least = λ k other below there also.
        elim (last_or k n below) [
          | inl old ↦
              let lower : is_lt (name_cmp it.name f.it.name) ≡ true = sym (ap (is_first_at it) f.at) ∙ first in
              false_from_ne_true _ (λ e. both_ways _ (f.least k other old there also) (less_onward other.name it.name f.it.name e lower))
          | inr last ↦ ap (λ (x : Inserted). is_lt (name_cmp x.name it.name)) (one_row rows n other it (ap (slice_get rows) (sym last) ∙ there) at) ∙ less_itself it.name
        ];
  }

module _ (rows : List Inserted) (causes groups : List ℕ) (least : List (Option ℕ)) (table n : ℕ) (it : Inserted) (at : slice_get rows n ≡ Some it)
    (g : ℕ) (are : IsLeastOf rows (is_standing causes groups table g) n (get_or least g None)) where
  not_own : (get_or groups n 0 == g) ≡ false → is_standing causes groups table g n it ≡ false
  not_own e =
      let step : (a : Bool) → ((a && (get_or groups n 0 == g)) && (get_or causes n 0 == 0)) ≡ false = elim [ true ↦ ap (λ b. b && (get_or causes n 0 == 0)) e | false ↦ refl ] in
      step (it.entry.table == table)

  -- a row that is better than the least one of its group
  pub least_then : (((it.entry.table == table) && (get_or causes n 0 == 0)) && is_first rows it (get_or least (get_or groups n 0) None)) ≡ true → get_or groups n 0 < length least
      → IsLeastOf rows (is_standing causes groups table g) (n + 1) (get_or (set least (get_or groups n 0) (Some n)) g None)
  least_then better inside =
      let parts = and_parts ((it.entry.table == table) && (get_or causes n 0 == 0)) _ better in
      let two = and_parts (it.entry.table == table) _ parts.0 in
      let step : (b : Bool) → (get_or groups n 0 == g) ≡ b → IsLeastOf rows (is_standing causes groups table g) (n + 1) (get_or (set least (get_or groups n 0) (Some n)) g None) = elim [
        | true ↦ λ e.
            let same : get_or groups n 0 ≡ g = eqb-true (get_or groups n 0) g e in
            let here : get_or (set least (get_or groups n 0) (Some n)) g None ≡ Some n = ap (λ k. get_or (set least (get_or groups n 0) (Some n)) k None) (sym same) ∙ (rw get_or-set_same refl) in
            subst (λ (o : Option ℕ). IsLeastOf rows (is_standing causes groups table g) (n + 1) o) (sym here)
            (extend_new rows (is_standing causes groups table g) n it at (and_from _ _ (and_from _ _ two.0 e) two.1) (get_or least g None) (ap (λ k. is_first rows it (get_or least k None)) (sym same) ∙ parts.1) are)
        | false ↦ λ e.
            let ne : g ≢ get_or groups n 0 = λ s. both_ways _ e (eq-eqb (get_or groups n 0) g (sym s)) in
            let there : get_or (set least (get_or groups n 0) (Some n)) g None ≡ get_or least g None = (rw get_or-set_other refl) in
            subst (λ (o : Option ℕ). IsLeastOf rows (is_standing causes groups table g) (n + 1) o) (sym there)
            (extend_same rows (is_standing causes groups table g) n it at (not_own e) (get_or least g None) are)
      ] in
      step (get_or groups n 0 == g) refl

  -- one that is not
  pub least_else : (((it.entry.table == table) && (get_or causes n 0 == 0)) && is_first rows it (get_or least (get_or groups n 0) None)) ≡ false
      → IsLeastOf rows (is_standing causes groups table g) (n + 1) (get_or least g None)
  least_else worse =
      let step : (b c d : Bool) → (get_or groups n 0 == g) ≡ b → ((it.entry.table == table) && (get_or causes n 0 == 0)) ≡ c → is_first rows it (get_or least (get_or groups n 0) None) ≡ d → (c && d) ≡ false
      → IsLeastOf rows (is_standing causes groups table g) (n + 1) (get_or least g None) = elim [
        | true ↦ elim [
          | true ↦ elim [
            | true ↦ λ e f h bad. absurd cc
            | false ↦ λ e f h bad.
                let same : get_or groups n 0 ≡ g = eqb-true (get_or groups n 0) g e in
                extend_kept rows (is_standing causes groups table g) n it at (get_or least g None) (ap (λ k. is_first rows it (get_or least k None)) (sym same) ∙ h) are
          ]
          | false ↦ λ d e f h bad. extend_same rows (is_standing causes groups table g) n it at (turned (it.entry.table == table) (get_or groups n 0 == g) (get_or causes n 0 == 0) f) (get_or least g None) are
        ]
        | false ↦ λ c d e f h bad. extend_same rows (is_standing causes groups table g) n it at (not_own e) (get_or least g None) are
      ] in
      step (get_or groups n 0 == g) ((it.entry.table == table) && (get_or causes n 0 == 0)) (is_first rows it (get_or least (get_or groups n 0) None)) refl refl refl worse
    where
      turned : (a b d : Bool) → (a && d) ≡ false → ((a && b) && d) ≡ false
      turned true true d h = h
      turned true false d h = refl
      turned false b d h = refl

-- ---- tests of rows and their places

pub any_there : (test : ℕ → Inserted → Bool) (n : ℕ) (rows : List Inserted) (m : ℕ) (it : Inserted) → slice_get rows m ≡ Some it → test (n + m) it ≡ true → any_from test n rows ≡ true
any_there test n [] m it at h = absurd (cc)
any_there test n (x ∷ rows) zero it at h = let same : x ≡ it = cc in or_left _ _ ((λ i. test (let e : n ≡ n + 0 = omega arith in e i) (same i)) ∙ h)
any_there test n (x ∷ rows) (suc m) it at h = or_right (test n x) _ (any_there test (n + 1) rows m it at (ap (λ k. test k it) (omega arith) ∙ h))

pub record AnyAt (test : ℕ → Inserted → Bool) (n : ℕ) (rows : List Inserted) : Type 0 where
  pub place : ℕ
  pub it : Inserted
  pub at : slice_get rows place ≡ Some it
  pub passes : test (n + place) it ≡ true

pub any_found : (test : ℕ → Inserted → Bool) (n : ℕ) (rows : List Inserted) → any_from test n rows ≡ true → AnyAt test n rows
any_found test n [] h = absurd (cc)
any_found test n (x ∷ rows) h = elim (or_cases (test n x) _ h) [
  | inl here ↦ record { place = 0; it = x; at = refl; passes = ap (λ k. test k x) (omega arith) ∙ here }
  | inr there ↦ let rest = any_found test (n + 1) rows there in record { place = suc rest.place; it = rest.it; at = rest.at; passes = ap (λ k. test k rest.it) (omega arith) ∙ rest.passes }
]

pub any_alike : (f g : ℕ → Inserted → Bool) (n : ℕ) (rows : List Inserted) → ((m : ℕ) (it : Inserted) → slice_get rows m ≡ Some it → f (n + m) it ≡ g (n + m) it) → any_from f n rows ≡ any_from g n rows
any_alike f g n [] h = refl
any_alike f g n (x ∷ rows) h =
    let here : f n x ≡ g n x = ap (λ k. f k x) (omega arith) ∙ h 0 x refl ∙ ap (λ k. g k x) (omega arith) in
    let rest = any_alike f g (n + 1) rows (λ m it at. ap (λ k. f k it) (omega arith) ∙ h (suc m) it at ∙ ap (λ k. g k it) (omega arith)) in
    λ i. here i || rest i

-- ---- where no table keeps the least row

pub plain_passed : (shapes : List Shape) (rows : List Inserted) (free : ℕ → Bool) → keep_any shapes ≡ false → (o : Option Inserted) → passed_by shapes rows free o ≡ 0
plain_passed shapes rows free plain None = refl
plain_passed shapes rows free plain (Some it) =
    let step : (o : Option ℕ) → is_none o ≡ true → one_where (is_passed_in rows free it o) ≡ 0 = elim [ None ↦ λ e. refl | Some column ↦ λ e. absurd cc ] in
    step (kept_of (rules_over shapes) it.entry.table) (plain_shapes shapes plain it.entry.table)

pub passed_low : (shapes : List Shape) (rows : List Inserted) (free : ℕ → Bool) (o : Option Inserted) → passed_by shapes rows free o ≤ 1
passed_low shapes rows free None = omega arith
passed_low shapes rows free (Some it) =
    let step : (b : Bool) → one_where b ≤ 1 = elim [ true ↦ omega arith | false ↦ omega arith ] in
    step (is_passed shapes rows free it)

pub plain_settled : (shapes : List Shape) (rows : List Inserted) (links : List Link) (base : ℕ → ℕ) (causes : List ℕ) → keep_any shapes ≡ false → ((k : ℕ) → get_or causes k 0 ≡ base k + absent_times links causes k)
    → AreSettled shapes rows links base causes
plain_settled shapes rows links base causes plain counts k =
    let c = counts k in
    let z = plain_passed shapes rows (is_free base links causes) plain (slice_get rows k) in
    omega (arith, c, z)

-- the same of the same shapes, rows, links, and places of deletions
pub settled_moved : (shapes more : List Shape) (rows others : List Inserted) (links names gone lost : List Link) (causes : List ℕ) → shapes ≡ more → rows ≡ others → links ≡ names → gone ≡ lost
    → AreSettled shapes rows links (λ n. count_by (is_of n) gone) causes → AreSettled more others names (λ n. count_by (is_of n) lost) causes
settled_moved shapes more rows others links names gone lost causes a b d e s k =
    s k ∙ (λ i. (count_by (is_of k) (e i) + absent_times (d i) causes k) + passed_by (a i) (b i) (is_free (λ n. count_by (is_of n) (e i)) (d i) causes) (slice_get (b i) k))

-- the same of the same shapes, rows, links, and numbers at first
pub settled_shift : (shapes more : List Shape) (rows others : List Inserted) (links names : List Link) (base first causes : List ℕ) → shapes ≡ more → rows ≡ others → links ≡ names → base ≡ first
    → AreSettled shapes rows links (λ n. get_or base n 0) causes → AreSettled more others names (λ n. get_or first n 0) causes
settled_shift shapes more rows others links names base first causes a b d e s k =
    s k ∙ (λ i. (get_or (e i) k 0 + absent_times (d i) causes k) + passed_by (a i) (b i) (is_free (λ n. get_or (e i) n 0) (d i) causes) (slice_get (b i) k))

-- the same where each place has as many causes of its own
pub settled_based : (shapes : List Shape) (rows : List Inserted) (links : List Link) (base other : ℕ → ℕ) (causes : List ℕ) → ((k : ℕ) → base k ≡ other k) → AreSettled shapes rows links base causes → AreSettled shapes rows links other causes
settled_based shapes rows links base other causes same s k =
    s k ∙ (λ i. (same k i + absent_times links causes k) + passed_by shapes rows (is_free (λ n. same n i) links causes) (slice_get rows k))

-- ---- rows behind the least one of their group

module _ (shapes : List Shape) (rows : List Inserted) (groups causes : List ℕ) (least : List (Option ℕ)) (table column : ℕ) (grouped : AreGrouped shapes rows groups) (all : length groups ≡ length rows)
    (kept : kept_of (rules_over shapes) table ≡ Some column) (are : AreLeast rows causes groups table (length rows) least) where
  module _ (k : ℕ) (it : Inserted) (at : slice_get rows k ≡ Some it) (own : it.entry.table ≡ table) where
    abbrev test : ℕ → Inserted → Bool
    test place other = goes_before column (row_of it) (row_of other) && (get_or causes place 0 == 0)

    kept_it : kept_of (rules_over shapes) it.entry.table ≡ Some column
    kept_it = ap (kept_of (rules_over shapes)) own ∙ kept

    inside : (j : ℕ) (other : Inserted) → slice_get rows j ≡ Some other → j < length groups
    inside j other there = let below = slice_get_below rows j other there in omega (arith, below, all)

    -- rows with other names have other places
    apart : (j : ℕ) (other : Inserted) → slice_get rows j ≡ Some other → is_lt (name_cmp other.name it.name) ≡ true → j ≢ k
    apart j other there less same =
        let one = one_row rows k other it (ap (slice_get rows) (sym same) ∙ there) at in
        both_ways _ (ap (λ (x : Inserted). is_lt (name_cmp x.name it.name)) one ∙ less_itself it.name) less

    behind_by : (o : Option ℕ) → IsLeastOf rows (is_standing causes groups table (get_or groups k 0)) (length rows) o → is_lesser rows it o ≡ any_from test 0 rows
    behind_by None none =
        sym (false_from_ne_true _ (λ h.
        let a = any_found test 0 rows h in
        let passes : test a.place a.it ≡ true = ap (λ m. test m a.it) (let e : a.place ≡ 0 + a.place = omega arith in e) ∙ a.passes in
        let two = and_parts (goes_before column (row_of it) (row_of a.it)) _ passes in
        let three = and_parts ((a.it.entry.table == it.entry.table) && are_equal column it a.it) _ two.0 in
        let four = and_parts (a.it.entry.table == it.entry.table) _ three.0 in
        let same = eqb-true a.it.entry.table it.entry.table four.0 in
        let ne = apart a.place a.it a.at three.1 in
        let group = group_same shapes rows groups grouped a.place k column a.it it ne (inside a.place a.it a.at) (inside k it at) a.at at same kept_it ∙ four.1 in
        let stands : is_standing causes groups table (get_or groups k 0) a.place a.it ≡ true =
        and_from _ _ (and_from _ _ (eq-eqb a.it.entry.table table (same ∙ own)) group) two.1 in
        both_ways _ (none a.place a.it (slice_get_below rows a.place a.it a.at) a.at) stands))
    behind_by (Some q) f =
        bool_same (is_lesser rows it (Some q)) (any_from test 0 rows)
        (λ h.
        let less : is_lt (name_cmp f.it.name it.name) ≡ true = sym (ap (is_lesser_at it) f.at) ∙ h in
        let parts = and_parts ((f.it.entry.table == table) && (get_or groups q 0 == get_or groups k 0)) _ f.stands in
        let two = and_parts (f.it.entry.table == table) _ parts.0 in
        let same : f.it.entry.table ≡ it.entry.table = eqb-true f.it.entry.table table two.0 ∙ sym own in
        let equal = sym (group_same shapes rows groups grouped q k column f.it it (apart q f.it f.at less) (inside q f.it f.at) (inside k it at) f.at at same kept_it) ∙ two.1 in
        any_there test 0 rows q f.it f.at
        (ap (λ m. test m f.it) (let e : 0 + q ≡ q = omega arith in e) ∙ and_from _ _ (and_from _ _ (and_from _ _ (eq-eqb f.it.entry.table it.entry.table same) equal) less) parts.1))
        (λ h.
        let a = any_found test 0 rows h in
        let passes : test a.place a.it ≡ true = ap (λ m. test m a.it) (let e : a.place ≡ 0 + a.place = omega arith in e) ∙ a.passes in
        let two = and_parts (goes_before column (row_of it) (row_of a.it)) _ passes in
        let three = and_parts ((a.it.entry.table == it.entry.table) && are_equal column it a.it) _ two.0 in
        let four = and_parts (a.it.entry.table == it.entry.table) _ three.0 in
        let same = eqb-true a.it.entry.table it.entry.table four.0 in
        let ne = apart a.place a.it a.at three.1 in
        let group = group_same shapes rows groups grouped a.place k column a.it it ne (inside a.place a.it a.at) (inside k it at) a.at at same kept_it ∙ four.1 in
        let stands : is_standing causes groups table (get_or groups k 0) a.place a.it ≡ true =
        and_from _ _ (and_from _ _ (eq-eqb a.it.entry.table table (same ∙ own)) group) two.1 in
        let not_less = f.least a.place a.it (slice_get_below rows a.place a.it a.at) a.at stands in
        ap (is_lesser_at it) f.at ∙ less_under f.it.name a.it.name it.name not_less three.1)

    -- a row is behind the least one of its group where a row that stands goes before it
    pub behind_is : is_behind rows groups least table k (Some it) ≡ any_from test 0 rows
    behind_is = ap (λ b. b && is_lesser rows it (get_or least (get_or groups k 0) None)) (eq-eqb it.entry.table table own) ∙ behind_by (get_or least (get_or groups k 0) None) (are k (ap (is_in table) at ∙ eq-eqb it.entry.table table own))
