-- Which rows are visible is settled where references are followed far enough, and there is one answer.
use Rattle.std.proofs.Common.{◌≡◌, ℕ, ◌+◌, ◌≤◌, ◌==◌, zero, suc, Bool, true, false, not, ◌&&◌, ◌||◌, nat_lt, List, [], ◌∷◌, length, refl, sym, ap, ap₂, ◌∙◌, subst, arith, inl, inr, Option, Some, None, is_none}
use Rattle.std.specs.List.{list_any, list_all, AllByRecursion}
use Rattle.std.proofs.lemmas.Bool.{and_parts, or_cases, or_right, or_left, and_from, both_ways, eqb-true, eq-eqb, ltb-true, lt-ltb, false_from_ne_true, not-true}
use Rattle.update_model.specs.declared.row_name.RowName.{RowName}
use Rattle.row_check.specs.Comparisons.{compares}
use Rattle.row_check.specs.Meaning.{value_at}
use Rattle.table_model.specs.Visible.{Rules, TableRow, RowRef, Effects, same_row, kept_of, cascade_refs, is_candidate, goes_before, is_least_in, is_least, shows, visible_to, is_visible, is_deleted}
use Rattle.table_model.proofs.Alike.{weight, one_if}
use Rattle.table_model.proofs.Order.{any_weaker}
use Rattle.table_model.proofs.Standing.{row_from_same, same_row-refl, each-map, bool_same}

-- ---- lists

pub any_gives : {X : Type 0} (C : Type 0) (P : X → Type 0) (p : X → Bool) → ((x : X) → P x → p x ≡ true → C) → (xs : List X) → AllByRecursion P xs → list_any p xs ≡ true → C
any_gives C P p f [] s e = absurd (cc)
any_gives C P p f (x ∷ xs) s e = elim (or_cases (p x) _ e) [ inl here ↦ f x s.0 here | inr there ↦ any_gives C P p f xs s.1 there ]

pub each_found : {X Y : Type 0} (P : X → Type 0) (Q : Y → Type 0) (p : Y → X → Bool) → ((y : Y) (x : X) → P x → p y x ≡ true → Q y) → (xs : List X) → AllByRecursion P xs
    → (ys : List Y) → list_all (λ y. list_any (p y) xs) ys ≡ true → AllByRecursion Q ys
each_found P Q p f xs s [] h = tt
each_found P Q p f xs s (y ∷ ys) h =
    let parts = and_parts (list_any (p y) xs) (list_all (λ z. list_any (p z) xs) ys) h in
    (any_gives (Q y) P (p y) (λ x px e. f y x px e) xs s parts.0, each_found P Q p f xs s ys parts.1)

all_same_on : {X : Type 0} (p q : X → Bool) (xs : List X) → AllByRecursion (λ x. p x ≡ q x) xs → list_all p xs ≡ list_all q xs
all_same_on p q [] h = refl
all_same_on p q (x ∷ xs) h = ap₂ (λ a b. a && b) h.0 (all_same_on p q xs h.1)

any_same_on : {X : Type 0} (p q : X → Bool) (xs : List X) → AllByRecursion (λ x. p x ≡ q x) xs → list_any p xs ≡ list_any q xs
any_same_on p q [] h = refl
any_same_on p q (x ∷ xs) h = ap₂ (λ a b. a || b) h.0 (any_same_on p q xs h.1)

pub each_both : {X : Type 0} (P Q R : X → Type 0) → ((x : X) → P x → Q x → R x) → (xs : List X) → AllByRecursion P xs → AllByRecursion Q xs → AllByRecursion R xs
each_both P Q R f [] a b = tt
each_both P Q R f (x ∷ xs) a b = (f x a.0 b.0, each_both P Q R f xs a.1 b.1)

-- each element at a number of its own
each_own : {X : Type 0} (P : ℕ → X → Type 0) (key : X → ℕ) (xs : List X) → ((t : ℕ) → AllByRecursion (P t) xs) → AllByRecursion (λ x. P (key x) x) xs
each_own P key [] h = tt
each_own P key (x ∷ xs) h = ((h (key x)).0, each_own P key xs (λ t. (h t).1))

-- ---- how many rows stand in tables below a number, and in one

abbrev pub below : ℕ → List TableRow → ℕ
below t rows = weight (λ (x : TableRow). one_if (nat_lt x.table t)) rows

abbrev pub within : ℕ → List TableRow → ℕ
within t rows = weight (λ (x : TableRow). one_if (x.table == t)) rows

lt_suc : (x t : ℕ) → one_if (nat_lt x (suc t)) ≡ one_if (nat_lt x t) + one_if (x == t)
lt_suc x t =
    let step : (b c : Bool) → nat_lt x t ≡ b → (x == t) ≡ c → one_if (nat_lt x (suc t)) ≡ one_if b + one_if c = elim [
      | true ↦ elim [
        | true ↦ λ e h. absurd (let low = ltb-true x t e in let same = eqb-true x t h in omega arith)
        | false ↦ λ e h. ap one_if (lt-ltb x (suc t) (let low = ltb-true x t e in omega arith))
      ]
      | false ↦ elim [
        | true ↦ λ e h. ap one_if (lt-ltb x (suc t) (let same = eqb-true x t h in omega arith))
        | false ↦ λ e h. ap one_if (false_from_ne_true (nat_lt x (suc t)) (λ low. both_ways (x == t) h (eq-eqb x t
            (let up = ltb-true x (suc t) low in let down = Rattle.std.proofs.lemmas.Bool.ltb-false x t e in omega arith))))
      ]
    ] in
    step (nat_lt x t) (x == t) refl refl

below-suc : (t : ℕ) (rows : List TableRow) → below (suc t) rows ≡ below t rows + within t rows
below-suc t [] = refl
below-suc t (x ∷ rows) = let a = lt_suc x.table t in let b = below-suc t rows in omega arith

one_if-low : (b : Bool) → one_if b ≤ 1
one_if-low true = omega arith
one_if-low false = omega arith

below-low : (t : ℕ) (rows : List TableRow) → below t rows ≤ length rows
below-low t [] = omega arith
below-low t (x ∷ rows) = let a = one_if-low (nat_lt x.table t) in let b = below-low t rows in omega arith

-- ---- rows that rest on earlier ones

-- a row of a list: it is there, and no other has its name
pub record IsOne (rows : List TableRow) (row : TableRow) : Type 0 where
  pub here : (p : TableRow → Bool) → p row ≡ true → list_any p rows ≡ true
  pub only : (p : TableRow → Bool) → list_any (λ e. same_row e.name row.name && p e) rows ≡ true → p row ≡ true

-- whether a row may rest on another one: that is of an earlier table, or of the same one where it keeps no least row
abbrev pub rests_on : Rules → TableRow → TableRow → Bool
rests_on rules row x = nat_lt x.table row.table || ((x.table == row.table) && is_none (kept_of rules row.table))

-- whether each of these rows, newest first, names by CASCADE only such ones behind it
abbrev pub are_resting : Rules → List TableRow → Bool
are_resting rules [] = true
are_resting rules (row ∷ older) =
    list_all (λ r. list_any (λ x. same_row x.name r.name && rests_on rules row x) older) (cascade_refs rules row) && are_resting rules older

-- what one row shows
pub shows_one : (rules : Rules) (g : Effects) (seen : RowName → Bool) (e : TableRow) → IsOne g.inserted e
    → shows rules g seen e.name ≡ (is_candidate rules g seen e && is_least rules g seen e)
shows_one rules g seen e s =
    bool_same (shows rules g seen e.name) (is_candidate rules g seen e && is_least rules g seen e)
    (λ h. s.only (λ row. is_candidate rules g seen row && is_least rules g seen row) h)
    (λ h. s.here (λ row. same_row row.name e.name && (is_candidate rules g seen row && is_least rules g seen row)) (and_from _ _ (same_row-refl e.name) h))

-- where no row has a name, nothing is shown
pub shows_none : (rules : Rules) (g : Effects) (seen : RowName → Bool) (name : RowName) → list_any (λ row. same_row row.name name) g.inserted ≡ false → shows rules g seen name ≡ false
shows_none rules g seen name none =
    false_from_ne_true _ (λ h. both_ways _ none (any_weaker (λ row. same_row row.name name && (is_candidate rules g seen row && is_least rules g seen row)) (λ row. same_row row.name name)
    (λ row k. (and_parts (same_row row.name name) _ k).0) g.inserted h))

-- ---- two ways to follow references agree

module _ (rules : Rules) (g : Effects) (f h : ℕ → RowName → Bool)
    (fs : (k : ℕ) (name : RowName) → f (suc k) name ≡ shows rules g (f k) name) (hs : (k : ℕ) (name : RowName) → h (suc k) name ≡ shows rules g (h k) name)
    (ones : AllByRecursion (IsOne g.inserted) g.inserted) (rest : are_resting rules g.inserted ≡ true) where
  abbrev Agrees : ℕ → RowName → Type 0
  Agrees n name = (k d : ℕ) → n ≤ k → n ≤ d → f k name ≡ h d name

  later : (n m : ℕ) (name : RowName) → n ≤ m → Agrees n name → Agrees m name
  later n m name le a = λ k d p q. a k d (omega arith) (omega arith)

  abbrev Low : ℕ → TableRow → Type 0
  Low t x = nat_lt x.table t ≡ true → Agrees (below t g.inserted) x.name

  candidate_same : (n k d : ℕ) → n ≤ k → n ≤ d → (row : TableRow) → AllByRecursion (λ r. Agrees n r.name) (cascade_refs rules row) → is_candidate rules g (f k) row ≡ is_candidate rules g (h d) row
  candidate_same n k d p q row a =
      ap (λ (b : Bool). b && not (is_deleted g row.name)) (all_same_on (λ r. f k r.name) (λ r. h d r.name) (cascade_refs rules row)
      (each-map (λ (r : RowRef). Agrees n r.name) (λ r. f k r.name ≡ h d r.name) (λ r x. x k d p q) (cascade_refs rules row) a))

  -- rows of a table that keeps the least rest on those of earlier tables alone
  mates : (t : ℕ) → is_none (kept_of rules t) ≡ false → (rows : List TableRow) → AllByRecursion (Low t) rows → are_resting rules rows ≡ true
      → AllByRecursion (λ o. o.table ≡ t → AllByRecursion (λ r. Agrees (below t g.inserted) r.name) (cascade_refs rules o)) rows
  mates t keeps [] b rs = tt
  mates t keeps (o ∷ older) b rs =
      let parts = and_parts (list_all (λ r. list_any (λ x. same_row x.name r.name && rests_on rules o x) older) (cascade_refs rules o)) (are_resting rules older) rs in (
        (λ same. each_found (Low t) (λ (r : RowRef). Agrees (below t g.inserted) r.name) (λ r x. same_row x.name r.name && rests_on rules o x)
            (λ r x bx e.
            let two = and_parts (same_row x.name r.name) (rests_on rules o x) e in
            let low : nat_lt x.table t ≡ true = elim (or_cases (nat_lt x.table o.table) _ two.1) [
              | inl less ↦ subst (λ (n : ℕ). nat_lt x.table n ≡ true) same less
              | inr own ↦ absurd (both_ways _ (subst (λ (n : ℕ). is_none (kept_of rules n) ≡ false) (sym same) keeps) (and_parts (x.table == o.table) _ own).1)
            ] in
            subst (λ (n : RowName). Agrees (below t g.inserted) n) (row_from_same x.name r.name two.0) (bx low))
            older b.1 (cascade_refs rules o) parts.0),
        mates t keeps older b.1 parts.1,
      )

  least_same : (t : ℕ) → AllByRecursion (Low t) g.inserted → (e : TableRow) → e.table ≡ t → (o : Option ℕ) → kept_of rules t ≡ o → (k d : ℕ) → below t g.inserted ≤ k → below t g.inserted ≤ d
      → is_least_in rules g (f k) e o ≡ is_least_in rules g (h d) e o
  least_same t low e same None is k d p q = refl
  least_same t low e same (Some column) is k d p q =
      ap not (any_same_on (λ other. goes_before column e other && is_candidate rules g (f k) other) (λ other. goes_before column e other && is_candidate rules g (h d) other) g.inserted
      (each-map (λ o. o.table ≡ t → AllByRecursion (λ r. Agrees (below t g.inserted) r.name) (cascade_refs rules o)) _
      (λ other m.
      let step : (b : Bool) → (other.table == e.table) ≡ b
      → ((b && compares Rattle.row_check.specs.declared.cmp.Cmp.TheVariants.Eq (value_at e.values column) (value_at other.values column)
      && Rattle.std.specs.Ordering.is_lt (Rattle.table_model.specs.Visible.name_cmp other.name e.name)) && is_candidate rules g (f k) other)
      ≡ ((b && compares Rattle.row_check.specs.declared.cmp.Cmp.TheVariants.Eq (value_at e.values column) (value_at other.values column)
      && Rattle.std.specs.Ordering.is_lt (Rattle.table_model.specs.Visible.name_cmp other.name e.name)) && is_candidate rules g (h d) other) =
      elim [
        | true ↦ λ eq. ap (λ (c : Bool). (true && compares Rattle.row_check.specs.declared.cmp.Cmp.TheVariants.Eq (value_at e.values column) (value_at other.values column)
            && Rattle.std.specs.Ordering.is_lt (Rattle.table_model.specs.Visible.name_cmp other.name e.name)) && c)
            (candidate_same (below t g.inserted) k d p q other (m (eqb-true other.table e.table eq ∙ same)))
        | false ↦ λ eq. refl
      ] in
      step (other.table == e.table) refl)
      g.inserted (mates t (ap is_none is) g.inserted low rest)))

  -- rows of one table, after those of earlier tables
  inner : (t : ℕ) → AllByRecursion (Low t) g.inserted → (rows : List TableRow) → AllByRecursion (Low t) rows → AllByRecursion (IsOne g.inserted) rows → are_resting rules rows ≡ true
      → AllByRecursion (λ e. e.table ≡ t → Agrees (below t g.inserted + within t rows) e.name) rows
  inner t low [] b s rs = tt
  inner t low (e ∷ older) b s rs =
      let parts = and_parts (list_all (λ r. list_any (λ x. same_row x.name r.name && rests_on rules e x) older) (cascade_refs rules e)) (are_resting rules older) rs in
      let before = inner t low older b.1 s.1 parts.1 in
      let n = below t g.inserted + within t older in
      let refs : e.table ≡ t → AllByRecursion (λ r. Agrees n r.name) (cascade_refs rules e) = λ same.
      each_found (λ x. Low t x × (x.table ≡ t → Agrees n x.name)) (λ (r : RowRef). Agrees n r.name) (λ r x. same_row x.name r.name && rests_on rules e x)
      (λ r x bx eq.
      let two = and_parts (same_row x.name r.name) (rests_on rules e x) eq in
      let agree : Agrees n x.name = elim (or_cases (nat_lt x.table e.table) _ two.1) [
        | inl less ↦ later (below t g.inserted) n x.name (omega arith) (bx.0 (subst (λ (m : ℕ). nat_lt x.table m ≡ true) same less))
        | inr own ↦ bx.1 (eqb-true x.table e.table (and_parts (x.table == e.table) _ own).0 ∙ same)
      ] in
      subst (λ (m : RowName). Agrees n m) (row_from_same x.name r.name two.0) agree)
      older (each_both (Low t) (λ x. x.table ≡ t → Agrees n x.name) _ (λ x p q. (p, q)) older b.1 before) (cascade_refs rules e) parts.0 in
      let first : e.table ≡ t → Agrees (below t g.inserted + within t (e ∷ older)) e.name = λ same.
      let one : one_if (e.table == t) ≡ 1 = ap one_if (eq-eqb e.table t same) in
      let step : (k d : ℕ) → n ≤ k → n ≤ d → shows rules g (f k) e.name ≡ shows rules g (h d) e.name = λ k d p q.
      shows_one rules g (f k) e s.0
      ∙ ap₂ (λ a b. a && b) (candidate_same n k d p q e (refs same))
      (subst (λ (m : ℕ). is_least_in rules g (f k) e (kept_of rules m) ≡ is_least_in rules g (h d) e (kept_of rules m)) (sym same)
      (least_same t low e same (kept_of rules t) refl k d (omega arith) (omega arith)))
      ∙ sym (shows_one rules g (h d) e s.0) in
      let go : (k d : ℕ) → below t g.inserted + within t (e ∷ older) ≤ k → below t g.inserted + within t (e ∷ older) ≤ d → f k e.name ≡ h d e.name = elim [
        | zero ↦ λ d p q. absurd (omega arith)
        | suc k ↦ elim [
          | zero ↦ λ p q. absurd (omega arith)
          | suc d ↦ λ p q. fs k e.name ∙ step k d (omega arith) (omega arith) ∙ sym (hs d e.name)
        ]
      ] in
      go in (
        first,
        each-map (λ x. x.table ≡ t → Agrees n x.name) (λ x. x.table ≡ t → Agrees (below t g.inserted + within t (e ∷ older)) x.name)
            (λ x a same. later n _ x.name (omega arith) (a same)) older before,
      )

  lows : (t : ℕ) → AllByRecursion (Low t) g.inserted
  lows zero = each-map (IsOne g.inserted) (Low zero) (λ x s e. absurd (let low = ltb-true x.table 0 e in omega arith)) g.inserted ones
  lows (suc t) =
      let low = lows t in
      let more = below-suc t g.inserted in
      each_both (Low t) (λ x. x.table ≡ t → Agrees (below t g.inserted + within t g.inserted) x.name) (Low (suc t))
      (λ x a b e.
      let step : (c : Bool) → nat_lt x.table t ≡ c → Agrees (below (suc t) g.inserted) x.name = elim [
        | true ↦ λ less. later (below t g.inserted) _ x.name (omega arith) (a less)
        | false ↦ λ more_than. later (below t g.inserted + within t g.inserted) _ x.name (omega arith)
            (b (let up = ltb-true x.table (suc t) e in let no = Rattle.std.proofs.lemmas.Bool.ltb-false x.table t more_than in omega arith))
      ] in
      step (nat_lt x.table t) refl)
      g.inserted low (inner t low g.inserted low ones rest)

  pub agrees : (name : RowName) → list_any (λ x. same_row x.name name) g.inserted ≡ true → (k d : ℕ) → length g.inserted ≤ k → length g.inserted ≤ d → f k name ≡ h d name
  agrees name there =
      any_gives ((k d : ℕ) → length g.inserted ≤ k → length g.inserted ≤ d → f k name ≡ h d name) (λ x. Low (suc x.table) x) (λ x. same_row x.name name)
      (λ x low e k d p q.
      let le = below-low (suc x.table) g.inserted in
      let at : f k x.name ≡ h d x.name = low (lt-ltb x.table (suc x.table) (omega arith)) k d (omega arith) (omega arith) in
      subst (λ (n : RowName). f k n ≡ h d n) (row_from_same x.name name e) at)
      g.inserted (each_own Low (λ (x : TableRow). suc x.table) g.inserted lows) there

-- ---- one answer

module _ (rules : Rules) (g : Effects) (ones : AllByRecursion (IsOne g.inserted) g.inserted) (rest : are_resting rules g.inserted ≡ true) where
  visible_none : (name : RowName) → list_any (λ row. same_row row.name name) g.inserted ≡ false → (k : ℕ) → visible_to rules g k name ≡ false
  unfolding visible_to
  visible_none name none zero = refl
  visible_none name none (suc k) = shows_none rules g (visible_to rules g k) name none

  -- a row is visible exactly where it is a candidate, and no other one goes before it
  pub visible_is : (name : RowName) → is_visible rules g name ≡ shows rules g (is_visible rules g) name
  unfolding visible_to
  visible_is name =
      let step : (b : Bool) → list_any (λ row. same_row row.name name) g.inserted ≡ b → is_visible rules g name ≡ shows rules g (is_visible rules g) name = elim [
        | true ↦ λ there. agrees rules g (visible_to rules g) (visible_to rules g) (λ k n. refl) (λ k n. refl) ones rest name there (length g.inserted) (suc (length g.inserted)) (omega arith) (omega arith)
        | false ↦ λ none. visible_none name none (length g.inserted) ∙ sym (shows_none rules g (is_visible rules g) name none)
      ] in
      step (list_any (λ row. same_row row.name name) g.inserted) refl

  -- and whatever is so of each name is which rows are visible
  pub visible_only : (seen : RowName → Bool) → ((name : RowName) → seen name ≡ shows rules g seen name) → (name : RowName) → seen name ≡ is_visible rules g name
  unfolding visible_to
  visible_only seen is name =
      let step : (b : Bool) → list_any (λ row. same_row row.name name) g.inserted ≡ b → seen name ≡ is_visible rules g name = elim [
        | true ↦ λ there. agrees rules g (λ k. seen) (visible_to rules g) (λ k n. is n) (λ k n. refl) ones rest name there (length g.inserted) (length g.inserted) (omega arith) (omega arith)
        | false ↦ λ none. is name ∙ shows_none rules g seen name none ∙ sym (visible_none name none (length g.inserted))
      ] in
      step (list_any (λ row. same_row row.name name) g.inserted) refl

  -- what is known of a visible row
  pub visible_parts : (e : TableRow) → IsOne g.inserted e → is_visible rules g e.name ≡ true → (is_candidate rules g (is_visible rules g) e ≡ true) × (is_least rules g (is_visible rules g) e ≡ true)
  visible_parts e s h = and_parts (is_candidate rules g (is_visible rules g) e) _ (sym (shows_one rules g (is_visible rules g) e s) ∙ sym (visible_is e.name) ∙ h)

  pub visible_from : (e : TableRow) → IsOne g.inserted e → is_candidate rules g (is_visible rules g) e ≡ true → is_least rules g (is_visible rules g) e ≡ true → is_visible rules g e.name ≡ true
  visible_from e s a b = visible_is e.name ∙ shows_one rules g (is_visible rules g) e s ∙ and_from _ _ a b

  -- a visible row's CASCADE targets are visible
  pub targets_visible : (e : TableRow) → IsOne g.inserted e → is_visible rules g e.name ≡ true → list_all (λ r. is_visible rules g r.name) (cascade_refs rules e) ≡ true
  targets_visible e s h = (and_parts _ (not (is_deleted g e.name)) (visible_parts e s h).0).0

  -- what is deleted is not visible
  pub gone_hidden : (name : RowName) → is_deleted g name ≡ true → is_visible rules g name ≡ false
  gone_hidden name gone =
      false_from_ne_true _ (λ v.
      any_gives ⊥ (IsOne g.inserted) (λ row. same_row row.name name && (is_candidate rules g (is_visible rules g) row && is_least rules g (is_visible rules g) row))
      (λ row one k.
      let two = and_parts (same_row row.name name) _ k in
      let candidate = and_parts (is_candidate rules g (is_visible rules g) row) _ two.1 in
      let stays : not (is_deleted g name) ≡ true = subst (λ (n : RowName). not (is_deleted g n) ≡ true) (row_from_same row.name name two.0) (and_parts (list_all (λ r. is_visible rules g r.name) (cascade_refs rules row)) _ candidate.0).1 in
      both_ways _ (not-true _ stays) gone)
      g.inserted ones (sym (visible_is name) ∙ v))
