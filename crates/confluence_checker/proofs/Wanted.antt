-- What is found of the wanted invariant, and whether a counterexample confirms.
use Rattle.std.proofs.Common.{◌≡◌, Bool, true, false, not, ◌&&◌, List, [], ◌∷◌, ◌++◌, reverse, refl, sym, ap, ◌∙◌, subst, Some, None}
use Rattle.std.specs.List.{list_all, AllByRecursion}
use Rattle.std.proofs.lemmas.Bool.{and_parts}
use Rattle.std.proofs.lemmas.List.{reverse-append}
use Rattle.std.proofs.lemmas.List.Folds.{list_all-append, list_all-map}
use Rattle.update_model.specs.Node.{NodeData}
use Rattle.table_model.specs.declared.counterexample.Counterexample.{Counterexample}
use Rattle.table_model.specs.declared.invariant.Invariant.{Invariant}
use Rattle.confluence_laws.specs.Confluence.{confirms, is_closed}
use Rattle.table_model.specs.Invariants.{Claim, Declared, claim_holds, claims_of, invariants_of, satisfies, shown_in}
use Rattle.table_model.specs.Nodes.{IsClosed}
use Rattle.table_model.specs.Visible.{Rules, TableRow}
use Rattle.confluence_laws.proofs.Confirmed.{closed_from_test}
use Rattle.confluence_checker.specs.declared.found.FoundInvariant.{FoundInvariant}
use Rattle.confluence_checker.specs.Forms.{breaks_by, found_among, is_broken, is_kept, is_same, seen, start}
use Rattle.confluence_checker.proofs.Goings.{found_append}
use Rattle.confluence_checker.proofs.Splits.{Apart, earlier_differ, invariants_apart, same_itself}

module _ (rules : Rules) (rows : List TableRow) (which : Invariant) where
  abbrev holds : Declared → Bool
  holds d = claim_holds rules rows d.claim

  joins : (a b c : Bool) → (a && b && c) ≡ (a && (b && c))
  joins true b c = refl
  joins false b c = refl

  -- none of these is the wanted one
  found_earlier : (b : Bool) (ds : List Declared) → AllByRecursion (λ e. is_same e.which which ≡ false) ds
      → found_among rules rows which ds (record { earlier = b; here = None }) ≡ record { earlier = b && list_all holds ds; here = None }
  found_earlier b [] h = ap (λ (x : Bool). record { earlier = x; here = None }) (ends b)
    where
      ends : (x : Bool) → x ≡ (x && true)
      ends true = refl
      ends false = refl
  found_earlier b (d ∷ ds) h =
      ap (λ (w : Bool). found_among rules rows which ds (seen (record { earlier = b; here = None }) w (holds d))) h.0
      ∙ found_earlier (b && holds d) ds h.1 ∙ ap (λ (x : Bool). record { earlier = x; here = None }) (joins b (holds d) (list_all holds ds))

  -- nothing changes after it
  found_late : (b x : Bool) (ds : List Declared) → found_among rules rows which ds (record { earlier = b; here = Some x }) ≡ record { earlier = b; here = Some x }
  found_late b x [] = refl
  found_late b x (d ∷ ds) = found_late b x ds

  found_split : (earlier later : List Declared) (d : Declared) → Apart (earlier ++ d ∷ later) → d.which ≡ which
      → found_among rules rows which (earlier ++ d ∷ later) start ≡ record { earlier = list_all holds earlier; here = Some (holds d) }
  found_split earlier later d apart same =
      found_append rules rows which earlier (d ∷ later) start
      ∙ ap (found_among rules rows which (d ∷ later)) (found_earlier true earlier (subst (λ (w : Invariant). AllByRecursion (λ e. is_same e.which w ≡ false) earlier) same (earlier_differ earlier later d apart)))
      ∙ ap (λ (w : Bool). found_among rules rows which later (seen (record { earlier = list_all holds earlier; here = None }) w (holds d)))
      (ap (is_same d.which) (sym same) ∙ same_itself d.which)
      ∙ found_late (list_all holds earlier) (holds d) later

  last_too : (a b : Bool) → (a && b) ≡ (a && (b && true))
  last_too true true = refl
  last_too true false = refl
  last_too false b = refl

  pub kept_is : (earlier later : List Declared) (d : Declared) (found : FoundInvariant) → invariants_of rules ≡ earlier ++ d ∷ later → d.which ≡ which
      → found ≡ found_among rules rows which (invariants_of rules) start → is_kept found ≡ list_all (claim_holds rules rows) (claims_of earlier ++ d.claim ∷ [])
  kept_is earlier later d found split same is =
      ap is_kept (is ∙ ap (λ l. found_among rules rows which l start) split ∙ found_split earlier later d (subst Apart split (invariants_apart rules)) same)
      ∙ last_too (list_all holds earlier) (holds d)
      ∙ sym (list_all-append (claim_holds rules rows) (claims_of earlier) (d.claim ∷ []) ∙ ap (λ (b : Bool). b && (holds d && true)) (list_all-map (claim_holds rules rows) (λ (e : Declared). e.claim) earlier))

  pub broken_is : (earlier later : List Declared) (d : Declared) (found : FoundInvariant) → invariants_of rules ≡ earlier ++ d ∷ later → d.which ≡ which
      → found ≡ found_among rules rows which (invariants_of rules) start → is_broken found ≡ not (holds d)
  broken_is earlier later d found split same is =
      ap is_broken (is ∙ ap (λ l. found_among rules rows which l start) split ∙ found_split earlier later d (subst Apart split (invariants_apart rules)) same)

-- the two sides and their union, newest first
pub sides : (base left nodes : List NodeData) → nodes ≡ base ++ left → reverse nodes ≡ reverse left ++ reverse base
sides base left nodes is = ap reverse is ∙ reverse-append base left

pub union_of : (base left right one nodes : List NodeData) → one ≡ base ++ left → nodes ≡ one ++ right → reverse nodes ≡ reverse right ++ (reverse left ++ reverse base)
union_of base left right one nodes first is = ap reverse is ∙ reverse-append one right ∙ ap (λ l. reverse right ++ l) (sides base left one first)

-- what confirms, by the lists that are looked at
pub confirms_by : (rules : Rules) (earlier : List Claim) (claim : Claim) (example : Counterexample) (left right both : List NodeData)
    → left ≡ example.base ++ example.left → right ≡ example.base ++ example.right → both ≡ left ++ example.right
    → breaks_by rules earlier claim left right both ≡ confirms rules earlier claim example
confirms_by rules earlier claim example left right both l r b =
    let x = sides example.base example.left left l in
    let y = sides example.base example.right right r in
    let z = union_of example.base example.left example.right left both l b in
    λ i. is_closed (x i) && is_closed (y i) && is_closed (z i) && satisfies rules (x i) (earlier ++ claim ∷ []) && satisfies rules (y i) (earlier ++ claim ∷ [])
    && not (claim_holds rules (shown_in rules (z i)) claim)

pub closed_sides : (left right both : List NodeData) → (is_closed (reverse left) && is_closed (reverse right) && is_closed (reverse both)) ≡ true
    → IsClosed (reverse left) × IsClosed (reverse right) × IsClosed (reverse both)
closed_sides left right both h =
    let two = and_parts (is_closed (reverse left) && is_closed (reverse right)) (is_closed (reverse both)) h in
    let one = and_parts (is_closed (reverse left)) (is_closed (reverse right)) two.0 in
    (closed_from_test (reverse left) one.0, closed_from_test (reverse right) one.1, closed_from_test (reverse both) two.1)

-- what is found in closed lists
pub breaks_found : (rules : Rules) (which : Invariant) (earlier later : List Declared) (d : Declared) (left right both : List NodeData) (x y z : FoundInvariant)
    → invariants_of rules ≡ earlier ++ d ∷ later → d.which ≡ which
    → (is_closed (reverse left) && is_closed (reverse right) && is_closed (reverse both)) ≡ true
    → x ≡ found_among rules (shown_in rules (reverse left)) which (invariants_of rules) start → y ≡ found_among rules (shown_in rules (reverse right)) which (invariants_of rules) start
    → z ≡ found_among rules (shown_in rules (reverse both)) which (invariants_of rules) start
    → (is_kept x && is_kept y && is_broken z) ≡ breaks_by rules (claims_of earlier) d.claim left right both
breaks_found rules which earlier later d left right both x y z split same closed hx hy hz =
    let kx = kept_is rules (shown_in rules (reverse left)) which earlier later d x split same hx in
    let ky = kept_is rules (shown_in rules (reverse right)) which earlier later d y split same hy in
    let kz = broken_is rules (shown_in rules (reverse both)) which earlier later d z split same hz in
    (λ i. kx i && ky i && kz i)
    ∙ sym (ap (λ (b : Bool). b && satisfies rules (reverse left) (claims_of earlier ++ d.claim ∷ []) && satisfies rules (reverse right) (claims_of earlier ++ d.claim ∷ [])
    && not (claim_holds rules (shown_in rules (reverse both)) d.claim)) closed)
