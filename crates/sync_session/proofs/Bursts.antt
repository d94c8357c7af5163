-- What an end sends unasked: the members that a peer's summary lacks, and those above them.
use Rattle.std.proofs.Common.{◌≡◌, inl, inr, Bool, true, false, not, ◌||◌, List, [], ◌∷◌, ◌++◌, Contains, refl, sym, ap, subst, ◌∙◌}
use Rattle.std.specs.List.{list_any, AllByRecursion}
use Rattle.std.proofs.lemmas.List.Elements.{recursion_from_All, Contains-append_left, Contains-append_cases}
use Rattle.update_model.specs.declared.update_id.UpdateId.{UpdateId}
use Rattle.update_model.specs.Entry.{Entry, same_id}
use Rattle.update_model.specs.Graph.{has, holds, Follows, IsClosed, IsAncestor, named, through}
use Rattle.update_model.specs.Since.{Picks, IsBehind, AreSince}
use Rattle.update_model.proofs.Heads.{witness, any_from_member}
use Rattle.update_model.proofs.Ids.{same_id-refl}
use Rattle.session_rules.proofs.Bounds.{or_parts}
use Rattle.session_rules.proofs.Held.{held_member, held_witness, has_witness, has_member, later_differs}
use Rattle.session_rules.proofs.Sends.{picks_within}
use Rattle.session_rules.proofs.Words.{or_cases, cons_cases, first_member, later_member, each_member, not_true}
use Rattle.session_rules.specs.Burst.{IsUnknown}

-- ---- picking

-- what is picked passes
pub picks_hold : {X : Type 0} (P : X → Type 0) (xs out : List X) → Picks P xs out → AllByRecursion P out
picks_hold P [] out is = rw is tt
picks_hold P (x ∷ xs) out (inl k) = rw k.1.1 (k.0, picks_hold P xs k.1.0 k.1.2)
picks_hold P (x ∷ xs) out (inr k) = picks_hold P xs out k.1

-- what passes is picked
pub picks_all : {X : Type 0} (P : X → Type 0) (xs out : List X) (e : X) → Picks P xs out → Contains xs e → P e → Contains out e
picks_all P [] out e is c p = rw is c
picks_all P (x ∷ xs) out e (inl k) c p = rw k.1.1 (elim (cons_cases x xs e c) [
  | inl is ↦ subst (λ (y : _). Contains (x ∷ k.1.0) y) is (first_member x k.1.0)
  | inr later ↦ later_member x k.1.0 e (picks_all P xs k.1.0 e k.1.2 later p)
])
picks_all P (x ∷ xs) out e (inr k) c p = elim (cons_cases x xs e c) [
  | inl is ↦ absurd (k.0 (subst P (sym is) p))
  | inr later ↦ picks_all P xs out e k.1 later p
]

-- one more that passes, and one that does not
pub picks_in : {X : Type 0} (P : X → Type 0) (xs out : List X) (x : X) → Picks P xs out → P x → Picks P (xs ++ x ∷ []) (out ++ x ∷ [])
picks_in P [] out x is p = inl (p, ([], ap (λ ys. ys ++ x ∷ []) is, refl))
picks_in P (y ∷ xs) out x (inl k) p = inl (k.0, (k.1.0 ++ x ∷ [], ap (λ ys. ys ++ x ∷ []) k.1.1, picks_in P xs k.1.0 x k.1.2 p))
picks_in P (y ∷ xs) out x (inr k) p = inr (k.0, picks_in P xs out x k.1 p)

pub picks_out : {X : Type 0} (P : X → Type 0) (xs out : List X) (x : X) → Picks P xs out → ¬ (P x) → Picks P (xs ++ x ∷ []) out
picks_out P [] out x is p = inr (p, is)
picks_out P (y ∷ xs) out x (inl k) p = inl (k.0, (k.1.0, k.1.1, picks_out P xs k.1.0 x k.1.2 p))
picks_out P (y ∷ xs) out x (inr k) p = inr (k.0, picks_out P xs out x k.1 p)

-- ---- order

-- a predecessor does not stand at its successor's place or later
no_later : (P : Entry → Type 0) (before es since : List Entry) → Follows before es → Picks P es since → (pre post : List Entry) (x : Entry) → since ≡ pre ++ x ∷ post
    → (m : Entry) → Contains (x ∷ post) m → has x.preds m.id ≡ true → ⊥
no_later P before [] since f is [] post x split m c h = let never : [] ≡ x ∷ post = sym is ∙ split in absurd (cc)
no_later P before [] since f is (y ∷ pre) post x split m c h = let never : [] ≡ y ∷ (pre ++ x ∷ post) = sym is ∙ split in absurd (cc)
no_later P before (e ∷ es) since f (inr k) pre post x split m c h = no_later P (before ++ e ∷ []) es since f.1 k.1 pre post x split m c h
no_later P before (e ∷ es) since f (inl k) [] post x split m c h =
    let both : e ∷ k.1.0 ≡ x ∷ post = sym k.1.1 ∙ split in
    let same : e ≡ x = cc in
    let tail : k.1.0 ≡ post = cc in
    let preds = recursion_from_All (λ p. holds before p ≡ true) e.preds f.0.preds in
    let early : holds before m.id ≡ true = each_member (λ p. holds before p ≡ true) e.preds m.id preds (has_witness e.preds m.id (subst (λ (y : Entry). has y.preds m.id ≡ true) (sym same) h)) in
    let y = held_witness before m.id early in
    let inside : Contains (e ∷ es) m = elim (cons_cases x post m c) [
      | inl is ↦ subst (λ (z : Entry). Contains (e ∷ es) z) (same ∙ is) (first_member e es)
      | inr later ↦ later_member e es m (each_member (Contains es) k.1.0 m (picks_within P es k.1.0 k.1.2) (subst (λ (zs : List Entry). Contains zs m) (sym tail) later))
    ] in
    later_differs before (e ∷ es) y.0 m f y.1 inside (subst (λ (i : UpdateId). same_id m.id i ≡ true) y.2 (same_id-refl m.id))
no_later P before (e ∷ es) since f (inl k) (z ∷ pre) post x split m c h =
    let both : e ∷ k.1.0 ≡ z ∷ (pre ++ x ∷ post) = sym k.1.1 ∙ split in
    let tail : k.1.0 ≡ pre ++ x ∷ post = cc in
    no_later P (before ++ e ∷ []) es k.1.0 f.1 k.1.2 pre post x tail m c h

-- ancestors of ancestors
ancestors_join : (graph : List Entry) (a p d : Entry) → IsAncestor graph a p → IsAncestor graph p d → IsAncestor graph a d
ancestors_join graph a p d up (named e c h) = through p d c h up
ancestors_join graph a p d up (through q e c h below) = through q d c h (ancestors_join graph a p q up below)

-- ---- the burst

module _ (graph : List Entry) (closed : IsClosed graph) (old : List UpdateId) (known : UpdateId → Bool) (since : List Entry) (is : AreSince graph old since) where
  in_graph : (e : Entry) → Contains since e → Contains graph e
  in_graph e c = each_member (Contains graph) since e (picks_within (λ (m : Entry). ¬ (IsBehind graph old m)) graph since is) c

  -- what stands above a new member is new
  above_new : (a p : Entry) → Contains since a → Contains graph p → IsAncestor graph a p → Contains since p
  above_new a p ca cp up = picks_all (λ (m : Entry). ¬ (IsBehind graph old m)) graph since p is cp new
    where
      not_old : ¬ (IsBehind graph old a)
      not_old = each_member (λ (m : Entry). ¬ (IsBehind graph old m)) since a (picks_hold (λ (m : Entry). ¬ (IsBehind graph old m)) graph since is) ca

      new : ¬ (IsBehind graph old p)
      new (inl h) = not_old (inr (p, cp, h, up))
      new (inr d) = not_old (inr (d.0, d.1, d.2, ancestors_join graph a p d.0 up d.3))

  -- a new predecessor stands before
  stands_before : (pre post : List Entry) (x m : Entry) → since ≡ pre ++ x ∷ post → Contains since m → has x.preds m.id ≡ true → Contains pre m
  stands_before pre post x m split c h = elim (Contains-append_cases pre (x ∷ post) m (subst (λ (es : List Entry). Contains es m) split c)) [
    | inl early ↦ early
    | inr late ↦ absurd (no_later (λ (e : Entry). ¬ (IsBehind graph old e)) [] graph since closed is pre post x split m late h)
  ]

  -- the test of the code
  pub passes : (pre post out : List Entry) (x : Entry) → since ≡ pre ++ x ∷ post → Picks (IsUnknown graph known since) pre out
      → (not (known x.id) || list_any (holds out) x.preds) ≡ true → IsUnknown graph known since x
  passes pre post out x split picks t = elim (or_cases (not (known x.id)) (list_any (holds out) x.preds) t) [
    | inl lacks ↦ inl (not_true (known x.id) lacks)
    | inr below ↦ through_pred (witness (holds out) x.preds below)
  ]
    where
      through_pred : (p : UpdateId) × Contains x.preds p × (holds out p ≡ true) → IsUnknown graph known since x
      through_pred p =
          let b = held_witness out p.0 p.2 in
          let named_b : has x.preds b.0.id ≡ true = has_member x.preds b.0.id (subst (λ (i : UpdateId). Contains x.preds i) b.2 p.1) in
          let in_pre = each_member (Contains pre) out b.0 (picks_within (IsUnknown graph known since) pre out picks) b.1 in
          let in_since : Contains since b.0 = subst (λ (es : List Entry). Contains es b.0) (sym split) (Contains-append_left pre (x ∷ post) b.0 in_pre) in
          elim (each_member (IsUnknown graph known since) out b.0 (picks_hold (IsUnknown graph known since) pre out picks) b.1) [
            | inl lacks ↦ inr (b.0, in_since, lacks, named x (in_graph b.0 in_since) named_b)
            | inr a ↦ inr (a.0, a.1, a.2, through b.0 x (in_graph b.0 in_since) named_b a.3)
          ]

  pub fails : (pre post out : List Entry) (x : Entry) → since ≡ pre ++ x ∷ post → Picks (IsUnknown graph known since) pre out
      → (not (known x.id) || list_any (holds out) x.preds) ≡ false → ¬ (IsUnknown graph known since x)
  fails pre post out x split picks t (inl lacks) = let none = (or_parts (not (known x.id)) (list_any (holds out) x.preds) t).0 in let some : not (known x.id) ≡ true = ap not lacks in absurd (cc)
  fails pre post out x split picks t (inr a) = by_step a.0 x refl a.1 a.2 a.3
    where
      met : (m : Entry) → Contains since m → has x.preds m.id ≡ true → IsUnknown graph known since m → ⊥
      met m c h unknown =
          let there : holds out m.id ≡ true = held_member out m (picks_all (IsUnknown graph known since) pre out m picks (stands_before pre post x m split c h) unknown) in
          let some : list_any (holds out) x.preds ≡ true = any_from_member (holds out) x.preds m.id (has_witness x.preds m.id h) there in
          let none = (or_parts (not (known x.id)) (list_any (holds out) x.preds) t).1 in
          absurd (cc)

      by_step : (m y : Entry) → y ≡ x → Contains since m → known m.id ≡ false → IsAncestor graph m y → ⊥
      by_step m y same c lacks (named e cg h) = met m c (subst (λ (z : Entry). has z.preds m.id ≡ true) same h) (inl lacks)
      by_step m y same c lacks (through p e cp h up) = met p (above_new m p c cp up) (subst (λ (z : Entry). has z.preds p.id ≡ true) same h) (inr (m, c, lacks, up))
