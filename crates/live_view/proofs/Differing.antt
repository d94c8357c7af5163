-- Changes between rising lists.
use Rattle.std.proofs.Common.{◌≡◌, ◌⊎◌, inl, inr, List, [], ◌∷◌, refl, sym, ◌∙◌, ap, subst}
use Rattle.std.specs.Prelude.{◌↔◌}
use Rattle.std.specs.List.{Contains}
use Rattle.std.specs.List.Sorted.{IsStrictlySortedBy}
use Rattle.std.specs.declared.cmp.Ordering.TheVariants.{Less}
use Rattle.live_view.specs.Changes.{AreMissing, IsChange, IsChanged, Line}
use Rattle.live_view.specs.declared.change.Change.{Change}
use Rattle.live_view.specs.Named.{RiseByName, named_cmp}
use Rattle.live_view.proofs.Those.{here, there, one_of, none_of, in_all, not_both, not_before_itself}

-- a line that is missing is none of the others
missing_apart : (others lines missing : List Line) (line : Line) → AreMissing others lines missing → Contains missing line → Contains lines line × (Contains others line → ⊥)
missing_apart others [] missing line is has = absurd (none_of line (subst (λ (l : List Line). Contains l line) is has))
missing_apart others (x ∷ lines) missing line (inl lost) has = elim (one_of x line lost.1.0 (subst (λ (l : List Line). Contains l line) lost.1.1 has)) [
  | inl same ↦ (subst (Contains (x ∷ lines)) same (here x lines), λ among. lost.0 (subst (Contains others) (sym same) among))
  | inr later ↦ let rest = missing_apart others lines lost.1.0 line lost.1.2 later in (there x line lines rest.0, rest.1)
]
missing_apart others (x ∷ lines) missing line (inr kept) has = let rest = missing_apart others lines missing line kept.1 has in (there x line lines rest.0, rest.1)

-- each line is missing or one of the others
pub missing_or : (others lines missing : List Line) (line : Line) → AreMissing others lines missing → Contains lines line → Contains missing line ⊎ Contains others line
missing_or others [] missing line is has = absurd (none_of line has)
missing_or others (x ∷ lines) missing line (inl lost) has = elim (one_of x line lines has) [
  | inl same ↦ inl (subst (λ (l : List Line). Contains l line) (sym lost.1.1) (subst (Contains (x ∷ lost.1.0)) same (here x lost.1.0)))
  | inr later ↦ elim (missing_or others lines lost.1.0 line lost.1.2 later) [
    | inl miss ↦ inl (subst (λ (l : List Line). Contains l line) (sym lost.1.1) (there x line lost.1.0 miss))
    | inr other ↦ inr other
  ]
]
missing_or others (x ∷ lines) missing line (inr kept) has = elim (one_of x line lines has) [
  | inl same ↦ inr (subst (Contains others) same kept.0)
  | inr later ↦ missing_or others lines missing line kept.1 later
]

pub one_missing : (others lines a b : List Line) → AreMissing others lines a → AreMissing others lines b → a ≡ b
one_missing others [] a b first second = first ∙ sym second
one_missing others (x ∷ lines) a b (inl lost) (inl gone) =
    lost.1.1 ∙ ap (λ (l : List Line). x ∷ l) (one_missing others lines lost.1.0 gone.1.0 lost.1.2 gone.1.2) ∙ sym gone.1.1
one_missing others (x ∷ lines) a b (inl lost) (inr kept) = absurd (lost.0 kept.0)
one_missing others (x ∷ lines) a b (inr kept) (inl lost) = absurd (lost.0 kept.0)
one_missing others (x ∷ lines) a b (inr kept) (inr held) = one_missing others lines a b kept.1 held.1

pub one_change : (before after : List Line) (change other : Change) → IsChange before after change → IsChange before after other → change ≡ other
one_change before after change other a b =
    of_parts change other (one_missing after before change.went other.went a.went b.went) (one_missing before after change.came other.came a.came b.came)
  where
    of_parts : (x y : Change) → x.went ≡ y.went → x.came ≡ y.came → x ≡ y
    of_parts x y e1 e2 = λ i. record { went = e1 i; came = e2 i }

pub makes : (before after : List Line) (change : Change) → RiseByName after → IsChange before after change → IsChanged before change after
makes before after change rising is = record { rising = rising; lines = λ line. (to line, from line) }
  where
    to : (line : Line) → Contains after line → (Contains before line × (Contains change.went line → ⊥)) ⊎ Contains change.came line
    to line has = elim (missing_or before after change.came line is.came has) [
      | inl came ↦ inr came
      | inr old ↦ inl (old, λ went. (missing_apart after before change.went line is.went went).1 has)
    ]

    from : (line : Line) → (Contains before line × (Contains change.went line → ⊥)) ⊎ Contains change.came line → Contains after line
    from line (inr came) = (missing_apart before after change.came line is.came came).0
    from line (inl stayed) = elim (missing_or after before change.went line is.went stayed.0) [
      | inl went ↦ absurd (stayed.1 went)
      | inr new ↦ new
    ]

-- rising lists of the same lines
same_first : (x y : Line) (xs ys : List Line) → RiseByName (x ∷ xs) → RiseByName (y ∷ ys) → Contains (y ∷ ys) x → Contains (x ∷ xs) y → x ≡ y
unfolding IsStrictlySortedBy
same_first x y xs ys a b has held = elim (one_of y x ys has) [
  | inl same ↦ sym same
  | inr later ↦ elim (one_of x y xs held) [
    | inl same ↦ same
    | inr behind ↦ absurd (not_both x y (in_all (λ z. named_cmp x z ≡ Less) xs y a.0 behind) (in_all (λ z. named_cmp y z ≡ Less) ys x b.0 later))
  ]
]

rest_in : (x : Line) (xs ys : List Line) (line : Line) → RiseByName (x ∷ xs) → ((z : Line) → Contains (x ∷ xs) z → Contains (x ∷ ys) z) → Contains xs line → Contains ys line
unfolding IsStrictlySortedBy
rest_in x xs ys line rising all has = elim (one_of x line ys (all line (there x line xs has))) [
  | inl same ↦ absurd (not_before_itself line (subst (λ (z : Line). named_cmp z line ≡ Less) same (in_all (λ z. named_cmp x z ≡ Less) xs line rising.0 has)))
  | inr later ↦ later
]

pub one_rising : (xs ys : List Line) → RiseByName xs → RiseByName ys → ((z : Line) → Contains xs z → Contains ys z) → ((z : Line) → Contains ys z → Contains xs z) → xs ≡ ys
unfolding IsStrictlySortedBy
one_rising [] [] a b to from = refl
one_rising [] (y ∷ ys) a b to from = absurd (none_of y (from y (here y ys)))
one_rising (x ∷ xs) [] a b to from = absurd (none_of x (to x (here x xs)))
one_rising (x ∷ xs) (y ∷ ys) a b to from =
    let same : x ≡ y = same_first x y xs ys a b (to x (here x xs)) (from y (here y ys)) in
    let b2 : RiseByName (x ∷ ys) = subst (λ (z : Line). RiseByName (z ∷ ys)) (sym same) b in
    let to2 : (z : Line) → Contains (x ∷ xs) z → Contains (x ∷ ys) z = λ z has. subst (λ (w : Line). Contains (w ∷ ys) z) (sym same) (to z has) in
    let from2 : (z : Line) → Contains (x ∷ ys) z → Contains (x ∷ xs) z = λ z has. from z (subst (λ (w : Line). Contains (w ∷ ys) z) same has) in
    let rest : xs ≡ ys = one_rising xs ys a.1 b2.1 (λ z has. rest_in x xs ys z a to2 has) (λ z has. rest_in x ys xs z b2 from2 has) in
    λ i. same i ∷ rest i

pub one_made : (before after other : List Line) (change : Change) → IsChanged before change after → IsChanged before change other → after ≡ other
one_made before after other change a b =
    one_rising after other a.rising b.rising (λ z has. (b.lines z).1 ((a.lines z).0 has)) (λ z has. (a.lines z).1 ((b.lines z).0 has))
