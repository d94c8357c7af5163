-- Going through updates finds their pair.
use Rattle.std.proofs.Common.{◌≡◌, ◌⊎◌, inl, inr, ℕ, List, [], ◌∷◌, refl, sym, ap, subst, ◌∙◌, arith, Bool, true, false, cond}
use Rattle.std.specs.Prelude.{◌≢◌, Option, Some, None, MatchOption}
use Rattle.std.specs.List.{Contains}
use Rattle.std.specs.Ordering.{is_lt, ordering_reverse}
use Rattle.std.specs.declared.cmp.Ordering.{Ordering}
use Rattle.std.specs.declared.cmp.Ordering.TheVariants.{Less, Equal, Greater}
use Rattle.std.proofs.lemmas.Bool.{true≢false}
use Rattle.std.proofs.lemmas.Slice.Eq.{bytes_eq-Decides}
use Rattle.update_model.specs.Entry.{id_cmp}
use Rattle.update_model.proofs.Ids.{id_cmp_total}
use Rattle.update_codec.specs.Parts.{id_of}
use Rattle.key_audit.specs.Doubles.{message_of}
use Rattle.key_audit.specs.Entries.{IsAny, IsLeast}
use Rattle.key_audit.proofs.Rising.{here, one_of, there}
use Rattle.key_audit.specs.Pairs.{IsFound, IsPairOf, Pair, is_less, lesser, noted, noted_in, pair_after, same_message}

IsBelow : List ℕ → List ℕ → Type 0
IsBelow a b = id_cmp (id_of a) (id_of b) ≡ Less

less_is : (o : Ordering) → is_lt o ≡ true → o ≡ Less
less_is Less e = refl
less_is Equal e = cc
less_is Greater e = cc

less_not : (o : Ordering) → is_lt o ≡ false → o ≡ Less → ⊥
less_not Less e less = cc
less_not Equal e less = cc
less_not Greater e less = cc

not_itself : (o : Ordering) → o ≡ ordering_reverse o → o ≡ Less → ⊥
not_itself Less back less = cc
not_itself Equal back less = cc
not_itself Greater back less = cc

below_itself : (a : List ℕ) → IsBelow a a → ⊥
unfolding IsBelow
below_itself a less = not_itself (id_cmp (id_of a) (id_of a)) (id_cmp_total.antisymm (id_of a) (id_of a)) less

below_then : (a b c : List ℕ) → IsBelow a b → IsBelow b c → IsBelow a c
unfolding IsBelow
below_then a b c first second = id_cmp_total.trans (id_of a) (id_of b) (id_of c) first second

same_is : (a b : List ℕ) → same_message a b ≡ true → message_of a ≡ message_of b
same_is a b e = (bytes_eq-Decides (message_of a) (message_of b)).0 e

same_not : (a b : List ℕ) → same_message a b ≡ false → message_of a ≡ message_of b → ⊥
same_not a b e same = true≢false (sym ((bytes_eq-Decides (message_of a) (message_of b)).1 same) ∙ e)

-- One update more.
More : (List ℕ → Type 0) → List ℕ → List ℕ → Type 0
More set update other = set other ⊎ (other ≡ update)

-- The second of a pair beside this first.
IsSecond : (List ℕ → Type 0) → List ℕ → Option (List ℕ) → Type 0
IsSecond set first second = MatchOption second ((other : List ℕ) → set other → message_of other ≡ message_of first) (λ found. IsLeast set (λ other. message_of other ≢ message_of first) found)

-- a new least update
least_new : (set : List ℕ → Type 0) (first update : List ℕ) → IsLeast set IsAny first → IsBelow update first → IsLeast (More set update) IsAny update
unfolding IsBelow More
least_new set first update least below = record {
  member = inr refl;
  holds = tt;
  least = λ other has any less. elim has [
    | inl old ↦ least.least other old tt (below_then other update first less below)
    | inr same ↦ below_itself update (subst (λ (x : List ℕ). IsBelow x update) same less)
  ];
}

-- the least update stays
least_stays : (set P : List ℕ → Type 0) (first update : List ℕ) → IsLeast set P first → (P update → IsBelow update first → ⊥) → IsLeast (More set update) P first
unfolding IsBelow More
least_stays set P first update least apart = record {
  member = inl least.member;
  holds = least.holds;
  least = λ other has holds less. elim has [
    | inl old ↦ least.least other old holds less
    | inr same ↦ apart (subst P same holds) (subst (λ (x : List ℕ). IsBelow x first) same less)
  ];
}

-- of one that has the same message as the first, the second stays
second_stays : (set : List ℕ → Type 0) (first update : List ℕ) (second : Option (List ℕ)) → IsSecond set first second → message_of update ≡ message_of first → IsSecond (More set update) first second
unfolding IsSecond More
second_stays set first update None all same = λ other has. elim has [
  | inl old ↦ all other old
  | inr is ↦ ap message_of is ∙ same
]
second_stays set first update (Some found) least same = least_stays set (λ other. message_of other ≢ message_of first) found update least (λ differ below. differ same)

-- beside another first with the same message
second_beside : (set : List ℕ → Type 0) (first other : List ℕ) (second : Option (List ℕ)) → IsSecond set first second → message_of other ≡ message_of first → IsSecond set other second
unfolding IsSecond
second_beside set first other None all same = λ x has. all x has ∙ sym same
second_beside set first other (Some found) least same = record {
  member = least.member;
  holds = λ is. least.holds (is ∙ same);
  least = λ x has differ. least.least x has (λ is. differ (is ∙ sym same));
}

-- the first one becomes the second
second_old : (set : List ℕ → Type 0) (first update : List ℕ) → IsLeast set IsAny first → (message_of update ≡ message_of first → ⊥) → IsLeast (More set update) (λ other. message_of other ≢ message_of update) first
unfolding More
second_old set first update least differ = record {
  member = inl least.member;
  holds = λ is. differ (sym is);
  least = λ other has apart less. elim has [
    | inl old ↦ least.least other old tt less
    | inr same ↦ apart (ap message_of same)
  ];
}

-- one that says something else
second_new : (set : List ℕ → Type 0) (first update : List ℕ) (second : Option (List ℕ)) → IsSecond set first second → (message_of update ≡ message_of first → ⊥)
    → IsLeast (More set update) (λ other. message_of other ≢ message_of first) (lesser second update)
unfolding IsSecond IsBelow More
second_new set first update None all differ = record {
  member = inr refl;
  holds = differ;
  least = λ other has apart less. elim has [
    | inl old ↦ apart (all other old)
    | inr same ↦ below_itself update (subst (λ (x : List ℕ). IsBelow x update) same less)
  ];
}
second_new set first update (Some found) least differ = by (is_less update found) refl
  where
    by : (b : Bool) → is_less update found ≡ b → IsLeast (More set update) (λ other. message_of other ≢ message_of first) (cond b update found)
    by true e = record {
      member = inr refl;
      holds = differ;
      least = λ other has apart less. elim has [
        | inl old ↦ least.least other old apart (below_then other update found less (less_is (id_cmp (id_of update) (id_of found)) e))
        | inr same ↦ below_itself update (subst (λ (x : List ℕ). IsBelow x update) same less)
      ];
    }
    by false e = least_stays set (λ other. message_of other ≢ message_of first) found update least (λ apart below. less_not (id_cmp (id_of update) (id_of found)) e below)

pair_first : (set : List ℕ → Type 0) (update : List ℕ) → ((other : List ℕ) → set other → ⊥) → IsPairOf (More set update) (record { first = update; second = None })
unfolding More IsBelow
pair_first set update none = record {
  first = record {
    member = inr refl;
    holds = tt;
    least = λ other has any less. elim has [
      | inl old ↦ none other old
      | inr same ↦ below_itself update (subst (λ (x : List ℕ). IsBelow x update) same less)
    ];
  };
  second = λ other has. elim has [
    | inl old ↦ absurd (none other old)
    | inr same ↦ ap message_of same
  ];
}

pair_next : (set : List ℕ → Type 0) (pair : Pair) (update : List ℕ) → IsPairOf set pair → IsPairOf (More set update) (noted_in pair update)
unfolding IsSecond IsBelow
pair_next set pair update is = by (is_less update pair.first) (same_message update pair.first) refl refl
  where
    by : (b s : Bool) → is_less update pair.first ≡ b → same_message update pair.first ≡ s
        → IsPairOf (More set update) (cond b (record { first = update; second = cond s pair.second (Some pair.first) }) (cond s pair (record { first = pair.first; second = Some (lesser pair.second update) })))
    by true true e f =
        let same = same_is update pair.first f in
        record {
          first = least_new set pair.first update is.first (less_is (id_cmp (id_of update) (id_of pair.first)) e);
          second = second_beside (More set update) pair.first update pair.second (second_stays set pair.first update pair.second is.second same) same;
        }
    by true false e f = record {
      first = least_new set pair.first update is.first (less_is (id_cmp (id_of update) (id_of pair.first)) e);
      second = second_old set pair.first update is.first (same_not update pair.first f);
    }
    by false true e f = record {
      first = least_stays set IsAny pair.first update is.first (λ any below. less_not (id_cmp (id_of update) (id_of pair.first)) e below);
      second = second_stays set pair.first update pair.second is.second (same_is update pair.first f);
    }
    by false false e f = record {
      first = least_stays set IsAny pair.first update is.first (λ any below. less_not (id_cmp (id_of update) (id_of pair.first)) e below);
      second = second_new set pair.first update pair.second is.second (same_not update pair.first f);
    }

-- ---- whole lists

-- two sets with the same updates have one pair
pub record AreAlike (set other : List ℕ → Type 0) : Type 0 where
  pub to : (update : List ℕ) → set update → other update
  pub from : (update : List ℕ) → other update → set update

least_alike : (set other P : List ℕ → Type 0) (update : List ℕ) → AreAlike set other → IsLeast set P update → IsLeast other P update
least_alike set other P update alike least = record { member = alike.to update least.member; holds = least.holds; least = λ x has holds. least.least x (alike.from x has) holds }

pub found_alike : (set other : List ℕ → Type 0) (found : Option Pair) → AreAlike set other → IsFound set found → IsFound other found
found_alike set other None alike none = λ update has. none update (alike.from update has)
found_alike set other (Some pair) alike is = record { first = least_alike set other IsAny pair.first alike is.first; second = second_alike pair.second is.second }
  where
    second_alike : (second : Option (List ℕ)) → MatchOption second ((x : List ℕ) → set x → message_of x ≡ message_of pair.first) (λ found. IsLeast set (λ x. message_of x ≢ message_of pair.first) found)
        → MatchOption second ((x : List ℕ) → other x → message_of x ≡ message_of pair.first) (λ found. IsLeast other (λ x. message_of x ≢ message_of pair.first) found)
    second_alike None all = λ x has. all x (alike.from x has)
    second_alike (Some found) least = least_alike set other (λ x. message_of x ≢ message_of pair.first) found alike least

next_found : (set : List ℕ → Type 0) (found : Option Pair) (update : List ℕ) → IsFound set found → IsFound (More set update) (Some (noted found update))
next_found set None update none = pair_first set update none
next_found set (Some pair) update is = pair_next set pair update is

-- Those of a set, or of a list.
abbrev Either : (List ℕ → Type 0) → List (List ℕ) → List ℕ → Type 0
Either set updates update = set update ⊎ Contains updates update

pub found_after : (updates : List (List ℕ)) (set : List ℕ → Type 0) (found : Option Pair) → IsFound set found → IsFound (Either set updates) (pair_after found updates)
unfolding More
found_after [] set found is = found_alike set (Either set []) found (record { to = λ x has. inl has; from = λ x has. elim has [ inl old ↦ old | inr none ↦ absurd (omega (arith, none.1)) ] }) is
found_after (update ∷ updates) set found is =
    found_alike (Either (More set update) updates) (Either set (update ∷ updates)) (pair_after (Some (noted found update)) updates)
    (record {
      to = λ x has. elim has [
        | inl more ↦ elim more [ inl old ↦ inl old | inr same ↦ inr (subst (Contains (update ∷ updates)) (sym same) (here update updates)) ]
        | inr later ↦ inr (there update x updates later)
      ];
      from = λ x has. elim has [
        | inl old ↦ inl (inl old)
        | inr listed ↦ elim (one_of update x updates listed) [ inl same ↦ inl (inr (sym same)) | inr later ↦ inr later ]
      ];
    })
    (found_after updates (More set update) (Some (noted found update)) (next_found set found update is))

pub find_pairs : (updates : List (List ℕ)) → IsFound (Contains updates) (pair_after None updates)
find_pairs updates =
    found_alike (Either (λ _. ⊥) updates) (Contains updates) (pair_after None updates)
    (record { to = λ x has. elim has [ inl none ↦ absurd none | inr listed ↦ listed ]; from = λ x has. inr has })
    (found_after updates (λ _. ⊥) None (λ x none. none))
