-- How many updates a seat added.
use Rattle.std.proofs.Common.{◌≡◌, ◌≢◌, ◌==◌, ℕ, ◌+◌, Bool, true, false, List, [], ◌∷◌, ◌++◌, length, drop, Some, refl, ap, sym, ◌∙◌, subst, arith}
use Rattle.std.specs.Prelude.{All}
use Rattle.std.proofs.Math.Seq.{drop-append_seam}
use Rattle.std.proofs.lemmas.Bool.{eq-eqb, eqb-true}
use Rattle.std.proofs.lemmas.List.{length-append}
use Rattle.std.proofs.lemmas.List.Elements.{All-head, All-rest}
use Rattle.replica.specs.Replicas.{ReplicaState}
use Rattle.turn_lock.specs.Seats.{Known}
use Rattle.shared_replica.specs.declared.entry.Entry.{Entry}
use Rattle.shared_replica.specs.declared.entry.Entry.TheVariants.{Added, Fault, First, Opened}
use Rattle.shared_replica.specs.Acts.{IsAct}
use Rattle.shared_replica.specs.Entries.{added_by, entries_by, maker_of, one_if, updates_of}
use Rattle.shared_replica.proofs.Lists.{updates_by, updates_more}

added_more : (seat : ℕ) (es fs : List Entry) → added_by seat (es ++ fs) ≡ added_by seat es + added_by seat fs
added_more seat [] fs = omega arith
added_more seat (First opening ∷ es) fs = added_more seat es fs
added_more seat (Opened u ∷ es) fs = added_more seat es fs
added_more seat (Added u maker act ∷ es) fs = omega (arith, added_more seat es fs)
added_more seat (Fault maker act ∷ es) fs = added_more seat es fs

abbrev IsOther : ℕ → Entry → Type 0
IsOther seat e = (act : ℕ) → maker_of e ≢ Some (seat, act)

-- where no entry is of the seat, it added none of them
added_none : (seat : ℕ) (es : List Entry) → All (IsOther seat) es → added_by seat es ≡ 0
added_none seat [] others = refl
added_none seat (First opening ∷ es) others = added_none seat es (All-rest (IsOther seat) (First opening) es (First opening ∷ es) refl others)
added_none seat (Opened u ∷ es) others = added_none seat es (All-rest (IsOther seat) (Opened u) es (Opened u ∷ es) refl others)
added_none seat (Added u maker act ∷ es) others =
    let rest = added_none seat es (All-rest (IsOther seat) (Added u maker act) es (Added u maker act ∷ es) refl others) in
    by (maker == seat) refl rest
  where
    by : (b : Bool) → (maker == seat) ≡ b → added_by seat es ≡ 0 → one_if (maker == seat) + added_by seat es ≡ 0
    by false is rest = let zero : one_if (maker == seat) ≡ 0 = ap one_if is in omega (arith, zero, rest)
    by true is rest = absurd (All-head (IsOther seat) (Added u maker act) es others act (ap (λ (n : ℕ). Some (n, act)) (eqb-true maker seat is)))
added_none seat (Fault maker act ∷ es) others = added_none seat es (All-rest (IsOther seat) (Fault maker act) es (Fault maker act ∷ es) refl others)

-- of its own entries it added each update
added_own : (seat act : ℕ) (us : List (List ℕ)) (fault : Bool) → added_by seat (entries_by seat act us fault) ≡ length us
added_own seat act [] true = refl
added_own seat act [] false = refl
added_own seat act (u ∷ us) fault =
    let one : one_if (seat == seat) ≡ 1 = ap one_if (eq-eqb seat seat refl) in let rest = added_own seat act us fault in omega (arith, one, rest)

module _ (before after : Known Entry) (P : List Entry) (old new : ReplicaState) (fault : Bool) (a : IsAct before after P old new fault) where
  others_add : added_by a.seat P ≡ added_by a.seat before.seen
  others_add =
      let behind = a.began.0 in
      let rest : drop (length before.seen) P ≡ behind = ap (drop (length before.seen)) (sym a.began.1) ∙ drop-append_seam before.seen behind in
      let none = added_none a.seat behind (subst (All (IsOther a.seat)) rest a.alone) in
      let whole = ap (added_by a.seat) (sym a.began.1) ∙ added_more a.seat before.seen behind in
      omega (arith, none, whole)

  -- an act adds so many updates of its seat
  pub act_adds : added_by a.seat after.seen ≡ added_by a.seat before.seen + length a.added
  act_adds =
      let own = added_own a.seat after.acts a.added fault in
      let whole = ap (added_by a.seat) a.ended ∙ added_more a.seat P (entries_by a.seat after.acts a.added fault) in
      let same = others_add in
      omega (arith, own, whole, same)

  -- and of the list
  pub act_grows : length (updates_of after.seen) ≡ length (updates_of P) + length a.added
  act_grows = ap (λ (l : List Entry). length (updates_of l)) a.ended ∙ ap length (updates_more P (entries_by a.seat after.acts a.added fault))
      ∙ ap (λ (us : List (List ℕ)). length (updates_of P ++ us)) (updates_by a.seat after.acts a.added fault) ∙ length-append (updates_of P) a.added

-- an act that only looks adds none
pub looks_add : (before after : Known Entry) (P : List Entry) (store : ReplicaState) (fault : Bool) (a : IsAct before after P store store fault) → added_by a.seat after.seen ≡ added_by a.seat before.seen
looks_add before after P store fault a =
    let all = act_adds before after P store store fault a in
    let none : length store.history.members ≡ length store.history.members + length a.added = ap length a.members ∙ length-append store.history.members a.added in
    omega (arith, all, none)
