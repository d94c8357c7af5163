-- What is taken of a closed list of updates.
use Rattle.std.proofs.Common.{◌≡◌, ◌≢◌, inl, inr, true, List, [], ◌∷◌, ◌++◌, None, arith, refl, sym, ap, subst, ◌∙◌}
use Rattle.std.specs.Prelude.{Contains, not}
use Rattle.std.specs.List.{AllByRecursion}
use Rattle.std.proofs.lemmas.List.Elements.{All-contains, All-from_recursion, All-weaker, Contains-append_cases, Contains-append_left, Contains-append_right}
use Rattle.update_model.specs.declared.update_id.UpdateId.{UpdateId}
use Rattle.update_model.specs.Batch.{Adds, not_held}
use Rattle.update_model.specs.Entry.{Entry, same_id}
use Rattle.update_model.specs.Graph.{Follows, HaveSameMembers, IsClosed, holds, lacking}
use Rattle.update_model.proofs.Ids.{same_id-refl}
use Rattle.ready_batch.proofs.Holding.{held_member, holds_push_cases, lacks_none, true_or_false}
use Rattle.session_rules.specs.Laws.{NoCollision}
use Rattle.session_rules.proofs.Held.{distinct}
use Rattle.session_rules.proofs.Words.{filter_member}

-- An update whose predecessors are held is held where none could be added that is not.
none_left : (graph seen batch : List Entry) → Follows seen batch → ((id : UpdateId) → holds seen id ≡ true → holds graph id ≡ true)
    → AllByRecursion (λ e. lacking graph e ≢ None) (not_held graph batch) → not_held graph batch ≡ []
none_left graph seen [] follows held stuck = refl
none_left graph seen (e ∷ es) follows held stuck = elim (true_or_false (holds graph e.id)) [
  | inl there ↦
      let less : AllByRecursion (λ x. lacking graph x ≢ None) (not_held graph es) = rw there at stuck in
      rw there (none_left graph (seen ++ e ∷ []) es follows.1 (λ id h. elim (holds_push_cases seen e id h) [
        | inl before ↦ held id before
        | inr is ↦ subst (λ (i : UpdateId). holds graph i ≡ true) (sym is) there
      ]) less)
  | inr lacks ↦
      let more : AllByRecursion (λ x. lacking graph x ≢ None) (e ∷ not_held graph es) = rw lacks at stuck in
      absurd (more.0 (lacks_none graph e (All-weaker (λ p. holds seen p ≡ true) (λ p. holds graph p ≡ true) (λ p h. held p h) e.preds follows.0.preds)))
]

-- none of a closed list waits
pub none_waits : (before batch added waiting : List Entry) → IsClosed batch → Adds before batch added waiting → waiting ≡ []
none_waits before batch added waiting closed adds =
    adds.rest ∙ none_left (before ++ added) [] batch closed (λ id h. absurd cc) (subst (AllByRecursion (λ e. lacking (before ++ added) e ≢ None)) adds.rest adds.stuck)

-- whoever is held is a member that is not left over
held_of : (graph batch : List Entry) (e : Entry) → not_held graph batch ≡ [] → Contains batch e → holds graph e.id ≡ true
held_of graph batch e none c = elim (true_or_false (holds graph e.id)) [
  | inl there ↦ there
  | inr lacks ↦
      let left : Contains [] e = subst (λ (l : List Entry). Contains l e) none (filter_member (λ x. not (holds graph x.id)) batch e c (ap not lacks)) in
      absurd (omega (arith, left.1))
]

-- With what is taken of it, a list has the members of both, where no two share an id.
pub same_members : (before batch added : List Entry) → IsClosed batch → NoCollision before batch → Adds before batch added [] → HaveSameMembers (before ++ added) (before ++ batch)
same_members before batch added closed alike adds = λ e. (
  λ c. elim (Contains-append_cases before added e c) [
    | inl old ↦ Contains-append_left before batch e old
    | inr new ↦ Contains-append_right before batch e (from_batch e new)
  ],
  λ c. elim (Contains-append_cases before batch e c) [
    | inl old ↦ Contains-append_left before added e old
    | inr new ↦ held e new
  ],
)
  where
    from_batch : (e : Entry) → Contains added e → Contains batch e
    from_batch e c = All-contains (Contains batch) added e (All-from_recursion (Contains batch) added adds.from) c

    held : (e : Entry) → Contains batch e → Contains (before ++ added) e
    held e c =
        let w = held_member (before ++ added) e.id (held_of (before ++ added) batch e (sym adds.rest) c) in
        let same : same_id w.0.id e.id ≡ true = subst (λ (i : UpdateId). same_id i e.id ≡ true) w.2 (same_id-refl e.id) in
        elim (Contains-append_cases before added w.0 w.1) [
          | inl old ↦ subst (Contains (before ++ added)) (alike w.0 e old c same) w.1
          | inr new ↦ subst (Contains (before ++ added)) (distinct [] batch w.0 e closed (from_batch w.0 new) c same) w.1
        ]
