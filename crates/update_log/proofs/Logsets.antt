-- What bytes stand for, and what begins with it.
use Rattle.std.proofs.Common.{◌≡◌, ◌⊎◌, inl, inr, ℕ, ◌≤◌, List, [], ◌∷◌, ◌++◌, length, refl, sym, ap, subst, ◌∙◌, append-nil, append_assoc, length-append, arith}
use Rattle.std.proofs.lemmas.List.{nil_from_length}
use Rattle.bec_bytes.specs.Framed.{framed, stream_of}
use Rattle.bec_bytes.proofs.Frames.{framed_some, Fit, GoesOn, lines_up}
use Rattle.update_model.specs.Rule.{RuleData}
use Rattle.update_check.specs.Members.{AreMembers}
use Rattle.update_check.proofs.Fronts.{members_front}
use Rattle.update_log.specs.Logset.{BeginsWith, IsLogset}

members_fit : (rule : RuleData) (members : List (List ℕ)) → AreMembers rule members → Fit members
members_fit rule members are = λ k e low. let short = (are.checked k e low).1.spells.short in omega (arith, short)

-- the one list stands in front of the other, or goes on behind it
begins_longer : (rule : RuleData) (before members : List (List ℕ)) (rest other : List ℕ) → AreMembers rule before → AreMembers rule members
    → stream_of before ++ rest ≡ stream_of members ++ other
    → ((added : List (List ℕ)) × (members ≡ before ++ added)) ⊎ GoesOn members before other
begins_longer rule before members rest other are taken e =
    elim (lines_up before members rest other (members_fit rule before are) (members_fit rule members taken) e) [
      | inl g ↦ inl (g.next ∷ g.more, g.parts)
      | inr others ↦ elim others [
        | inl g ↦ inr g
        | inr same ↦ inl ([], sym same.0 ∙ sym (append-nil before))
      ]
    ]

-- A list whose records the bytes begin with stands in front of what they stand for.
pub begins_logset : (rule : RuleData) (bytes : List ℕ) (members before : List (List ℕ)) → IsLogset rule bytes members → AreMembers rule before → BeginsWith (stream_of before) bytes
    → (added : List (List ℕ)) × (members ≡ before ++ added)
begins_logset rule bytes members before is are begins =
    elim (begins_longer rule before members begins.0 is.begins.0 are is.taken (sym begins.1 ∙ is.begins.1)) [
      | inl longer ↦ longer
      | inr g ↦ absurd (let few = is.longest before are begins in let size = ap length g.parts in omega (arith, length-append members (g.next ∷ g.more)))
    ]

-- Bytes stand for one list.
pub same_logset : (rule : RuleData) (bytes : List ℕ) (members others : List (List ℕ)) → IsLogset rule bytes members → IsLogset rule bytes others → members ≡ others
same_logset rule bytes members others a b =
    let more = begins_logset rule bytes members others a b.taken b.begins in
    let few = b.longest members a.taken a.begins in
    let size = ap length more.1 in
    more.1 ∙ ap (λ (l : List (List ℕ)). others ++ l) (nil_from_length more.0 (omega (arith, length-append others more.0))) ∙ append-nil others

-- Where no record more can be taken, no list is longer.
pub stop_is_longest : (rule : RuleData) (bytes : List ℕ) (members : List (List ℕ)) (rest : List ℕ) → AreMembers rule members → bytes ≡ stream_of members ++ rest
    → ((r tail : List ℕ) → rest ≡ framed r ++ tail → AreMembers rule (members ++ r ∷ []) → ⊥) → IsLogset rule bytes members
stop_is_longest rule bytes members rest are parts stop = record { taken = are; begins = (rest, parts); longest = longest }
  where
    longest : (others : List (List ℕ)) → AreMembers rule others → BeginsWith (stream_of others) bytes → length others ≤ length members
    longest others taken begins =
        elim (lines_up members others rest begins.0 (members_fit rule members are) (members_fit rule others taken) (sym parts ∙ begins.1)) [
          | inl g ↦ absurd (stop g.next g.tail g.begins (members_front rule (members ++ g.next ∷ []) g.more (subst (AreMembers rule) (g.parts ∙ sym (append_assoc members (g.next ∷ []) g.more)) taken)))
          | inr other ↦ elim other [
            | inl g ↦ let size = ap length g.parts in omega (arith, length-append others (g.next ∷ g.more))
            | inr same ↦ let size = ap length same.0 in omega arith
          ]
        ]

-- The records alone stand for their list.
pub records_logset : (rule : RuleData) (members : List (List ℕ)) → AreMembers rule members → IsLogset rule (stream_of members) members
records_logset rule members are = stop_is_longest rule (stream_of members) members [] are (sym (append-nil (stream_of members))) (λ r tail e taken. framed_some r tail e)
