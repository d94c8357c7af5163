-- One end: what it knows of the other's start set, and what a commit and its own Turn make of that.
use Rattle.std.proofs.Common.{◌≡◌, ◌≢◌, inl, inr, ℕ, ◌+◌, ◌*◌, ◌<◌, ◌≤◌, Bool, true, false, not, ◌&&◌, ◌||◌, List, [], ◌∷◌, ◌++◌, length, filter, Contains, None, refl, sym, ap, subst, ◌∙◌, arith, append_assoc, length-take}
use Rattle.std.specs.List.{list_all, AllByRecursion}
use Rattle.update_model.specs.declared.limits.TheConstants.{MAX_MEMBERS}
use Rattle.session_rules.specs.declared.limits.TheConstants.{MAX_NEEDS}
use Rattle.update_model.specs.declared.update_id.UpdateId.{UpdateId}
use Rattle.update_model.specs.Entry.{Entry}
use Rattle.update_model.specs.Graph.{has, holds, names, lacking, IsClosed, AreHeads}
use Rattle.update_model.proofs.Closed.{Follows-join}
use Rattle.update_model.specs.Batch.{Adds}
use Rattle.session_rules.specs.Pair.{missing}
use Rattle.session_rules.specs.State.{SessionData}
use Rattle.session_rules.specs.Steps.{is_wanted, AreLeast, AreNeeds, is_empty, heads_in}
use Rattle.session_rules.proofs.Words.{or_cases, or_left, or_right, and_both, and_join, not_true, is_either, each_member, each_from, each_filter, filter_member, all_weaker, count_falls_at}
use Rattle.session_rules.proofs.Held.{held_member, held_witness, has_witness, has_member, holds_front, Within, named_within}
use Rattle.session_rules.proofs.Needs.{some_wanted, least_passes, least_some}

-- the members of the other set that are neither in the own one nor asked for
abbrev pub left : List Entry → List Entry → List UpdateId → List Entry
left start other asked = filter (λ e. not (holds start e.id) && not (has asked e.id)) other

-- An end that has read the other's Hello: its start set, the other's heads, what it asked for, whether its last Turn had
-- `have` and which number of turns there was then, its holder's list, and the other's start set.
pub record Knows (start : List Entry) (heads asked : List UpdateId) (have : Bool) (sent : ℕ) (list other : List Entry) : Type 0 where
  pub closed : IsClosed list
  pub more : List Entry
  pub begins : list ≡ start ++ more
  pub few : length start ≤ MAX_MEMBERS
  pub closed_other : IsClosed other
  pub are_heads : AreHeads other heads
  pub theirs : (id : UpdateId) → has asked id ≡ true → (holds other id ≡ true) × (holds start id ≡ false)
  pub kept : have ≡ true → list_all (holds list) heads ≡ true
  pub slow : have ≡ false → sent + 2 * length (left start other asked) ≤ 2 * length (missing start other) + 2

abbrev pub KnowsEnd : SessionData → ℕ → List Entry → List Entry → Type 0
KnowsEnd s sent list other = Knows s.start (heads_in s.peer) s.asked s.sent_have sent list other

-- the list grows, from outside or by a commit
pub Knows-grows : (start : List Entry) (heads asked : List UpdateId) (have : Bool) (sent : ℕ) (list other new : List Entry)
    → Knows start heads asked have sent list other → IsClosed (list ++ new) → Knows start heads asked have sent (list ++ new) other
Knows-grows start heads asked have sent list other new k closed = record {
  closed = closed;
  more = k.more ++ new;
  begins = ap (λ xs. xs ++ new) k.begins ∙ append_assoc start k.more new;
  few = k.few;
  closed_other = k.closed_other;
  are_heads = k.are_heads;
  theirs = k.theirs;
  kept = λ h. all_weaker (holds list) (holds (list ++ new)) (λ id held. holds_front list new id held) heads (k.kept h);
  slow = k.slow;
}

-- ---- a commit

pub Adds-closed : (before batch added waiting : List Entry) → IsClosed before → Adds before batch added waiting → IsClosed (before ++ added)
Adds-closed before batch added waiting closed a = Follows-join [] before added closed a.next

pub Adds-within : (other before batch added waiting : List Entry) → Within other batch → Adds before batch added waiting → Within other waiting
Adds-within other before batch added waiting all a = rw a.rest (each_filter (Contains other) (λ e. not (holds (before ++ added) e.id)) batch all)

-- what was held or in the batch is held or waits
pub Adds-settles : (before batch added waiting : List Entry) (id : UpdateId) → Adds before batch added waiting → (holds before id || holds batch id) ≡ true
    → (holds (before ++ added) id || holds waiting id) ≡ true
Adds-settles before batch added waiting id a h = elim (or_cases (holds before id) (holds batch id) h) [
  | inl early ↦ or_left (holds (before ++ added) id) (holds waiting id) (holds_front before added id early)
  | inr there ↦ by_witness (held_witness batch id there)
]
  where
    by_witness : (e : Entry) × Contains batch e × (id ≡ e.id) → (holds (before ++ added) id || holds waiting id) ≡ true
    by_witness w = elim (is_either (holds (before ++ added) w.0.id)) [
      | inl held ↦ or_left (holds (before ++ added) id) (holds waiting id) (ap (holds (before ++ added)) w.2 ∙ held)
      | inr lacks ↦
          let waits : Contains (filter (λ e. not (holds (before ++ added) e.id)) batch) w.0 = filter_member (λ e. not (holds (before ++ added) e.id)) batch w.0 w.1 (ap not lacks) in
          let there : holds waiting w.0.id ≡ true = rw a.rest (held_member (filter (λ e. not (holds (before ++ added) e.id)) batch) w.0 waits) in
          or_right (holds (before ++ added) id) (holds waiting id) (ap (holds waiting) w.2 ∙ there)
    ]

-- ---- its own Turn

-- What a Turn asks for is in the other's start set, not in the own one, and was not asked for.
pub record Asks (start other : List Entry) (asked needs : List UpdateId) : Type 0 where
  pub theirs : AllByRecursion (λ id. holds other id ≡ true) needs
  pub lacking : AllByRecursion (λ id. holds start id ≡ false) needs
  pub anew : AllByRecursion (λ id. has asked id ≡ false) needs
  pub few : length needs ≤ MAX_NEEDS

pub record IsWanted (heads : List UpdateId) (now waiting : List Entry) (asked : List UpdateId) (id : UpdateId) : Type 0 where
  pub named : (has heads id || names waiting id) ≡ true
  pub not_held : holds now id ≡ false
  pub not_waiting : holds waiting id ≡ false
  pub new : has asked id ≡ false

pub wanted_parts : (heads : List UpdateId) (now waiting : List Entry) (asked : List UpdateId) (id : UpdateId) → is_wanted heads now waiting asked id ≡ true → IsWanted heads now waiting asked id
wanted_parts heads now waiting asked id h =
    let one = and_both (has heads id || names waiting id) (not (holds now id) && (not (holds waiting id) && not (has asked id))) h in
    let two = and_both (not (holds now id)) (not (holds waiting id) && not (has asked id)) one.1 in
    let three = and_both (not (holds waiting id)) (not (has asked id)) two.1 in
    record { named = one.0; not_held = not_true (holds now id) two.0; not_waiting = not_true (holds waiting id) three.0; new = not_true (has asked id) three.1 }

-- a wanted id is the other's
wanted_theirs : (heads : List UpdateId) (other now waiting : List Entry) (asked : List UpdateId) (id : UpdateId) → IsClosed other → AreHeads other heads → Within other waiting
    → IsWanted heads now waiting asked id → holds other id ≡ true
wanted_theirs heads other now waiting asked id closed are all w = elim (or_cases (has heads id) (names waiting id) w.named) [
  | inl head ↦ (and_both (holds other id) (not (names other id)) (sym (are.exact id) ∙ head)).0
  | inr called ↦ named_within other waiting id closed all called
]

-- an id that the longer list lacks
lacks_front : (start more : List Entry) (id : UpdateId) → holds (start ++ more) id ≡ false → holds start id ≡ false
lacks_front start more id h = elim (is_either (holds start id)) [
  | inl there ↦ absurd (let longer = holds_front start more id there in cc)
  | inr lacks ↦ lacks
]

module _ (start : List Entry) (heads asked : List UpdateId) (have : Bool) (sent : ℕ) (now other waiting : List Entry)
    (k : Knows start heads asked have sent now other) (all : Within other waiting) where
  asks_least : (needs : List UpdateId) → AreLeast (is_wanted heads now waiting asked) MAX_NEEDS needs → Asks start other asked needs
  asks_least needs least =
      let wanted : (id : UpdateId) → Contains needs id → IsWanted heads now waiting asked id = λ id c. wanted_parts heads now waiting asked id (least_passes (is_wanted heads now waiting asked) MAX_NEEDS needs id least (has_member needs id c)) in
      record {
        theirs = each_from (λ id. holds other id ≡ true) needs (λ id c. wanted_theirs heads other now waiting asked id k.closed_other k.are_heads all (wanted id c));
        lacking = each_from (λ id. holds start id ≡ false) needs (λ id c. lacks_front start k.more id (subst (λ (g : List Entry). holds g id ≡ false) k.begins (wanted id c).not_held));
        anew = each_from (λ id. has asked id ≡ false) needs (λ id c. (wanted id c).new);
        few = rw least.front (omega (arith, length-take MAX_NEEDS least.all));
      }

  pub asks : (own : Bool) (needs : List UpdateId) → AreNeeds own (is_wanted heads now waiting asked) needs → Asks start other asked needs
  asks true needs none = rw none (record { theirs = tt; lacking = tt; anew = tt; few = omega arith })
  asks false needs least = asks_least needs least

  -- A Turn without `have` asks for something.
  pub asks_some : (own : Bool) (needs : List UpdateId) → own ≡ list_all (holds now) heads → AreNeeds own (is_wanted heads now waiting asked) needs
      → AllByRecursion (λ e. lacking now e ≢ None) waiting
      → ((id : UpdateId) → has asked id ≡ true → (holds now id || holds waiting id) ≡ true)
      → (not own && is_empty needs) ≡ false
  asks_some true needs is none stuck answered = refl
  asks_some false needs is least stuck answered =
      let w = some_wanted other now waiting heads asked k.closed_other all stuck answered (sym is) in
      least_some (is_wanted heads now waiting asked) needs w.0 least w.1

-- ---- the measure

left_falls : (start other : List Entry) (asked both : List UpdateId) (id : UpdateId) (ids : List UpdateId) → Asks start other asked (id ∷ ids)
    → ((i : UpdateId) → has both i ≡ (has asked i || has (id ∷ ids) i))
    → length (left start other both) < length (left start other asked)
left_falls start other asked both id ids a joins =
    let e = held_witness other id a.theirs.0 in
    count_falls_at (λ (e : Entry). not (holds start e.id) && not (has asked e.id)) (λ (e : Entry). not (holds start e.id) && not (has both e.id)) fewer other e.0 e.1
    (subst (λ (i : UpdateId). (not (holds start i) && not (has asked i)) ≡ true) e.2 (rw (a.lacking.0, a.anew.0) refl))
    (subst (λ (i : UpdateId). (not (holds start i) && not (has both i)) ≡ false) e.2 (rw (a.lacking.0, now_asked) refl))
  where
    now_asked : has both id ≡ true
    now_asked = joins id ∙ or_right (has asked id) (has (id ∷ ids) id) (has_member (id ∷ ids) id (0, omega arith, refl))

    fewer : (e : Entry) → (not (holds start e.id) && not (has both e.id)) ≡ true → (not (holds start e.id) && not (has asked e.id)) ≡ true
    fewer e h =
        let parts = and_both (not (holds start e.id)) (not (has both e.id)) h in
        and_join (not (holds start e.id)) (not (has asked e.id)) parts.0 (elim (is_either (has asked e.id)) [
          | inl was ↦ absurd (let later : has both e.id ≡ true = joins e.id ∙ or_left (has asked e.id) (has (id ∷ ids) e.id) was in
              let not_later = not_true (has both e.id) parts.1 in cc)
          | inr new ↦ ap not new
        ])

-- A Turn without `have` makes the measure smaller.
pub slower : (start other : List Entry) (asked needs both : List UpdateId) (had have : Bool) (sent : ℕ) → Asks start other asked needs → (had ≡ true → have ≡ true) → (not have && is_empty needs) ≡ false
    → ((i : UpdateId) → has both i ≡ (has asked i || has needs i))
    → (had ≡ false → sent + 2 * length (left start other asked) ≤ 2 * length (missing start other) + 2)
    → have ≡ false → sent + 2 + 2 * length (left start other both) ≤ 2 * length (missing start other) + 2
slower start other asked [] both had have sent a keeps some joins slow lacks = absurd (let none : (not have && true) ≡ true = rw lacks refl in cc)
slower start other asked (id ∷ ids) both had have sent a keeps some joins slow lacks = elim (is_either had) [
  | inl was ↦ absurd (let now = keeps was in cc)
  | inr was_not ↦ let before = slow was_not in let falls = left_falls start other asked both id ids a joins in omega arith
]

-- the end after its own Turn
pub Knows-turn : (start : List Entry) (heads asked needs both : List UpdateId) (had have : Bool) (sent : ℕ) (now other : List Entry) → Knows start heads asked had sent now other
    → Asks start other asked needs → ((i : UpdateId) → has both i ≡ (has asked i || has needs i)) → have ≡ list_all (holds now) heads → (not have && is_empty needs) ≡ false
    → Knows start heads both have (sent + 2) now other
Knows-turn start heads asked needs both had have sent now other k a joins is some = record {
  closed = k.closed;
  more = k.more;
  begins = k.begins;
  few = k.few;
  closed_other = k.closed_other;
  are_heads = k.are_heads;
  theirs = λ id h. elim (or_cases (has asked id) (has needs id) (sym (joins id) ∙ h)) [
    | inl was ↦ k.theirs id was
    | inr new ↦ (each_member (λ i. holds other i ≡ true) needs id a.theirs (has_witness needs id new), each_member (λ i. holds start i ≡ false) needs id a.lacking (has_witness needs id new))
  ];
  kept = λ h. sym is ∙ h;
  slow = slower start other asked needs both had have sent a (λ was. is ∙ k.kept was) some joins k.slow;
}
