-- A closed list has one list of entries.
use Rattle.std.proofs.Common.{◌≡◌, ◌∙◌, inl, inr, true, false, List, [], ◌∷◌, ◌++◌, map, refl, sym, ap, subst, Contains, ℕ}
use Rattle.std.specs.Prelude.{◌≢◌}
use Rattle.std.specs.Cmp.{IsTotalOrder}
use Rattle.std.specs.Ordering.{is_eq, ordering_reverse}
use Rattle.std.specs.declared.cmp.Ordering.{Ordering}
use Rattle.std.specs.declared.cmp.Ordering.TheVariants.{Less, Equal, Greater}
use Rattle.std.proofs.lemmas.Bool.{or_parts, true≢false}
use Rattle.std.proofs.lemmas.Cmp.{nat_cmp_total, nat_list_cmp_total, on_total, then_total}
use Rattle.std.proofs.lemmas.List.Elements.{All-contains, All-weaker}
use Rattle.std.proofs.lemmas.List.Folds.{list_any-append}
use Rattle.update_model.specs.declared.author_key.AuthorKey.{AuthorKey}
use Rattle.update_model.specs.declared.update_id.UpdateId.{UpdateId}
use Rattle.update_model.specs.Entry.{Entry, id_cmp, same_id}
use Rattle.update_model.specs.Graph.{Follows, IsClosed, holds}
use Rattle.update_model.proofs.Ids.{id_cmp_total, id_from_same, same_id-refl}
use Rattle.update_codec.specs.Parts.{entry_of, id_of}
use Rattle.update_codec.specs.Spelling.{author}
use Rattle.key_audit.specs.Doubles.{message_of}
use Rattle.key_audit.specs.Entries.{AreFound, IsAny, IsEntry, IsLeast, IsMemberUnder, doubled_cmp}
use Rattle.key_audit.specs.declared.doubled.Doubled.{Doubled}
use Rattle.key_audit.proofs.Rising.{nobody, one_list, one_of}

doubled_total : IsTotalOrder doubled_cmp
doubled_total = then_total (on_total (λ (d : Doubled). author d.key) nat_list_cmp_total) (on_total (λ (d : Doubled). d.index) nat_cmp_total)

-- ---- in a closed list one id means one update

unheld : (before : List Entry) (updates : List (List ℕ)) (update : List ℕ) → Follows before (map entry_of updates) → Contains updates update → holds before (id_of update) ≡ false
unheld before [] update follows has = absurd (nobody update has)
unheld before (first ∷ updates) update follows has = elim (one_of first update updates has) [
  | inl same ↦ subst (λ (u : List ℕ). holds before (id_of u) ≡ false) same follows.0.new
  | inr later ↦ (let behind = unheld (before ++ entry_of first ∷ []) updates update follows.1 later in
      (or_parts (holds before (id_of update)) _ (sym (list_any-append (λ (e : Entry). same_id (id_of update) e.id) before (entry_of first ∷ [])) ∙ behind)).0)
]

-- an update has another id than those behind it
apart : (before : List Entry) (first : List ℕ) (updates : List (List ℕ)) (update : List ℕ) → Follows (before ++ entry_of first ∷ []) (map entry_of updates) → Contains updates update → id_of update ≡ id_of first → ⊥
apart before first updates update follows has same =
    let behind = unheld (before ++ entry_of first ∷ []) updates update follows has in
    let parts = or_parts (holds before (id_of update)) _ (sym (list_any-append (λ (e : Entry). same_id (id_of update) e.id) before (entry_of first ∷ [])) ∙ behind) in
    let last = or_parts (same_id (id_of update) (id_of first)) false parts.1 in
    let own : same_id (id_of update) (id_of first) ≡ true = subst (λ (id : UpdateId). same_id (id_of update) id ≡ true) same (same_id-refl (id_of update)) in
    true≢false (sym own ∙ last.0)

one_update : (before : List Entry) (updates : List (List ℕ)) (a b : List ℕ) → Follows before (map entry_of updates) → Contains updates a → Contains updates b → id_of a ≡ id_of b → a ≡ b
one_update before [] a b follows has held same = absurd (nobody a has)
one_update before (first ∷ updates) a b follows has held same = elim (one_of first a updates has) [
  | inl here ↦ elim (one_of first b updates held) [
    | inl there ↦ sym here ∙ there
    | inr later ↦ absurd (apart before first updates b follows.1 later (sym same ∙ ap id_of (sym here)))
  ]
  | inr later ↦ elim (one_of first b updates held) [
    | inl there ↦ absurd (apart before first updates a follows.1 later (same ∙ ap id_of (sym there)))
    | inr behind ↦ one_update (before ++ entry_of first ∷ []) updates a b follows.1 later behind same
  ]
]

-- ---- the least is one

level : (o : Ordering) → o ≢ Less → ordering_reverse o ≢ Less → is_eq o ≡ true
level Less a b = absurd (a refl)
level Equal a b = refl
level Greater a b = absurd (b refl)

same_least : (set P Q : List ℕ → Type 0) (a b : List ℕ) → ((update : List ℕ) → P update → Q update) → ((update : List ℕ) → Q update → P update) → IsLeast set P a → IsLeast set Q b → id_of a ≡ id_of b
same_least set P Q a b to from one two =
    let below : id_cmp (id_of b) (id_of a) ≢ Less = one.least b two.member (from b two.holds) in
    let above : id_cmp (id_of a) (id_of b) ≢ Less = two.least a one.member (to a one.holds) in
    id_from_same (id_of a) (id_of b) (level (id_cmp (id_of a) (id_of b)) above (λ less. below (id_cmp_total.antisymm (id_of b) (id_of a) ∙ less)))

entry_is : (entry : Doubled) (key : AuthorKey) (index : ℕ) (first second : UpdateId) → entry.key ≡ key → entry.index ≡ index → entry.first ≡ first → entry.second ≡ second
    → entry ≡ record { key = key; index = index; first = first; second = second }
entry_is entry key index first second a b c d = λ i. record { key = a i; index = b i; first = c i; second = d i }

same_entry : (members : List (List ℕ)) (a b : Doubled) → IsClosed (map entry_of members) → IsEntry members a → IsEntry members b → a.key ≡ b.key → a.index ≡ b.index → a ≡ b
same_entry members a b closed one two key index =
    let Under : List ℕ → Type 0 = IsMemberUnder members b.key b.index in
    let moved : (P : List ℕ → Type 0) (update : List ℕ) → IsLeast (IsMemberUnder members a.key a.index) P update → IsLeast Under P update = λ P update least. subst (λ (i : ℕ). IsLeast (IsMemberUnder members b.key i) P update) index
    (subst (λ (k : AuthorKey). IsLeast (IsMemberUnder members k a.index) P update) key least) in
    let first_one = moved IsAny one.first one.first_is in
    let firsts : id_of one.first ≡ id_of two.first = same_least Under IsAny IsAny one.first two.first (λ update any. any) (λ update any. any) first_one two.first_is in
    let same : one.first ≡ two.first = one_update [] members one.first two.first closed first_one.member.member two.first_is.member.member firsts in
    let seconds : id_of one.second ≡ id_of two.second = same_least Under (λ other. message_of other ≢ message_of one.first) (λ other. message_of other ≢ message_of two.first) one.second two.second
    (λ update differ is. differ (is ∙ ap message_of (sym same))) (λ update differ is. differ (is ∙ ap message_of same))
    (moved (λ other. message_of other ≢ message_of one.first) one.second one.second_is) two.second_is in
    entry_is a b.key b.index b.first b.second key index (one.first_id ∙ firsts ∙ sym two.first_id) (one.second_id ∙ seconds ∙ sym two.second_id)

within : (members : List (List ℕ)) (doubles others : List Doubled) → IsClosed (map entry_of members) → AreFound members doubles → AreFound members others → (entry : Doubled) → Contains doubles entry → Contains others entry
within members doubles others closed one two entry has =
    let is : IsEntry members entry = All-contains (IsEntry members) doubles entry one.each has in
    let found = two.all is.first is.second entry.key entry.index is.first_is.member.member is.second_is.member.member is.doubled.pair in
    let other : IsEntry members found.0 = All-contains (IsEntry members) others found.0 two.each found.1 in
    let same : found.0 ≡ entry = same_entry members found.0 entry closed other is found.2 found.3 in
    subst (Contains others) same found.1

pub once : (members : List (List ℕ)) (doubles others : List Doubled) → IsClosed (map entry_of members) → AreFound members doubles → AreFound members others → doubles ≡ others
once members doubles others closed one two =
    one_list doubled_cmp doubled_total doubles others one.rising two.rising (within members doubles others closed one two) (within members others doubles closed two one)

-- ---- the set alone decides

module _ (members others : List (List ℕ)) (to : (update : List ℕ) → Contains members update → Contains others update) (from : (update : List ℕ) → Contains others update → Contains members update) where
  least_there : (key : AuthorKey) (index : ℕ) (P : List ℕ → Type 0) (update : List ℕ) → IsLeast (IsMemberUnder members key index) P update → IsLeast (IsMemberUnder others key index) P update
  least_there key index P update is = record {
    member = record { member = to update is.member.member; under = is.member.under };
    holds = is.holds;
    least = λ other has holds. is.least other (record { member = from other has.member; under = has.under }) holds;
  }

  entry_there : (entry : Doubled) → IsEntry members entry → IsEntry others entry
  entry_there entry is = record {
    first = is.first;
    second = is.second;
    first_is = least_there entry.key entry.index IsAny is.first is.first_is;
    second_is = least_there entry.key entry.index (λ other. message_of other ≢ message_of is.first) is.second is.second_is;
    first_id = is.first_id;
    second_id = is.second_id;
    doubled = is.doubled;
  }

  pub of_the_set : (doubles : List Doubled) → AreFound members doubles → AreFound others doubles
  of_the_set doubles are = record {
    rising = are.rising;
    each = All-weaker (IsEntry members) (IsEntry others) entry_there doubles are.each;
    all = λ first second key index one two pair. are.all first second key index (from first one) (from second two) pair;
  }
