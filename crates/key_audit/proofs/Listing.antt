-- From what the walk found to the list of entries.
use Rattle.std.proofs.Common.{◌≡◌, ◌∙◌, inl, inr, ℕ, List, [], ◌∷◌, ◌++◌, refl, sym, ap, subst, Bool, true, false, cond, Contains, Some, None, Option, BTreeMap}
use Rattle.std.specs.Prelude.{◌≢◌, All, filter, option_map}
use Rattle.std.specs.Borrow.{Bor}
use Rattle.std.specs.BTreeMap.{IsOrdered, get, keys}
use Rattle.std.specs.List.{AllByRecursion}
use Rattle.std.specs.List.Sorted.{IsStrictlySortedBy}
use Rattle.std.specs.Map.{keys_of}
use Rattle.std.specs.Ordering.{is_eq, nat_cmp, ordering_then}
use Rattle.std.specs.declared.cmp.Ordering.{Ordering}
use Rattle.std.specs.declared.cmp.Ordering.TheVariants.{Less}
use Rattle.std.specs.Cmp.{Equal-is}
use Rattle.std.proofs.lemmas.Cmp.{tied_itself}
use Rattle.std.proofs.lemmas.List.Elements.{All-contains, All-contains_itself, All-weaker, Contains-append_left, Contains-append_right, Contains-append_cases, recursion_from_All}
use Rattle.std.proofs.lemmas.Map.Views.{btree_map_get_iff}
use Rattle.update_model.specs.Form.{IsKey, UpdateData}
use Rattle.update_model.specs.Rule.{RuleData}
use Rattle.update_codec.specs.Parts.{author_of, id_of}
use Rattle.update_codec.specs.Spelling.{Spells}
use Rattle.update_check.specs.Signed.{IsChecked, IsSigned}
use Rattle.update_check.specs.declared.checked_update.Checked.{Checked}
use Rattle.key_audit.specs.Doubles.{AreDoubled, ArePair, IsUnderIndex, message_of}
use Rattle.key_audit.specs.Entries.{AreFound, IsAny, IsEntry, IsLeast, IsMemberUnder, doubled_cmp}
use Rattle.key_audit.specs.Pairs.{IsFound, IsPairOf, pair_after}
use Rattle.key_audit.specs.Walk.{double_at, double_by, doubles_in, is_by, one_time_cmp, one_time_of, pair_data}
use Rattle.key_audit.specs.declared.doubled.Doubled.{Doubled}
use Rattle.key_audit.specs.declared.one_time.OneTime.{OneTime}
use Rattle.key_audit.specs.declared.walk.Pair.{Pair}
use Rattle.key_audit.proofs.Keys.{by_bytes, one_time_total}
use Rattle.key_audit.proofs.Least.{found_alike, find_pairs}
use Rattle.key_audit.proofs.Noting.{equal_keys}
use Rattle.key_audit.proofs.Rising.{here, nobody, one_of, there}

-- ---- the updates by a one-time key

by_is : (key : OneTime) (update : List ℕ) → is_by key update ≡ true → IsUnderIndex key.key key.index update
by_is key update is =
    let same : one_time_of update ≡ key = equal_keys (one_time_of update) key is in
    record { author = ap (λ (k : OneTime). k.key) same; number = ap (λ (k : OneTime). k.index) same }

is_by_own : (key : OneTime) → is_eq (one_time_cmp key key) ≡ true
is_by_own key = (Equal-is (one_time_cmp key key)).1 (tied_itself one_time_total key)

by_from : (key : OneTime) (update : List ℕ) → IsUnderIndex key.key key.index update → is_by key update ≡ true
by_from key update under =
    let same : one_time_of update ≡ key = λ i. record { key = under.author i; index = under.number i } in
    subst (λ (k : OneTime). is_eq (one_time_cmp k key) ≡ true) (sym same) (is_by_own key)

in_filter : (p : List ℕ → Bool) (xs : List (List ℕ)) (x : List ℕ) → Contains xs x → p x ≡ true → Contains (filter p xs) x
in_filter p [] x has is = absurd (nobody x has)
in_filter p (y ∷ xs) x has is = elim (one_of y x xs has) [
  | inl same ↦ by (p y) (ap p same ∙ is) same
  | inr later ↦ either (p y) (in_filter p xs x later is)
]
  where
    by : (b : Bool) → b ≡ true → y ≡ x → Contains (cond b (y ∷ filter p xs) (filter p xs)) x
    by true e same = subst (Contains (y ∷ filter p xs)) same (here y (filter p xs))
    by false e same = absurd cc

    either : (b : Bool) → Contains (filter p xs) x → Contains (cond b (y ∷ filter p xs) (filter p xs)) x
    either true has = there y x (filter p xs) has
    either false has = has

from_filter : (p : List ℕ → Bool) (xs : List (List ℕ)) (x : List ℕ) → Contains (filter p xs) x → Contains xs x × (p x ≡ true)
from_filter p [] x has = absurd (nobody x has)
from_filter p (y ∷ xs) x has = by (p y) refl (from_filter p xs x) has
  where
    by : (b : Bool) → p y ≡ b → (Contains (filter p xs) x → Contains xs x × (p x ≡ true)) → Contains (cond b (y ∷ filter p xs) (filter p xs)) x → Contains (y ∷ xs) x × (p x ≡ true)
    by true e rest has = elim (one_of y x (filter p xs) has) [
      | inl same ↦ (subst (Contains (y ∷ xs)) same (here y xs), ap p (sym same) ∙ e)
      | inr later ↦ (let old = rest later in (there y x xs old.0, old.1))
    ]
    by false e rest has = let old = rest has in (there y x xs old.0, old.1)

-- ---- entries

-- each entry is of a one-time key whose pair has a second update
record IsOf (entries : List (OneTime × Pair)) (entry : Doubled) : Type 0 where
  key : OneTime
  pair : Pair
  second : Bor Checked
  among : Contains entries (key, pair)
  has : pair.second ≡ Some second
  is : entry ≡ record { key = key.key; index = key.index; first = id_of pair.first.now; second = id_of second.now }

of_more : (e : OneTime × Pair) (entries : List (OneTime × Pair)) (entry : Doubled) → IsOf entries entry → IsOf (e ∷ entries) entry
of_more e entries entry of = record { key = of.key; pair = of.pair; second = of.second; among = there e (of.key, of.pair) entries of.among; has = of.has; is = of.is }

of_each : (entries : List (OneTime × Pair)) (entry : Doubled) → Contains (doubles_in entries) entry → IsOf entries entry
of_each [] entry has = absurd (nobody entry has)
of_each (e ∷ entries) entry has = elim (Contains-append_cases (double_at e.0 e.1) (doubles_in entries) entry has) [
  | inl own ↦ by e.1.second refl own
  | inr later ↦ of_more e entries entry (of_each entries entry later)
]
  where
    by : (second : Option (Bor Checked)) → e.1.second ≡ second → Contains (double_by e.0 e.1.first.now second) entry → IsOf (e ∷ entries) entry
    by None is own = absurd (nobody entry own)
    by (Some second) is own = elim (one_of _ entry [] own) [
      | inl same ↦ record { key = e.0; pair = e.1; second = second; among = here e entries; has = is; is = sym same }
      | inr none ↦ absurd (nobody entry none)
    ]

in_doubles : (entries : List (OneTime × Pair)) (key : OneTime) (pair : Pair) (entry : Doubled) → Contains entries (key, pair) → Contains (double_at key pair) entry → Contains (doubles_in entries) entry
in_doubles [] key pair entry has own = absurd (nobody (key, pair) has)
in_doubles (e ∷ entries) key pair entry has own = elim (one_of e (key, pair) entries has) [
  | inl same ↦ Contains-append_left (double_at e.0 e.1) (doubles_in entries) entry (subst (λ (f : OneTime × Pair). Contains (double_at f.0 f.1) entry) (sym same) own)
  | inr later ↦ Contains-append_right (double_at e.0 e.1) (doubles_in entries) entry (in_doubles entries key pair entry later own)
]

-- ---- order

name_of : Doubled → OneTime
name_of entry = record { key = entry.key; index = entry.index }

-- each entry is above a one-time key, where each one-time key is
above : (key : OneTime) (entries : List (OneTime × Pair)) → AllByRecursion (λ k. one_time_cmp key k ≡ Less) (keys_of entries) → AllByRecursion (λ entry. one_time_cmp key (name_of entry) ≡ Less) (doubles_in entries)
unfolding name_of
above key [] are = tt
above key (e ∷ entries) are = by e.1.second (above key entries are.1)
  where
    by : (second : Option (Bor Checked)) → AllByRecursion (λ entry. one_time_cmp key (name_of entry) ≡ Less) (doubles_in entries)
        → AllByRecursion (λ entry. one_time_cmp key (name_of entry) ≡ Less) (double_by e.0 e.1.first.now second ++ doubles_in entries)
    by None rest = rest
    by (Some second) rest = (are.0, rest)

rising : (entries : List (OneTime × Pair)) → IsStrictlySortedBy one_time_cmp (keys_of entries) → IsStrictlySortedBy (λ a b. one_time_cmp (name_of a) (name_of b)) (doubles_in entries)
unfolding IsStrictlySortedBy name_of
rising [] sorted = tt
rising (e ∷ entries) sorted = by e.1.second (above e.0 entries sorted.0) (rising entries sorted.1)
  where
    by : (second : Option (Bor Checked)) → AllByRecursion (λ entry. one_time_cmp e.0 (name_of entry) ≡ Less) (doubles_in entries) → IsStrictlySortedBy (λ a b. one_time_cmp (name_of a) (name_of b)) (doubles_in entries)
        → IsStrictlySortedBy (λ a b. one_time_cmp (name_of a) (name_of b)) (double_by e.0 e.1.first.now second ++ doubles_in entries)
    by None over rest = rest
    by (Some second) over rest = (over, rest)

-- keys in form order by their bytes
bytes_above : (entry : Doubled) (entries : List Doubled) → IsKey entry.key → AllByRecursion (λ (e : Doubled). IsKey e.key) entries → AllByRecursion (λ e. one_time_cmp (name_of entry) (name_of e) ≡ Less) entries
    → AllByRecursion (λ e. doubled_cmp entry e ≡ Less) entries
unfolding name_of
bytes_above entry [] own keys over = tt
bytes_above entry (e ∷ entries) own keys over =
    (ap (λ (o : Ordering). ordering_then o (nat_cmp entry.index e.index)) (by_bytes entry.key e.key own keys.0) ∙ over.0, bytes_above entry entries own keys.1 over.1)

bytes_rise : (entries : List Doubled) → AllByRecursion (λ (e : Doubled). IsKey e.key) entries → IsStrictlySortedBy (λ a b. one_time_cmp (name_of a) (name_of b)) entries → IsStrictlySortedBy doubled_cmp entries
unfolding IsStrictlySortedBy
bytes_rise [] keys sorted = tt
bytes_rise (e ∷ entries) keys sorted = (bytes_above e entries keys.0 keys.1 sorted.0, bytes_rise entries keys.1 sorted.1)

-- ---- the list

module _ (rule : RuleData) (members : List (List ℕ)) (found : BTreeMap OneTime Pair) (checked : All (IsChecked rule) members) (authors : (bytes : List ℕ) (update : UpdateData) → Spells bytes update → author_of bytes ≡ update.body.author)
    (ordered : IsOrdered one_time_cmp found) (walked : (key : OneTime) → option_map pair_data (get one_time_cmp found key) ≡ pair_after None (filter (is_by key) members)) where
  Under : OneTime → List ℕ → Type 0
  Under key = IsMemberUnder members key.key key.index

  -- what is found under a one-time key is what there is of the updates by it
  found_under : (key : OneTime) → IsFound (Under key) (option_map pair_data (get one_time_cmp found key))
  unfolding Under
  found_under key =
      let listed : IsFound (Contains (filter (is_by key) members)) (pair_after None (filter (is_by key) members)) = find_pairs (filter (is_by key) members) in
      let own : IsFound (Under key) (pair_after None (filter (is_by key) members)) =
      found_alike (Contains (filter (is_by key) members)) (Under key) (pair_after None (filter (is_by key) members)) (record {
        to = λ update has. (let old = from_filter (is_by key) members update has in record { member = old.0; under = by_is key update old.1 });
        from = λ update under. in_filter (is_by key) members update under.member (by_from key update under.under);
      }) listed in
      subst (IsFound (Under key)) (sym (walked key)) own

  entry_get : (key : OneTime) (pair : Pair) → Contains found.entries (key, pair) → get one_time_cmp found key ≡ Some pair
  entry_get key pair has = (btree_map_get_iff one_time_total (λ a b same. equal_keys a b ((Equal-is (one_time_cmp a b)).1 same)) found ordered key pair).1 has

  get_entry : (key : OneTime) (pair : Pair) → get one_time_cmp found key ≡ Some pair → Contains found.entries (key, pair)
  get_entry key pair is = (btree_map_get_iff one_time_total (λ a b same. equal_keys a b ((Equal-is (one_time_cmp a b)).1 same)) found ordered key pair).0 is

  signed : (update : List ℕ) → Contains members update → IsSigned update
  signed update has = let is = All-contains (IsChecked rule) members update checked has in (is.0, is.1)

  doubled_of : (key : OneTime) (first second : List ℕ) → IsLeast (Under key) IsAny first → IsLeast (Under key) (λ other. message_of other ≢ message_of first) second → AreDoubled first second key.key key.index
  unfolding Under
  doubled_of key first second one two = record {
    first_signed = signed first one.member.member;
    second_signed = signed second two.member.member;
    pair = record { one = one.member.under; two = two.member.under; differ = λ same. two.holds (sym same) };
  }

  entry_is : (entry : Doubled) → IsOf found.entries entry → IsEntry members entry
  unfolding Under
  entry_is entry of =
      let key = of.key in
      let pair = of.pair in
      let there : IsFound (Under key) (Some (pair_data pair)) = subst (λ (o : Option Pair). IsFound (Under key) (option_map pair_data o)) (entry_get key pair of.among) (found_under key) in
      let told : IsPairOf (Under key) (record { first = pair.first.now; second = Some of.second.now }) =
      subst (λ (s : Option (Bor Checked)). IsPairOf (Under key) (record { first = pair.first.now; second = option_map (λ update. update.now) s })) of.has there in
      let made : IsEntry members (record { key = key.key; index = key.index; first = id_of pair.first.now; second = id_of of.second.now }) = record {
        first = pair.first.now;
        second = of.second.now;
        first_is = told.first;
        second_is = told.second;
        first_id = refl;
        second_id = refl;
        doubled = doubled_of key pair.first.now of.second.now told.first told.second;
      } in
      subst (IsEntry members) (sym of.is) made

  each : All (IsEntry members) (doubles_in found.entries)
  each = All-weaker (Contains (doubles_in found.entries)) (IsEntry members) (λ entry has. entry_is entry (of_each found.entries entry has)) (doubles_in found.entries) (All-contains_itself (doubles_in found.entries))

  -- the key of an entry is in form
  key_is : (entry : Doubled) → IsEntry members entry → IsKey entry.key
  key_is entry is =
      let one = is.doubled.first_signed in
      subst IsKey (sym (authors is.first one.0 one.1.spells) ∙ is.doubled.pair.one.author) one.1.spells.form.body.author

  -- an entry of this one-time key
  abbrev Listed : OneTime → Type 0
  Listed key = (entry : Doubled) × Contains (doubles_in found.entries) entry × (entry.key ≡ key.key) × (entry.index ≡ key.index)

  every : (key : OneTime) (first second : List ℕ) → Contains members first → Contains members second → ArePair first second key.key key.index → Listed key
  unfolding Under
  every key first second one two pair = by (get one_time_cmp found key) refl (found_under key)
    where
      under_one : IsMemberUnder members key.key key.index first
      under_one = record { member = one; under = pair.one }

      under_two : IsMemberUnder members key.key key.index second
      under_two = record { member = two; under = pair.two }

      with_second : (found_pair : Pair) (other : Option (Bor Checked)) → found_pair.second ≡ other → Contains found.entries (key, found_pair)
          → IsPairOf (Under key) (record { first = found_pair.first.now; second = option_map (λ update. update.now) other }) → Listed key
      with_second found_pair None is among is_pair = absurd (pair.differ (is_pair.second first under_one ∙ sym (is_pair.second second under_two)))
      with_second found_pair (Some other) is among is_pair =
          let entry : Doubled = record { key = key.key; index = key.index; first = id_of found_pair.first.now; second = id_of other.now } in
          let own : Contains (double_at key found_pair) entry = subst (λ (s : Option (Bor Checked)). Contains (double_by key found_pair.first.now s) entry) (sym is) (here entry []) in
          (entry, in_doubles found.entries key found_pair entry among own, refl, refl)

      by : (got : Option Pair) → get one_time_cmp found key ≡ got → IsFound (Under key) (option_map pair_data got) → Listed key
      by None is none = absurd (none first under_one)
      by (Some found_pair) is is_pair = with_second found_pair found_pair.second refl (get_entry key found_pair is) is_pair

  pub are_found : (doubles : List Doubled) → doubles ≡ doubles_in found.entries → AreFound members doubles
  are_found doubles is =
      let listed : AreFound members (doubles_in found.entries) = record {
        rising = bytes_rise (doubles_in found.entries) (recursion_from_All (λ (e : Doubled). IsKey e.key) (doubles_in found.entries) (All-weaker (IsEntry members) (λ (e : Doubled). IsKey e.key) key_is (doubles_in found.entries) each))
            (rising found.entries ordered);
        each = each;
        all = λ first second key index one two pair. every (record { key = key; index = index }) first second one two pair;
      } in
      subst (AreFound members) (sym is) listed
