-- What making and joining answer, they answer once.
use Rattle.std.proofs.Common.{◌≡◌, ℕ, ◌+◌, ◌≤◌, ◌<◌, Bool, true, false, List, [], ◌∷◌, ◌++◌, length, map, take, refl, sym, ap, subst, ◌∙◌, arith, length-append, None}
use Rattle.std.specs.Prelude.{nat_le}
use Rattle.std.proofs.lemmas.Bool.{and_parts}
use Rattle.std.proofs.lemmas.Bool.Decides.{nat_tests}
use Rattle.std.proofs.lemmas.List.{map-append, length-map}
use Rattle.std.proofs.lemmas.List.Elements.{All-contains, Contains-push}
use Rattle.std.proofs.lemmas.List.Sums.{sum_by_push}
use Rattle.update_model.specs.declared.limits.TheConstants.{MAX_BYTES, MAX_MEMBERS, MAX_PREDS}
use Rattle.update_model.specs.declared.update_id.UpdateId.{UpdateId}
use Rattle.update_model.specs.Entry.{Entry}
use Rattle.update_model.specs.Graph.{IsClosed, byte_count, holds, is_within}
use Rattle.update_model.specs.Rule.{IsListed}
use Rattle.update_model.proofs.Closed.{Follows-pop}
use Rattle.update_codec.specs.declared.limits.TheConstants.{UPDATE_LIMIT}
use Rattle.update_codec.specs.Parts.{entry_of, id_of}
use Rattle.update_codec.specs.Spelling.{signed_length, spelling}
use Rattle.update_codec.proofs.Places.{author_stands}
use Rattle.update_check.specs.Members.{AreMembers}
use Rattle.update_check.specs.Signed.{IsChecked}
use Rattle.lms_tree.specs.SecretKey.{SecretData, public_key}
use Rattle.schema.specs.Data.{Meaning}
use Rattle.history.specs.Histories.{HistoryData}
use Rattle.key_index.specs.Used.{least_unused}
use Rattle.replica.specs.Making.{AfterAllHeads, AfterLeastHeads, HasLength, HasNoneToJoin, HasRoom, IsJoinCause, IsMadeBy, IsMadeWith, IsMakeCauseWith, Joins, MakesWith, MayMake, body_by, body_with, plain, update_by}
use Rattle.replica.specs.declared.contents.Contents.{Contents}
use Rattle.replica.specs.Told.{IsAfterVerdict, IsBeforeVerdict, IsTold}
use Rattle.replica.specs.declared.make_fault.MakeFault.{MakeFault}
use Rattle.replica.specs.declared.make_fault.MakeFault.TheVariants.{NotListed, TooManyHeads, Invalid, TooLong, Full, Spent, Taken, DiskFault, Memory}
use Rattle.replica.proofs.Behind.{spelled_length}
use Rattle.replica.proofs.HeadLists.{one_heads}

-- ---- an update that is made and stands last

-- a key makes one update of operations after predecessors
made_once : (history : HistoryData) (secret : SecretData) (taken : List Bool) (preds : List UpdateId) (says : Contents) (c bytes other : List ℕ)
    → IsMadeWith history secret taken preds says c bytes → IsMadeWith history secret taken preds says c other → bytes ≡ other
made_once history secret taken preds says c bytes other m n =
    let here = m.least in
    let there = n.least in
    let same : m.index ≡ n.index = cc in
    m.spells.spells ∙ ap (λ (i : ℕ). spelling (update_by secret i c (body_with history (public_key secret) preds says))) same ∙ sym n.spells.spells

-- a graph that is within the limits with one more had room for it
few_before : (n : ℕ) → nat_le (n + 1) MAX_MEMBERS ≡ true → n < MAX_MEMBERS
few_before n h = grind (arith, nat_tests)

small_with : (b n : ℕ) → nat_le (b + n) MAX_BYTES ≡ true → b + n ≤ MAX_BYTES
small_with b n h = grind (arith, nat_tests)

module _ (history : HistoryData) (secret : SecretData) (taken : List Bool) (preds : List UpdateId) (says : Contents) (c bytes : List ℕ) (members : AreMembers history.schema.rule (history.members ++ bytes ∷ []))
    (made : IsMadeWith history secret taken preds says c bytes) where
  -- its author may write
  made_listed : IsListed history.schema.rule.authors (public_key secret)
  made_listed =
      let checked : IsChecked history.schema.rule bytes = All-contains (IsChecked history.schema.rule) (history.members ++ bytes ∷ []) bytes members.checked (Contains-push history.members bytes) in
      let update = update_by secret made.index c (body_with history (public_key secret) preds says) in
      subst (IsListed history.schema.rule.authors) (sym (author_stands bytes checked.0 checked.1.spells) ∙ author_stands bytes update made.spells) checked.2.author

  -- it has room
  made_room : HasRoom history (signed_length (body_with history (public_key secret) preds says))
  made_room =
      let graph = map entry_of history.members in
      let update = update_by secret made.index c (body_with history (public_key secret) preds says) in
      let pushed : map entry_of (history.members ++ bytes ∷ []) ≡ graph ++ entry_of bytes ∷ [] = map-append entry_of history.members (bytes ∷ []) in
      let within : is_within (graph ++ entry_of bytes ∷ []) ≡ true = subst (λ (g : List Entry). is_within g ≡ true) pushed members.within in
      let parts = and_parts (nat_le (length (graph ++ entry_of bytes ∷ [])) MAX_MEMBERS) (nat_le (byte_count (graph ++ entry_of bytes ∷ [])) MAX_BYTES) within in
      let many : length (graph ++ entry_of bytes ∷ []) ≡ length history.members + 1 = length-append graph (entry_of bytes ∷ []) ∙ ap (λ (n : ℕ). n + 1) (length-map history.members entry_of) in
      let size : byte_count (graph ++ entry_of bytes ∷ []) ≡ byte_count graph + signed_length (body_with history (public_key secret) preds says) =
      sum_by_push (λ (x : Entry). length x.bytes) graph (entry_of bytes) ∙ ap (λ (n : ℕ). byte_count graph + n) (spelled_length bytes update made.spells) in
      record {
        one_more = few_before (length history.members) (subst (λ (n : ℕ). nat_le n MAX_MEMBERS ≡ true) many parts.0);
        bytes = small_with (byte_count graph) (signed_length (body_with history (public_key secret) preds says)) (subst (λ (n : ℕ). nat_le n MAX_BYTES ≡ true) size parts.1);
      }

  -- its id is new
  made_new : holds (map entry_of history.members) (id_of bytes) ≡ false
  made_new =
      let graph = map entry_of history.members in
      let pushed : map entry_of (history.members ++ bytes ∷ []) ≡ graph ++ entry_of bytes ∷ [] = map-append entry_of history.members (bytes ∷ []) in
      (Follows-pop [] graph (entry_of bytes) (subst IsClosed pushed members.closed)).1.new

  -- its length is within the limit
  made_short : signed_length (body_with history (public_key secret) preds says) ≤ UPDATE_LIMIT
  made_short = subst (λ (n : ℕ). n ≤ UPDATE_LIMIT) (spelled_length bytes (update_by secret made.index c (body_with history (public_key secret) preds says)) made.spells) made.spells.short

-- ---- joining

one_least : (history : HistoryData) (preds others : List UpdateId) → AfterLeastHeads history preds → AfterLeastHeads history others → preds ≡ others
one_least history preds others a b = a.least ∙ ap (take MAX_PREDS) (one_heads (map entry_of history.members) a.heads b.heads a.are b.are) ∙ sym b.least

-- why heads were not joined, of which these are the least
data JoinStop (history : HistoryData) (secret : SecretData) (taken : List Bool) (c : List ℕ) (preds : List UpdateId) : MakeFault → Type 0 where
  unlisted : ¬ (IsListed history.schema.rule.authors (public_key secret)) → JoinStop history secret taken c preds NotListed
  full : IsListed history.schema.rule.authors (public_key secret) → ¬ (HasRoom history (signed_length (body_by history (public_key secret) preds []))) → JoinStop history secret taken c preds Full
  spent : IsListed history.schema.rule.authors (public_key secret) → HasRoom history (signed_length (body_by history (public_key secret) preds [])) → least_unused taken ≡ None
      → JoinStop history secret taken c preds Spent
  held : (id : UpdateId) (bytes : List ℕ) → IsListed history.schema.rule.authors (public_key secret) → HasRoom history (signed_length (body_by history (public_key secret) preds []))
      → IsMadeBy history secret taken preds [] c bytes → id_of bytes ≡ id → holds (map entry_of history.members) id ≡ true → JoinStop history secret taken c preds (Taken id)

module _ (history : HistoryData) (secret : SecretData) (taken : List Bool) (c : List ℕ) where
  -- there were two heads or more
  stop_after : (why : MakeFault) → IsTold why → IsJoinCause history secret taken c why → (preds : List UpdateId) × AfterLeastHeads history preds
  stop_after NotListed told cause = cause.0
  stop_after (TooManyHeads n) told cause = absurd cause
  stop_after (Invalid reason operation) told cause = absurd cause
  stop_after (TooLong len) told cause = absurd cause
  stop_after Full told cause = (cause.0, cause.1)
  stop_after Spent told cause = (cause.0, cause.1)
  stop_after (Taken id) told cause = (cause.0, cause.1)
  stop_after (DiskFault side) told cause = absurd told
  stop_after Memory told cause = absurd told

  stop_of : (preds : List UpdateId) (why : MakeFault) → AfterLeastHeads history preds → IsTold why → IsJoinCause history secret taken c why → JoinStop history secret taken c preds why
  stop_of preds NotListed after told cause = unlisted cause.1
  stop_of preds (TooManyHeads n) after told cause = absurd cause
  stop_of preds (Invalid reason operation) after told cause = absurd cause
  stop_of preds (TooLong len) after told cause = absurd cause
  stop_of preds Full after told cause = subst (λ (p : List UpdateId). JoinStop history secret taken c p Full) (one_least history cause.0 preds cause.1 after) (full cause.2 cause.3)
  stop_of preds Spent after told cause = subst (λ (p : List UpdateId). JoinStop history secret taken c p Spent) (one_least history cause.0 preds cause.1 after) (spent cause.2 cause.3 cause.4)
  stop_of preds (Taken id) after told cause =
      subst (λ (p : List UpdateId). JoinStop history secret taken c p (Taken id)) (one_least history cause.0 preds cause.1 after) (held id cause.4.0 cause.2 cause.3 cause.4.1 cause.4.2 cause.4.3)
  stop_of preds (DiskFault side) after told cause = absurd told
  stop_of preds Memory after told cause = absurd told

  stops_once : (preds : List UpdateId) (why other : MakeFault) → JoinStop history secret taken c preds why → JoinStop history secret taken c preds other → why ≡ other
  stops_once preds why other (unlisted never) (unlisted nor) = refl
  stops_once preds why other (unlisted never) (full listed room) = absurd (never listed)
  stops_once preds why other (unlisted never) (spent listed room none) = absurd (never listed)
  stops_once preds why other (unlisted never) (held id bytes listed room made is has) = absurd (never listed)
  stops_once preds why other (full listed small) (unlisted never) = absurd (never listed)
  stops_once preds why other (full listed small) (full too smaller) = refl
  stops_once preds why other (full listed small) (spent too room none) = absurd (small room)
  stops_once preds why other (full listed small) (held id bytes too room made is has) = absurd (small room)
  stops_once preds why other (spent listed room none) (unlisted never) = absurd (never listed)
  stops_once preds why other (spent listed room none) (full too small) = absurd (small room)
  stops_once preds why other (spent listed room none) (spent too more never) = refl
  stops_once preds why other (spent listed room none) (held id bytes too more made is has) = absurd (let least = made.least in cc)
  stops_once preds why other (held id bytes listed room made is has) (unlisted never) = absurd (never listed)
  stops_once preds why other (held id bytes listed room made is has) (full too small) = absurd (small room)
  stops_once preds why other (held id bytes listed room made is has) (spent too more none) = absurd (let least = made.least in cc)
  stops_once preds why other (held id bytes listed room made is has) (held name more too large twice so had) =
      ap Taken (sym is ∙ ap id_of (made_once history secret taken preds (plain []) c bytes more made twice) ∙ so)

  pub one_join_cause : (why other : MakeFault) → IsTold why → IsTold other → IsJoinCause history secret taken c why → IsJoinCause history secret taken c other → why ≡ other
  one_join_cause why other told known cause reason =
      let after = stop_after why told cause in
      stops_once after.0 why other (stop_of after.0 why after.1 told cause) (stop_of after.0 other after.1 known reason)

  few_or_several : (preds : List UpdateId) → HasNoneToJoin history → AfterLeastHeads history preds → ⊥
  few_or_several preds none after =
      let size = ap length (one_heads (map entry_of history.members) none.0 after.heads none.1 after.are) in
      let few = none.2 in
      let several = after.several in
      omega (arith, size, few, several)

  pub none_or_refused : (why : MakeFault) → IsTold why → HasNoneToJoin history → IsJoinCause history secret taken c why → ⊥
  none_or_refused why told none cause = let after = stop_after why told cause in few_or_several after.0 none after.1

  pub joined_or_none : (id : UpdateId) (new : HistoryData) → Joins history secret taken c id new → HasNoneToJoin history → ⊥
  joined_or_none id new joins none = few_or_several joins.preds none joins.after

  pub joined_or_refused : (id : UpdateId) (new : HistoryData) (why : MakeFault) → IsTold why → Joins history secret taken c id new → IsJoinCause history secret taken c why → ⊥
  joined_or_refused id new why told joins cause = by why (stop_of joins.preds why joins.after told cause)
    where
      by : (w : MakeFault) → JoinStop history secret taken c joins.preds w → ⊥
      by w (unlisted never) = never (made_listed history secret taken joins.preds (plain []) c joins.bytes joins.members joins.made)
      by w (full listed small) = small (made_room history secret taken joins.preds (plain []) c joins.bytes joins.members joins.made)
      by w (spent listed room none) = let least = joins.made.least in absurd cc
      by w (held name bytes listed room made is has) =
          let same : bytes ≡ joins.bytes = made_once history secret taken joins.preds (plain []) c bytes joins.bytes made joins.made in
          let named : name ≡ id_of joins.bytes = sym is ∙ ap id_of same in
          let there : holds (map entry_of history.members) (id_of joins.bytes) ≡ true = sym (ap (holds (map entry_of history.members)) named) ∙ has in
          let new = made_new history secret taken joins.preds (plain []) c joins.bytes joins.members joins.made in
          absurd cc

  pub joined_once : (id other : UpdateId) (new newer : HistoryData) → Joins history secret taken c id new → Joins history secret taken c other newer → id ≡ other
  joined_once id other new newer a b =
      let moved : IsMadeBy history secret taken b.preds [] c a.bytes = subst (λ (p : List UpdateId). IsMadeBy history secret taken p [] c a.bytes) (one_least history a.preds b.preds a.after b.after) a.made in
      a.id_is ∙ ap id_of (made_once history secret taken b.preds (plain []) c a.bytes b.bytes moved b.made) ∙ sym b.id_is

-- ---- making

-- why an update of operations that may be made was not, of which these are all heads
data MakeStop (history : HistoryData) (secret : SecretData) (taken : List Bool) (says : Contents) (c : List ℕ) (preds : List UpdateId) : MakeFault → Type 0 where
  too_long : (len : ℕ) → signed_length (body_with history (public_key secret) preds says) ≡ len → UPDATE_LIMIT < len → MakeStop history secret taken says c preds (TooLong len)
  no_room : signed_length (body_with history (public_key secret) preds says) ≤ UPDATE_LIMIT → ¬ (HasRoom history (signed_length (body_with history (public_key secret) preds says)))
      → MakeStop history secret taken says c preds Full
  no_index : HasLength history secret preds says → least_unused taken ≡ None → MakeStop history secret taken says c preds Spent
  id_held : (id : UpdateId) (bytes : List ℕ) → HasLength history secret preds says → IsMadeWith history secret taken preds says c bytes → id_of bytes ≡ id
      → holds (map entry_of history.members) id ≡ true → MakeStop history secret taken says c preds (Taken id)

-- what is short is not long
short_and_long : (size len : ℕ) → size ≡ len → UPDATE_LIMIT < len → size ≤ UPDATE_LIMIT → ⊥
short_and_long size len same long short = omega (arith, same, long, short)

module _ (ask : Meaning) (history : HistoryData) (secret : SecretData) (taken : List Bool) (says : Contents) (c : List ℕ) where
  too_many : (heads preds : List UpdateId) (n : ℕ) → AfterAllHeads history heads → AfterAllHeads history preds → length heads ≡ n → MAX_PREDS < n → length preds ≤ MAX_PREDS → ⊥
  too_many heads preds n here there size many few = let same = ap length (one_heads (map entry_of history.members) heads preds here there) in omega (arith, same, size, many, few)

  -- a made update was not refused before its operations were judged
  pub made_or_refused : (id : UpdateId) (new : HistoryData) (why : MakeFault) → IsBeforeVerdict why → MakesWith ask history secret taken says c id new → IsMakeCauseWith ask history secret taken says c why → ⊥
  made_or_refused id new NotListed early makes cause = cause (made_listed history secret taken makes.preds says c makes.bytes makes.members makes.made)
  made_or_refused id new (TooManyHeads n) early makes cause = too_many cause.1.0 makes.preds n cause.1.1 makes.after cause.1.2 cause.1.3 makes.made.spells.form.body.few_preds
  made_or_refused id new (Invalid reason operation) early makes cause = early
  made_or_refused id new (TooLong len) early makes cause = early
  made_or_refused id new Full early makes cause = early
  made_or_refused id new Spent early makes cause = early
  made_or_refused id new (Taken name) early makes cause = early
  made_or_refused id new (DiskFault side) early makes cause = early
  made_or_refused id new Memory early makes cause = early

  not_unlisted : (other : MakeFault) → IsTold other → ¬ (IsListed history.schema.rule.authors (public_key secret)) → IsMakeCauseWith ask history secret taken says c other → NotListed ≡ other
  not_unlisted NotListed told never cause = refl
  not_unlisted (TooManyHeads n) told never cause = absurd (never cause.0)
  not_unlisted (Invalid reason operation) told never cause = absurd (never cause.1.listed)
  not_unlisted (TooLong len) told never cause = absurd (never cause.1.may_make.listed)
  not_unlisted Full told never cause = absurd (never cause.1.may_make.listed)
  not_unlisted Spent told never cause = absurd (never cause.1.may_make.listed)
  not_unlisted (Taken id) told never cause = absurd (never cause.1.may_make.listed)
  not_unlisted (DiskFault side) told never cause = absurd told
  not_unlisted Memory told never cause = absurd told

  module _ (heads : List UpdateId) (n : ℕ) (listed : IsListed history.schema.rule.authors (public_key secret)) (after : AfterAllHeads history heads) (size : length heads ≡ n) (many : MAX_PREDS < n) where
    may_not : (preds : List UpdateId) → MayMake history secret preds → ⊥
    may_not preds may = too_many heads preds n after may.after size many may.few

    not_many : (other : MakeFault) → IsTold other → IsMakeCauseWith ask history secret taken says c other → TooManyHeads n ≡ other
    not_many NotListed told cause = absurd (cause listed)
    not_many (TooManyHeads m) told cause = ap TooManyHeads (sym size ∙ ap length (one_heads (map entry_of history.members) heads cause.1.0 after cause.1.1) ∙ cause.1.2)
    not_many (Invalid reason operation) told cause = absurd (may_not cause.0 cause.1)
    not_many (TooLong len) told cause = absurd (may_not cause.0 cause.1.may_make)
    not_many Full told cause = absurd (may_not cause.0 cause.1.may_make)
    not_many Spent told cause = absurd (may_not cause.0 cause.1.may_make)
    not_many (Taken id) told cause = absurd (may_not cause.0 cause.1.may_make)
    not_many (DiskFault side) told cause = absurd told
    not_many Memory told cause = absurd told

  -- where one refusal comes before, no other does
  pub one_make_cause : (why other : MakeFault) → IsBeforeVerdict why → IsTold other → IsMakeCauseWith ask history secret taken says c why → IsMakeCauseWith ask history secret taken says c other → why ≡ other
  one_make_cause NotListed other early told cause reason = not_unlisted other told cause reason
  one_make_cause (TooManyHeads n) other early told cause reason = not_many cause.1.0 n cause.0 cause.1.1 cause.1.2 cause.1.3 other told reason
  one_make_cause (Invalid reason operation) other early told cause given = absurd early
  one_make_cause (TooLong len) other early told cause reason = absurd early
  one_make_cause Full other early told cause reason = absurd early
  one_make_cause Spent other early told cause reason = absurd early
  one_make_cause (Taken id) other early told cause reason = absurd early
  one_make_cause (DiskFault side) other early told cause reason = absurd early
  one_make_cause Memory other early told cause reason = absurd early

  -- ---- where the operations are valid

  make_stop : (why : MakeFault) → IsAfterVerdict why → IsMakeCauseWith ask history secret taken says c why → (preds : List UpdateId) × AfterAllHeads history preds × MakeStop history secret taken says c preds why
  make_stop NotListed late cause = absurd late
  make_stop (TooManyHeads n) late cause = absurd late
  make_stop (Invalid reason operation) late cause = absurd late
  make_stop (TooLong len) late cause = (cause.0, cause.1.may_make.after, too_long len cause.2 cause.3)
  make_stop Full late cause = (cause.0, cause.1.may_make.after, no_room cause.2 cause.3)
  make_stop Spent late cause = (cause.0, cause.1.may_make.after, no_index cause.2 cause.3)
  make_stop (Taken id) late cause = (cause.0, cause.1.may_make.after, id_held id cause.3.0 cause.2 cause.3.1 cause.3.2 cause.3.3)
  make_stop (DiskFault side) late cause = absurd late
  make_stop Memory late cause = absurd late

  -- all heads are one list
  moved_stop : (preds others : List UpdateId) (why : MakeFault) → AfterAllHeads history preds → AfterAllHeads history others → MakeStop history secret taken says c preds why
      → MakeStop history secret taken says c others why
  moved_stop preds others why a b stop = subst (λ (p : List UpdateId). MakeStop history secret taken says c p why) (one_heads (map entry_of history.members) preds others a b) stop

  make_stops_once : (preds : List UpdateId) (why other : MakeFault) → MakeStop history secret taken says c preds why → MakeStop history secret taken says c preds other → why ≡ other
  make_stops_once preds why other (too_long len size long) (too_long more is longer) = ap TooLong (sym size ∙ is)
  make_stops_once preds why other (too_long len size long) (no_room short small) = absurd (short_and_long (signed_length (body_with history (public_key secret) preds says)) len size long short)
  make_stops_once preds why other (too_long len size long) (no_index fits none_left) = absurd (short_and_long (signed_length (body_with history (public_key secret) preds says)) len size long fits.short)
  make_stops_once preds why other (too_long len size long) (id_held id bytes fits made is has) = absurd (short_and_long (signed_length (body_with history (public_key secret) preds says)) len size long fits.short)
  make_stops_once preds why other (no_room short small) (too_long len size long) = absurd (short_and_long (signed_length (body_with history (public_key secret) preds says)) len size long short)
  make_stops_once preds why other (no_room short small) (no_room again less) = refl
  make_stops_once preds why other (no_room short small) (no_index fits none_left) = absurd (small fits.room)
  make_stops_once preds why other (no_room short small) (id_held id bytes fits made is has) = absurd (small fits.room)
  make_stops_once preds why other (no_index fits none_left) (too_long len size long) = absurd (short_and_long (signed_length (body_with history (public_key secret) preds says)) len size long fits.short)
  make_stops_once preds why other (no_index fits none_left) (no_room short small) = absurd (small fits.room)
  make_stops_once preds why other (no_index fits none_left) (no_index again gone) = refl
  make_stops_once preds why other (no_index fits none_left) (id_held id bytes again made is has) = absurd (let least = made.least in cc)
  make_stops_once preds why other (id_held id bytes fits made is has) (too_long len size long) = absurd (short_and_long (signed_length (body_with history (public_key secret) preds says)) len size long fits.short)
  make_stops_once preds why other (id_held id bytes fits made is has) (no_room short small) = absurd (small fits.room)
  make_stops_once preds why other (id_held id bytes fits made is has) (no_index again none_left) = absurd (let least = made.least in cc)
  make_stops_once preds why other (id_held id bytes fits made is has) (id_held name more again twice so had) =
      ap Taken (sym is ∙ ap id_of (made_once history secret taken preds says c bytes more made twice) ∙ so)

  -- one refusal of operations that are valid
  pub one_late_cause : (why other : MakeFault) → IsAfterVerdict why → IsAfterVerdict other → IsMakeCauseWith ask history secret taken says c why → IsMakeCauseWith ask history secret taken says c other → why ≡ other
  one_late_cause why other late later cause reason =
      let first = make_stop why late cause in
      let second = make_stop other later reason in
      make_stops_once second.0 why other (moved_stop first.0 second.0 why first.1 second.1 first.2) second.2

  -- and none where an update is made
  pub made_or_stopped : (id : UpdateId) (new : HistoryData) (why : MakeFault) → IsAfterVerdict why → MakesWith ask history secret taken says c id new → IsMakeCauseWith ask history secret taken says c why → ⊥
  made_or_stopped id new why late makes cause = let first = make_stop why late cause in by why (moved_stop first.0 makes.preds why first.1 makes.after first.2)
    where
      by : (w : MakeFault) → MakeStop history secret taken says c makes.preds w → ⊥
      by w (too_long len size long) =
          short_and_long (signed_length (body_with history (public_key secret) makes.preds says)) len size long (made_short history secret taken makes.preds says c makes.bytes makes.members makes.made)
      by w (no_room short small) = small (made_room history secret taken makes.preds says c makes.bytes makes.members makes.made)
      by w (no_index fits none_left) = let least = makes.made.least in absurd cc
      by w (id_held name bytes fits made is has) =
          let same : bytes ≡ makes.bytes = made_once history secret taken makes.preds says c bytes makes.bytes made makes.made in
          let called : name ≡ id_of makes.bytes = sym is ∙ ap id_of same in
          let there : holds (map entry_of history.members) (id_of makes.bytes) ≡ true = sym (ap (holds (map entry_of history.members)) called) ∙ has in
          let new_id = made_new history secret taken makes.preds says c makes.bytes makes.members makes.made in
          absurd cc

  -- one update is made
  pub made_one : (id other : UpdateId) (new newer : HistoryData) → MakesWith ask history secret taken says c id new → MakesWith ask history secret taken says c other newer → id ≡ other
  made_one id other new newer a b =
      let moved : IsMadeWith history secret taken b.preds says c a.bytes =
      subst (λ (p : List UpdateId). IsMadeWith history secret taken p says c a.bytes) (one_heads (map entry_of history.members) a.preds b.preds a.after b.after) a.made in
      a.id_is ∙ ap id_of (made_once history secret taken b.preds says c a.bytes b.bytes moved b.made) ∙ sym b.id_is
