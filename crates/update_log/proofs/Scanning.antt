-- Members of which one more is taken or refused, and the records that they are in.
use Rattle.std.proofs.Common.{◌≡◌, ◌≢◌, ℕ, ◌+◌, ◌<◌, ◌≤◌, Bool, true, false, not, List, [], ◌∷◌, ◌++◌, length, map, refl, sym, ap, subst, ◌∙◌, append_assoc, append-nil, length-append, All, Vec, Option, Some, None, Result, Ok, Err, arith}
use Rattle.std.specs.Prelude.{find, is_some, nat_eq}
use Rattle.std.proofs.lemmas.Bool.Decides.{nat_tests}
use Rattle.std.proofs.lemmas.List.{map-append, length-map}
use Rattle.std.specs.declared.alloc.Global.{Global}
use Rattle.std.proofs.lemmas.List.Elements.{All-head, All-tail, All-push}
use Rattle.bec_bytes.specs.Framed.{framed, stream_of, HoldsPiece}
use Rattle.std.proofs.lemmas.List.Concat.{flat_map-append}
use Rattle.bec_bytes.proofs.Frames.{length-framed, one_front, stream_of-cons, stream_of-nil, stream_of-push}
use Rattle.update_model.specs.declared.update_id.UpdateId.{UpdateId}
use Rattle.update_model.specs.Entry.{Entry}
use Rattle.update_model.specs.Graph.{IsNext, IsClosed, holds, lacking, position_of, is_within}
use Rattle.update_model.specs.Rule.{RuleData}
use Rattle.update_model.proofs.Closed.{Follows-push, Follows-pop, IsNext-from_tests, position_of-held}
use Rattle.update_codec.specs.Parts.{entry_of}
use Rattle.update_codec.specs.declared.limits.TheConstants.{UPDATE_LIMIT}
use Rattle.record_check.specs.Records.{IsCheckedFront, bytes_of}
use Rattle.update_check.specs.Signed.{IsChecked}
use Rattle.update_check.specs.Members.{AreMembers}
use Rattle.hash_graph.specs.declared.added.Added.{Added}
use Rattle.hash_graph.specs.declared.added.Added.TheVariants.{New, Known}
use Rattle.hash_graph.specs.declared.refusal.Refusal.{Refusal}
use Rattle.hash_graph.specs.declared.refusal.Refusal.TheVariants.{Lacks, Full, Memory}
use Rattle.hash_graph.specs.Answer.{answer_by, answer_of, IsNew, IsRefusedBy}
use Rattle.update_log.specs.Reading.{HoldsRecords, IsStop, StopsAt, TakesPart, TakesSome}

-- ---- one member more

pub no_members : (rule : RuleData) → AreMembers rule []
no_members rule = record { checked = λ k d low. absurd (omega (arith, low)); closed = tt; within = refl }

-- the last member
last_of : {X : Type 0} (P : X → Type 0) (xs : List X) (x : X) → All P (xs ++ x ∷ []) → P x
last_of P [] x all = All-head P x [] all
last_of P (y ∷ xs) x all = last_of P xs x (All-tail P y (xs ++ x ∷ []) all)

-- a member stands next exactly where a graph takes it as new
new_is_next : (graph : List Entry) (e : Entry) (n : ℕ) → answer_of graph e ≡ Ok (New n) → IsNext graph e × (is_within (graph ++ e ∷ []) ≡ true)
new_is_next graph e n is = by_case (position_of graph e.id) (lacking graph e) (is_within (graph ++ e ∷ [])) refl refl refl is
  where
    by_case : (p : Option ℕ) (lack : Option UpdateId) (fits : Bool) → position_of graph e.id ≡ p → lacking graph e ≡ lack → is_within (graph ++ e ∷ []) ≡ fits
        → answer_by p lack fits (length graph) ≡ Ok (New n) → IsNext graph e × (is_within (graph ++ e ∷ []) ≡ true)
    by_case (Some k) lack fits at_p at_l at_f is = absurd cc
    by_case None (Some id) fits at_p at_l at_f is = absurd cc
    by_case None None false at_p at_l at_f is = absurd cc
    by_case None None true at_p at_l at_f is = (IsNext-from_tests graph e at_p at_l, at_f)

none_lacking : (graph : List Entry) (preds : List UpdateId) → All (λ p. holds graph p ≡ true) preds → find (λ p. not (holds graph p)) preds ≡ None
none_lacking graph [] held = refl
none_lacking graph (p ∷ ps) held = rw (All-head (λ q. holds graph q ≡ true) p ps held) (none_lacking graph ps (All-tail (λ q. holds graph q ≡ true) p ps held))

next_is_new : (graph : List Entry) (e : Entry) → IsNext graph e → is_within (graph ++ e ∷ []) ≡ true → answer_of graph e ≡ Ok (New (length graph))
next_is_new graph e next within = by_place (position_of graph e.id) (position_of-held graph e.id ∙ next.new)
  where
    by_place : (p : Option ℕ) → is_some p ≡ false → answer_by p (lacking graph e) (is_within (graph ++ e ∷ [])) (length graph) ≡ Ok (New (length graph))
    by_place (Some k) is = absurd cc
    by_place None is = rw (none_lacking graph e.preds next.preds, within) refl

-- the members in front of the last one, and what a graph of them answers to it
push_is_new : (rule : RuleData) (old : List (List ℕ)) (r : List ℕ) → AreMembers rule (old ++ r ∷ []) → answer_of (map entry_of old) (entry_of r) ≡ Ok (New (length (map entry_of old)))
push_is_new rule old r are =
    let parts = map-append entry_of old (r ∷ []) in
    let closed : IsClosed (map entry_of old ++ entry_of r ∷ []) = subst IsClosed parts are.closed in
    next_is_new (map entry_of old) (entry_of r) (Follows-pop [] (map entry_of old) (entry_of r) closed).1 (ap is_within (sym parts) ∙ are.within)

-- a new member stands last
pub takes_new : (rule : RuleData) (old new : List (List ℕ)) (m r : List ℕ) (n : ℕ) → AreMembers rule old → IsChecked rule m → m ≡ r → answer_of (map entry_of old) (entry_of m) ≡ Ok (New n)
    → new ≡ old ++ m ∷ [] → (new ≡ old ++ r ∷ []) × AreMembers rule new
takes_new rule old new m r n are checked same is is_new =
    let next = new_is_next (map entry_of old) (entry_of m) n is in
    let parts = map-append entry_of old (m ∷ []) in
    let more : AreMembers rule (old ++ m ∷ []) = record {
      checked = All-push (IsChecked rule) old m are.checked checked;
      closed = subst IsClosed (sym parts) (Follows-push [] (map entry_of old) (entry_of m) are.closed next.0);
      within = ap is_within parts ∙ next.1;
    } in
    (is_new ∙ ap (λ (x : List ℕ). old ++ x ∷ []) same, subst (AreMembers rule) (sym is_new) more)

-- memory runs out only for a member that can stand last
pub memory_is_next : (rule : RuleData) (old : List (List ℕ)) (m : List ℕ) → AreMembers rule old → IsChecked rule m → IsRefusedBy Memory (answer_of (map entry_of old) (entry_of m)) → AreMembers rule (old ++ m ∷ [])
memory_is_next rule old m are checked new = by_answer (answer_of (map entry_of old) (entry_of m)) refl new
  where
    by_answer : (answer : Result Added Refusal) → answer_of (map entry_of old) (entry_of m) ≡ answer → IsNew answer → AreMembers rule (old ++ m ∷ [])
    by_answer (Ok (New n)) is it = (takes_new rule old (old ++ m ∷ []) m m n are checked refl is refl).1
    by_answer (Ok (Known n)) is it = absurd it
    by_answer (Err why) is it = absurd it

-- one that is held can't stand last
pub known_stops : (rule : RuleData) (old : List (List ℕ)) (m r : List ℕ) (n : ℕ) → m ≡ r → answer_of (map entry_of old) (entry_of m) ≡ Ok (Known n) → AreMembers rule (old ++ r ∷ []) → ⊥
known_stops rule old m r n same is are =
    let new = push_is_new rule old r are in
    let known = sym (ap (λ (x : List ℕ). answer_of (map entry_of old) (entry_of x)) same) ∙ is in absurd cc

-- nor can one that is refused
pub refused_stops : (rule : RuleData) (old : List (List ℕ)) (m r : List ℕ) (why : Refusal) → m ≡ r → IsRefusedBy why (answer_of (map entry_of old) (entry_of m)) → (why ≡ Memory → ⊥)
    → AreMembers rule (old ++ r ∷ []) → ⊥
refused_stops rule old m r (Lacks id) same is not are =
    let new = push_is_new rule old r are in
    let refused = sym (ap (λ (x : List ℕ). answer_of (map entry_of old) (entry_of x)) same) ∙ is in absurd cc
refused_stops rule old m r Full same is not are =
    let new = push_is_new rule old r are in
    let refused = sym (ap (λ (x : List ℕ). answer_of (map entry_of old) (entry_of x)) same) ∙ is in absurd cc
refused_stops rule old m r Memory same is not are = not refl

-- nor can what is no checked update
pub unchecked_stops : (rule : RuleData) (old : List (List ℕ)) (r : List ℕ) → (IsChecked rule r → ⊥) → AreMembers rule (old ++ r ∷ []) → ⊥
unchecked_stops rule old r not are = not (last_of (IsChecked rule) old r are.checked)

-- ---- where the records end

last_short : (rule : RuleData) (old : List (List ℕ)) (r : List ℕ) → AreMembers rule (old ++ r ∷ []) → length r ≤ UPDATE_LIMIT
last_short rule old r are = (last_of (IsChecked rule) old r are.checked).1.spells.short

-- a record that can't be taken is where a list ends
pub stop_here : (rule : RuleData) (members : List (List ℕ)) (rest r more : List ℕ) → HoldsPiece UPDATE_LIMIT rest r more → (AreMembers rule (members ++ r ∷ []) → ⊥) → IsStop rule members rest
stop_here rule members rest r more holds refused other tail e are =
    let short = holds.short in
    let low = last_short rule members other are in
    let same = one_front r other more tail (omega (arith, short)) (omega (arith, low)) (sym holds.parts ∙ e) in
    refused (subst (λ (x : List ℕ). AreMembers rule (members ++ x ∷ [])) (sym same.0) are)

-- and so is a place where no whole record stands
pub stop_none : (rule : RuleData) (members : List (List ℕ)) (rest : List ℕ) → ((r more : List ℕ) → HoldsPiece UPDATE_LIMIT rest r more → ⊥) → IsStop rule members rest
stop_none rule members rest none other tail e are = none other tail record { short = last_short rule members other are; parts = e }

-- the records of members, and one more
pub one_more_record : (bytes : List ℕ) (old new : List (List ℕ)) (r before after : List ℕ) → new ≡ old ++ r ∷ [] → bytes ≡ stream_of old ++ before → before ≡ framed r ++ after → bytes ≡ stream_of new ++ after
one_more_record bytes old new r before after is_new parts is =
    parts ∙ ap (λ (l : List ℕ). stream_of old ++ l) is ∙ sym (append_assoc (stream_of old) (framed r) after) ∙ ap (λ (l : List ℕ). l ++ after) (sym (stream_of-push old r) ∙ ap stream_of (sym is_new))

pub one_more_length : (old new : List (List ℕ)) (r : List ℕ) → new ≡ old ++ r ∷ [] → length (stream_of new) ≡ length (stream_of old) + (4 + length r)
one_more_length old new r is_new =
    ap (λ (l : List (List ℕ)). length (stream_of l)) is_new ∙ ap length (stream_of-push old r) ∙ length-append (stream_of old) (framed r) ∙ ap (λ (n : ℕ). length (stream_of old) + n) (length-framed r)

pub no_records : (graph : List (List ℕ)) (bytes : List ℕ) → graph ≡ [] → bytes ≡ stream_of graph ++ bytes
no_records graph bytes is = sym (ap (λ (l : List (List ℕ)). stream_of l ++ bytes) is ∙ ap (λ (l : List ℕ). l ++ bytes) stream_of-nil)

pub no_length : (graph : List (List ℕ)) → graph ≡ [] → 0 ≡ length (stream_of graph)
no_length graph is = sym (ap (λ (l : List (List ℕ)). length (stream_of l)) is ∙ ap length stream_of-nil)

-- ---- records that are taken in parts

pub middle_of : {X : Type 0} (P : X → Type 0) (xs ys : List X) (x : X) → All P (xs ++ x ∷ ys) → P x
middle_of P [] ys x all = All-head P x ys all
middle_of P (y ∷ xs) ys x all = middle_of P xs ys x (All-tail P y (xs ++ x ∷ ys) all)

-- what was taken of the front of some records
pub takes_more : (rule : RuleData) (old records front rest new : List (List ℕ)) → records ≡ front ++ rest → TakesSome rule old front new → TakesSome rule old records new
takes_more rule old records front rest new parts some = record {
  taken = some.taken;
  next = some.next;
  more = some.more ++ rest;
  parts = parts ∙ ap (λ (l : List (List ℕ)). l ++ rest) some.parts ∙ append_assoc some.taken (some.next ∷ some.more) rest;
  list = some.list;
  members = some.members;
  refused = some.refused;
}

fewer : (rule : RuleData) (old records front rest new : List (List ℕ)) → records ≡ front ++ rest → length front + 1 ≤ length records → ((r : List ℕ) (more : List (List ℕ)) → rest ≡ r ∷ more → IsChecked rule r → ⊥)
    → new ≡ old ++ front → AreMembers rule new → TakesSome rule old records new
fewer rule old records front [] new parts few not list are = absurd (let size = ap length parts in omega (arith, length-append front [], few, size))
fewer rule old records front (r ∷ more) new parts few not list are = record {
  taken = front;
  next = r;
  more = more;
  parts = parts;
  list = list;
  members = are;
  refused = unchecked_stops rule new r (not r more refl);
}

-- the records in front of the first that is no checked update
pub takes_front : (rule : RuleData) (old records front new : List (List ℕ)) → IsCheckedFront rule records front → length front + 1 ≤ length records → (new ≡ old ++ front) × AreMembers rule new → TakesSome rule old records new
takes_front rule old records front new is few taken = fewer rule old records front is.rest new is.parts few is.refused taken.0 taken.1

none_left : (records front rest : List (List ℕ)) → records ≡ front ++ rest → length records ≤ length front → front ≡ records
none_left records front [] parts few = sym (parts ∙ append-nil front)
none_left records front (r ∷ more) parts few = absurd (let size = ap length parts in omega (arith, length-append front (r ∷ more), few, size))

-- all records
pub takes_all : (rule : RuleData) (old records front new : List (List ℕ)) → IsCheckedFront rule records front → length records ≤ length front → (new ≡ old ++ front) × AreMembers rule new → (new ≡ old ++ records) × AreMembers rule new
takes_all rule old records front new is few taken = (taken.0 ∙ ap (λ (l : List (List ℕ)). old ++ l) (none_left records front is.rest is.parts few), taken.1)

-- all of the front was taken, which is as long as the records or not
pub takes_counted : (rule : RuleData) (old records front new : List (List ℕ)) (checked count : ℕ) → IsCheckedFront rule records front → checked ≡ length front → count ≡ length records
    → (new ≡ old ++ front) × AreMembers rule new → TakesPart rule old records (nat_eq checked count) new
takes_counted rule old records front new checked count is long many taken = by_test (nat_eq checked count) refl
  where
    by_test : (b : Bool) → nat_eq checked count ≡ b → TakesPart rule old records b new
    by_test true e = let same : checked ≡ count = grind (arith, nat_tests) in takes_all rule old records front new is (omega arith) taken
    by_test false e =
        let other : checked ≢ count = grind (arith, nat_tests) in
        let size = ap length is.parts in
        takes_front rule old records front new is (omega (arith, length-append front is.rest)) taken

stream_parts : (xs ys : List (List ℕ)) → stream_of (xs ++ ys) ≡ stream_of xs ++ stream_of ys
unfolding stream_of
stream_parts xs ys = flat_map-append framed xs ys

-- a part that is taken whole
pub part_taken : (bytes before after : List ℕ) (old records new : List (List ℕ)) → bytes ≡ stream_of old ++ before → before ≡ stream_of records ++ after → new ≡ old ++ records → bytes ≡ stream_of new ++ after
part_taken bytes before after old records new is holds list =
    is ∙ ap (λ (l : List ℕ). stream_of old ++ l) holds ∙ sym (append_assoc (stream_of old) (stream_of records) after)
    ∙ ap (λ (l : List ℕ). l ++ after) (sym (stream_parts old records) ∙ ap stream_of (sym list))

pub part_length : (old records new : List (List ℕ)) → new ≡ old ++ records → length (stream_of new) ≡ length (stream_of old) + length (stream_of records)
part_length old records new list = ap (λ (l : List (List ℕ)). length (stream_of l)) list ∙ ap length (stream_parts old records) ∙ length-append (stream_of old) (stream_of records)

-- a part that is taken up to a place is where a list ends
pub part_stops : (rule : RuleData) (bytes before after : List ℕ) (old records new : List (List ℕ)) → bytes ≡ stream_of old ++ before → HoldsRecords before records after → TakesSome rule old records new → StopsAt rule bytes new
part_stops rule bytes before after old records new is holds some =
    let tail = stream_of some.more ++ after in
    let split : stream_of records ≡ stream_of some.taken ++ (framed some.next ++ stream_of some.more) =
    ap stream_of some.parts ∙ stream_parts some.taken (some.next ∷ some.more) ∙ ap (λ (l : List ℕ). stream_of some.taken ++ l) (stream_of-cons some.next some.more) in
    let from : before ≡ stream_of some.taken ++ (framed some.next ++ tail) =
    holds.parts ∙ ap (λ (l : List ℕ). l ++ after) split ∙ append_assoc (stream_of some.taken) (framed some.next ++ stream_of some.more) after
    ∙ ap (λ (l : List ℕ). stream_of some.taken ++ l) (append_assoc (framed some.next) (stream_of some.more) after) in
    let short = middle_of (λ (r : List ℕ). length r ≤ UPDATE_LIMIT) some.taken some.more some.next (subst (All (λ (r : List ℕ). length r ≤ UPDATE_LIMIT)) some.parts holds.short) in (
      framed some.next ++ tail,
      part_taken bytes before (framed some.next ++ tail) old some.taken new is from some.list,
      stop_here rule new (framed some.next ++ tail) some.next tail (record { short = short; parts = refl }) some.refused,
    )

pub part_shorter : (rule : RuleData) (old records new : List (List ℕ)) → TakesSome rule old records new → length (stream_of new) ≤ length (stream_of old) + length (stream_of records)
part_shorter rule old records new some =
    omega (
      arith,
      part_length old some.taken new some.list,
      ap (λ (l : List (List ℕ)). length (stream_of l)) some.parts,
      ap length (stream_parts some.taken (some.next ∷ some.more)),
      length-append (stream_of some.taken) (stream_of (some.next ∷ some.more)),
    )

-- a part has some bytes
pub part_long : (records : List (List ℕ)) (n : ℕ) → n ≡ length records → 0 < n → 4 ≤ length (stream_of records)
part_long [] n is some = absurd (omega arith)
part_long (r ∷ rs) n is some = omega (arith, ap length (stream_of-cons r rs), length-append (framed r) (stream_of rs), length-framed r)

-- one record more in a part
pub one_more_held : (before after later : List ℕ) (records more : List (List ℕ)) (r : List ℕ) → HoldsRecords before records after → HoldsPiece UPDATE_LIMIT after r later → more ≡ records ++ r ∷ [] → HoldsRecords before more later
one_more_held before after later records more r holds piece is_more = record {
  short = subst (All (λ (x : List ℕ). length x ≤ UPDATE_LIMIT)) (sym is_more) (All-push (λ (x : List ℕ). length x ≤ UPDATE_LIMIT) records r holds.short piece.short);
  parts = one_more_record before records more r after later is_more holds.parts piece.parts;
}

pub none_held : (before : List ℕ) (records : List (List ℕ)) → records ≡ [] → HoldsRecords before records before
none_held before records is = record {
  short = subst (All (λ (x : List ℕ). length x ≤ UPDATE_LIMIT)) (sym is) (λ k d low. absurd (omega (arith, low)));
  parts = no_records records before is;
}

bytes_push : (old new : List (Vec ℕ Global)) (r : Vec ℕ Global) → new ≡ old ++ r ∷ [] → bytes_of new ≡ bytes_of old ++ r.items ∷ []
bytes_push old new r is = ap bytes_of is ∙ map-append (λ (v : Vec ℕ Global). v.items) old (r ∷ [])

-- one record more is read
pub one_more_read : (before after later : List ℕ) (old new : List (Vec ℕ Global)) (r : Vec ℕ Global) → new ≡ old ++ r ∷ [] → HoldsRecords before (bytes_of old) after → HoldsPiece UPDATE_LIMIT after r.items later
    → HoldsRecords before (bytes_of new) later
one_more_read before after later old new r is holds piece = one_more_held before after later (bytes_of old) (bytes_of new) r.items holds piece (bytes_push old new r is)

pub one_more_read_length : (old new : List (Vec ℕ Global)) (r : Vec ℕ Global) → new ≡ old ++ r ∷ [] → length (stream_of (bytes_of new)) ≡ length (stream_of (bytes_of old)) + (4 + length r.items)
one_more_read_length old new r is = one_more_length (bytes_of old) (bytes_of new) r.items (bytes_push old new r is)

none_behind : (records : List (List ℕ)) (before after : List ℕ) → HoldsRecords before records after → length records ≡ 0 → ((r rest : List ℕ) → HoldsPiece UPDATE_LIMIT after r rest → ⊥)
    → (r rest : List ℕ) → HoldsPiece UPDATE_LIMIT before r rest → ⊥
none_behind [] before after holds few none r rest piece = none r rest (subst (λ (l : List ℕ). HoldsPiece UPDATE_LIMIT l r rest) (holds.parts ∙ ap (λ (l : List ℕ). l ++ after) stream_of-nil) piece)
none_behind (x ∷ xs) before after holds few none r rest piece = absurd (omega (arith, few))

-- where no record was read, none stands
pub none_read : (records : List (Vec ℕ Global)) (before after : List ℕ) → HoldsRecords before (bytes_of records) after → length records ≡ 0 → ((r rest : List ℕ) → HoldsPiece UPDATE_LIMIT after r rest → ⊥)
    → (r rest : List ℕ) → HoldsPiece UPDATE_LIMIT before r rest → ⊥
none_read records before after holds few = none_behind (bytes_of records) before after holds (length-map records (λ (v : Vec ℕ Global). v.items) ∙ few)
