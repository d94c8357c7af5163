-- How a session begins, and what it remembers.
use Rattle.std.proofs.Common.{◌≡◌, ℕ, ◌≤◌, Bool, true, false, ◌||◌, List, [], All, length, map, take, take_all, Some, None, Option, Result, Ok, Err, IfOk, refl, sym, ap, subst, ◌∙◌, arith, length-take}
use Rattle.std.specs.List.Sorted.{IsStrictlySortedBy}
use Rattle.std.specs.declared.alloc.AllocError.{AllocError}
use Rattle.std.proofs.lemmas.List.{length-map}
use Rattle.std.proofs.lemmas.List.Elements.{All-nil}
use Rattle.update_check.specs.Holding.{IsHeld}
use Rattle.update_check.specs.Signed.{IsChecked}
use Rattle.update_codec.specs.Parts.{entry_of}
use Rattle.update_model.specs.declared.update_id.UpdateId.{UpdateId}
use Rattle.update_model.specs.Batch.{Limits}
use Rattle.update_model.specs.Entry.{Entry, id_cmp}
use Rattle.update_model.specs.Graph.{has}
use Rattle.update_model.specs.Rule.{RuleData}
use Rattle.session_rules.specs.declared.limits.TheConstants.{MAX_NEEDS}
use Rattle.session_rules.specs.declared.role.Role.{Role}
use Rattle.session_rules.specs.declared.role.Role.TheVariants.{Initiator, Responder}
use Rattle.session_rules.specs.declared.end.End.{End}
use Rattle.session_rules.specs.declared.end.End.TheVariants.{Done}
use Rattle.session_rules.specs.Course as course
use Rattle.session_rules.specs.Course.{opened}
use Rattle.session_rules.specs.Pair.{unfed}
use Rattle.session_rules.specs.Steps.{begun, AreLeast, IsHello, Joins, heads_in}
use Rattle.sync_session.specs.Greeting.{IsHelloOver}
use Rattle.sync_session.specs.Kept.{Kept, BelongsTo, Stands, hello_of, seen}
use Rattle.sync_session.specs.declared.out.Out.{Out}
use Rattle.sync_frames.specs.Payload as payload
use Rattle.sync_session.specs.Starts.{before_hello, IsFresh, RemembersBy, StartsAs}
use Rattle.sync_session.proofs.Hellos.{members_few}
use Rattle.sync_session.proofs.Turning.{sorted_take}

-- ---- the beginning

-- what begins over a list that a holder has belongs there
belongs_first : (limits : Limits) (rule : RuleData) (role : Role) (database node : List ℕ) (old : List UpdateId) (members : List (List ℕ)) (k : Kept) → IsHeld limits rule members
    → seen members k ≡ opened role database node old (map entry_of members) → Stands rule k members → BelongsTo limits rule k members
belongs_first limits rule role database node old members k held is stands _ = record {
  stands = stands;
  continues = record {
    role = role;
    database = database;
    node = node;
    old = old;
    first = map entry_of members;
    few = let most = members_few limits rule members held in let same = length-map members entry_of in omega arith;
    feeds = unfed (seen members k) (map entry_of members) is refl;
  };
}

nothing_under : (rule : RuleData) → All (IsChecked rule) []
nothing_under rule = All-nil (IsChecked rule)

-- a responder
pub responder_belongs : (limits : Limits) (rule : RuleData) (role : Role) (database node : List ℕ) (old : List UpdateId) (members : List (List ℕ)) (k : Kept) → IsHeld limits rule members → role ≡ Responder
    → k ≡ before_hello role database node old → BelongsTo limits rule k members
responder_belongs limits rule role database node old members k held responds is =
    subst (λ (x : Kept). BelongsTo limits rule x members) (sym (is ∙ ap (λ (r : Role). before_hello r database node old) responds))
    (belongs_first limits rule Responder database node old members (before_hello Responder database node old) held refl
    (record { below = omega arith; heads = λ id. refl; under = nothing_under rule; seeks = λ going id free named. absurd cc }))

-- a responder before any frame
pub fresh_opened : (k : Kept) (members : List (List ℕ)) → IsFresh Responder k → seen members k ≡ opened Responder k.state.database k.state.node k.state.old (map entry_of members)
fresh_opened k members is = ap (seen members) is

-- a session as it is made
pub fresh_role : (role : Role) (k : Kept) → IsFresh role k → IsFresh k.state.role k
fresh_role role k is = subst (λ (r : Role). IsFresh r k) (sym (ap (λ (x : Kept). x.state.role) is)) is

pub fresh_is : (role : Role) (database node : List ℕ) (old : List UpdateId) (k : Kept) → k ≡ before_hello role database node old → IsFresh role k
fresh_is role database node old k is = subst (λ (x : Kept). IsFresh role x) (sym is) refl

-- what an initiator begins with stays its own
pub starts_at : (k : Kept) (members : List (List ℕ)) (next : Kept) (gives : Out) → IsFresh Initiator k → StartsAs k.state.role k.state.database k.state.node k.state.old members next gives
    → StartsAs Initiator k.state.database k.state.node k.state.old members next gives
starts_at k members next gives is starts = subst (λ (r : Role). StartsAs r k.state.database k.state.node k.state.old members next gives) (ap (λ (x : Kept). x.state.role) is) starts

-- an initiator once its Hello is made
abbrev pub with_own : Role → List ℕ → List ℕ → List UpdateId → ℕ → List UpdateId → Kept
with_own role database node old below heads = record (before_hello role database node old) { state = record (begun role database node old []) { turns = 1 }; below = below; heads = heads }

own_seen : (database node : List ℕ) (old : List UpdateId) (members : List (List ℕ)) (below : ℕ) (heads : List UpdateId) → below ≡ length members
    → seen members (with_own Initiator database node old below heads) ≡ opened Initiator database node old (map entry_of members)
own_seen database node old members below heads all =
    ap (λ (start : List Entry). record (begun Initiator database node old start) { turns = 1 }) (take_all below (map entry_of members) (let same = length-map members entry_of in omega arith))

module _ (role : Role) (database node : List ℕ) (old : List UpdateId) (members : List (List ℕ)) (k : Kept) (own : payload.HelloData) (begins : role ≡ Initiator) (hello : IsHelloOver database node old (map entry_of members) own)
    (is : k ≡ with_own role database node old (length members) own.heads) where
  all_there : take (length members) (map entry_of members) ≡ map entry_of members
  all_there = take_all (length members) (map entry_of members) (let long = length-map members entry_of in omega arith)

  pub initiator_starts : (send : List ℕ) → send ≡ [] → StartsAs role database node old members k (record { hello = Some own; send = send; turn = None; end = None })
  initiator_starts send none = rw (is, begins, none) (record {
    state = own_seen database node old members (length members) own.heads refl;
    greets = (hello_of own, over_list, refl);
    failed = refl;
  })
    where
      over_list : IsHello (seen members (with_own Initiator database node old (length members) own.heads)) (hello_of own)
      over_list = rw all_there (record { database = hello.database; node = hello.node; heads = hello.heads; old = hello.old; since = hello.since; are_since = hello.are_since; filter = hello.filter })

  pub initiator_belongs : (limits : Limits) (rule : RuleData) → IsHeld limits rule members → BelongsTo limits rule k members
  initiator_belongs limits rule held =
      subst (λ (x : Kept). BelongsTo limits rule x members) (sym (is ∙ ap (λ (r : Role). with_own r database node old (length members) own.heads) begins))
      (belongs_first limits rule Initiator database node old members (with_own Initiator database node old (length members) own.heads) held (own_seen database node old members (length members) own.heads refl)
      (record { below = omega arith; heads = λ id. rw all_there (hello.heads.exact id); under = nothing_under rule; seeks = λ going id free named. absurd cc }))

-- ---- what is remembered

or_none : (b : Bool) → b ≡ (b || false)
or_none true = refl
or_none false = refl

-- the least of some ids
pub least_of_one : (start heads all ids : List UpdateId) → start ≡ [] → Joins start heads all → ids ≡ take MAX_NEEDS all → AreLeast (λ id. has heads id || false) MAX_NEEDS ids
least_of_one start heads all ids none j front = record {
  all = all;
  rising = j.rising;
  exact = λ id. j.exact id ∙ ap (λ (xs : List UpdateId). has xs id || has heads id) none ∙ or_none (has heads id);
  front = front;
}

-- and of some and others
pub least_of_both : (start heads first peers all ids : List UpdateId) → start ≡ [] → Joins start heads first → Joins first peers all → ids ≡ take MAX_NEEDS all
    → AreLeast (λ id. has heads id || has peers id) MAX_NEEDS ids
least_of_both start heads first peers all ids none j j2 front = record {
  all = all;
  rising = j2.rising;
  exact = λ id. j2.exact id ∙ ap (λ (b : Bool). b || has peers id) (j.exact id ∙ ap (λ (xs : List UpdateId). has xs id || has heads id) none);
  front = front;
}

-- the same ids, found otherwise
pub least_same : (p q : UpdateId → Bool) (ids : List UpdateId) → ((id : UpdateId) → p id ≡ q id) → AreLeast p MAX_NEEDS ids → AreLeast q MAX_NEEDS ids
least_same p q ids same least = record { all = least.all; rising = least.rising; exact = λ id. least.exact id ∙ same id; front = least.front }

-- the least ids are few, and rise
pub least_few : (test : UpdateId → Bool) (ids : List UpdateId) → AreLeast test MAX_NEEDS ids → length ids ≤ MAX_NEEDS
least_few test ids least = rw least.front (omega (arith, length-take MAX_NEEDS least.all))

pub least_rising : (test : UpdateId → Bool) (ids : List UpdateId) → AreLeast test MAX_NEEDS ids → IsStrictlySortedBy id_cmp ids
least_rising test ids least = rw least.front (sorted_take MAX_NEEDS least.all least.rising)

-- an end that is done remembers the least heads of both Hellos
pub done_remembers : (k : Kept) (ids : List UpdateId) → k.failed ≡ false → k.state.ended ≡ Some Done → AreLeast (λ id. has k.heads id || has (heads_in k.state.peer) id) MAX_NEEDS ids → RemembersBy k.failed k ids
done_remembers k ids fine done least = subst (λ (b : Bool). RemembersBy b k ids) (sym fine) (λ rule members stands.
    subst (λ (e : Option End). course.RemembersBy e (seen members k) ids) (sym done)
    (least_same (λ id. has k.heads id || has (heads_in k.state.peer) id) _ ids (λ id. ap (λ (b : Bool). b || has (heads_in k.state.peer) id) (stands.heads id)) least))

pub if_ok_ids : (result : Result (List UpdateId) AllocError) (P Q : List UpdateId → Type 0) → ((ids : List UpdateId) → P ids → Q ids) → IfOk result P → IfOk result Q
if_ok_ids (Ok ids) P Q f is = f ids is
if_ok_ids (Err error) P Q f is = tt
