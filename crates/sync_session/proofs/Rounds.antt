-- What holds from update to update, and from round to round.
use Rattle.std.proofs.Common.{◌≡◌, ◌≢◌, ℕ, ◌+◌, ◌-◌, ◌<◌, ◌≤◌, cond, is_some, true, false, List, [], ◌∷◌, ◌++◌, All, Contains, length, get_or, map, take, drop, filter_map, slice_get, Option, Some, None, option_map, refl, sym, ap, subst, ◌∙◌, arith, zero, suc}
use Rattle.std.specs.List.{AllByRecursion, cons_option}
use Rattle.std.proofs.lemmas.List.Elements.{All-append, All-contains, All-contains_itself, All-weaker, Contains-append_left, Contains-append_right}
use Rattle.std.proofs.lemmas.List.Elements.{filter_map-append}
use Rattle.std.proofs.lemmas.List.{map-append, take_more}
use Rattle.std.proofs.lemmas.Option.{get_or_from_slice_get, slice_get_within}
use Rattle.update_codec.specs.Parts.{entry_of}
use Rattle.update_model.specs.Batch.{Limits}
use Rattle.update_model.specs.Entry.{Entry}
use Rattle.update_model.specs.Rule.{RuleData}
use Rattle.session_rules.specs.declared.end.End.{End}
use Rattle.session_rules.specs.State.{FrameData, Item, SessionData, OutData}
use Rattle.session_rules.specs.Steps.{silent, Steps}
use Rattle.sync_session.specs.Carrying.{at_hand, AreHanded, one_ends, Hears, IsHanded, IsWell, Stops}
use Rattle.sync_session.specs.Kept.{seen, updates_in, GrowsBy, Kept, Moves}
use Rattle.sync_session.specs.declared.out.Out.{Out}
use Rattle.sync_session.proofs.Gains.{entries_from, grown_within, grows_none, grows_on, grows_wider, member_back, updates_of}
use Rattle.sync_session.proofs.Handing.{hears_join, hears_updates}
use Rattle.sync_session.proofs.Searching.{split_at}
use Rattle.sync_session.proofs.Quiet.{heard, stops, quiet_update}
use Rattle.sync_session.proofs.Within.{EndIn, FrameIn, arrives_in, steps_in}

-- What has been handed to an end so far was heard.
pub record SoFar (limits : Limits) (rule : RuleData) (k : Kept) (before from : List (List ℕ)) (faults : ℕ) (send : List Entry) (next : Kept) (now : List (List ℕ)) (limits_now : Limits) (rule_now : RuleData) (faults_now : ℕ) : Type 0 where
  pub hears : Hears limits rule (seen before k) (map entry_of before) (map Item send) (seen now next)
  pub list : map entry_of now ≡ map entry_of before
  pub well : IsWell limits rule next now
  pub same_limits : limits_now ≡ limits
  pub same_rule : rule_now ≡ rule
  pub later : faults ≤ faults_now
  pub grows : GrowsBy (at_hand k from before) before now
  pub pending : All (Contains (at_hand k from before)) (updates_in next)

-- the rounds that are left at most
abbrev pub rounds_left : Out → Kept → Kept → ℕ
rounds_left out k_a k_b = cond (is_some out.turn) (1600000 - (k_a.state.turns + k_b.state.turns)) 0

-- ---- what an end has gathered

-- an update of a set
abbrev pub IsIn : List (List ℕ) → Entry → Type 0
IsIn set e = Contains set e.bytes

-- the frame, where there is one, is of the set
abbrev pub HasFrame : List (List ℕ) → Option FrameData → Type 0
HasFrame set None = Unit {0}
HasFrame set (Some frame) = FrameIn (IsIn set) frame

all_take : (P : Entry → Type 0) (n : ℕ) (es : List Entry) → AllByRecursion P es → AllByRecursion P (take n es)
all_take P zero es all = tt
all_take P (suc n) [] all = tt
all_take P (suc n) (e ∷ es) all = (all.0, all_take P n es all.1)

-- what a session has is of the set
pub end_in : (set : List (List ℕ)) (k : Kept) (members : List (List ℕ)) → All (Contains set) (updates_in k) → All (Contains set) members → EndIn (IsIn set) (seen members k)
end_in set k members pending list = record {
  start = all_take (IsIn set) k.below (map entry_of members) (entries_from (Contains set) members list);
  waiting = entries_from (Contains set) k.pending.waiting (All-weaker (Contains (updates_in k)) (Contains set) within k.pending.waiting (λ i d low. Contains-append_left k.pending.waiting k.pending.gathered _ (All-contains_itself k.pending.waiting i d low)));
  gathered = entries_from (Contains set) k.pending.gathered (All-weaker (Contains (updates_in k)) (Contains set) within k.pending.gathered (λ i d low. Contains-append_right k.pending.waiting k.pending.gathered _ (All-contains_itself k.pending.gathered i d low)));
}
  where
    within : (u : List ℕ) → Contains (updates_in k) u → Contains set u
    within u c = All-contains (Contains set) (updates_in k) u pending c

-- and the other way round
pub pending_in : (set : List (List ℕ)) (k : Kept) (members : List (List ℕ)) → EndIn (IsIn set) (seen members k) → All (Contains set) (updates_in k)
pending_in set k members e = All-append (Contains set) k.pending.waiting k.pending.gathered (updates_of (Contains set) k.pending.waiting e.waiting) (updates_of (Contains set) k.pending.gathered e.gathered)

-- a frame of the set leaves it so
pub pending_after : (set : List (List ℕ)) (limits : Limits) (rule : RuleData) (k next : Kept) (members after : List (List ℕ)) (frame : Option FrameData) (out : OutData) → HasFrame set frame
    → All (Contains set) (updates_in k) → All (Contains set) members → IsHanded limits rule (seen members k) (map entry_of members) frame (seen after next) out (map entry_of after) → All (Contains set) (updates_in next)
pending_after set limits rule k next members after None out f pending list h =
    let same : EndIn (IsIn set) (seen after next) = subst (EndIn (IsIn set)) (sym h.0) (end_in set k members pending list) in
    pending_in set next after same
pending_after set limits rule k next members after (Some frame) out f pending list h =
    pending_in set next after
    (steps_in (IsIn set) limits (seen members k) (map entry_of members) (seen after next) out (map entry_of after) (end_in set k members pending list) (entries_from (Contains set) members list)
    h.0 (arrives_in (IsIn set) rule frame h.0 f h.1) h.2).end

-- what is at hand is of the set
pub at_hand_within : (set : List (List ℕ)) (k : Kept) (from to : List (List ℕ)) → All (Contains set) (updates_in k) → All (Contains set) from → All (Contains set) to → (u : List ℕ) → Contains (at_hand k from to) u → Contains set u
at_hand_within set k from to pending one two u c =
    All-contains (Contains set) (at_hand k from to) u (All-append (Contains set) (updates_in k) (from ++ to) pending (All-append (Contains set) from to one two)) c

-- each part is at hand
pub own_at_hand : (k : Kept) (from to : List (List ℕ)) → All (Contains (at_hand k from to)) (updates_in k)
own_at_hand k from to = λ i d low. Contains-append_left (updates_in k) (from ++ to) _ (All-contains_itself (updates_in k) i d low)

pub from_at_hand : (k : Kept) (from to : List (List ℕ)) → All (Contains (at_hand k from to)) from
from_at_hand k from to = λ i d low. Contains-append_right (updates_in k) (from ++ to) _ (Contains-append_left from to _ (All-contains_itself from i d low))

pub to_at_hand : (k : Kept) (from to : List (List ℕ)) → All (Contains (at_hand k from to)) to
to_at_hand k from to = λ i d low. Contains-append_right (updates_in k) (from ++ to) _ (Contains-append_right from to _ (All-contains_itself to i d low))

-- ---- one frame

-- an update is heard, or ends the session
pub data OneMore (limits : Limits) (rule : RuleData) (s : SessionData) (list : List Entry) (o : Option Entry) (next : SessionData) (out : OutData) : Type 0 where
  hears : out ≡ silent → Hears limits rule s list (map Item (cons_option o [])) next → OneMore limits rule s list o next out
  ends : (e : Entry) (ending : End) → o ≡ Some e → Stops ending next out → OneMore limits rule s list o next out

pub one_more : (limits : Limits) (rule : RuleData) (s : SessionData) (list : List Entry) (o : Option Entry) (next : SessionData) (out : OutData) (after : List Entry) → s.ended ≡ None
    → IsHanded limits rule s list (option_map Item o) next out after → (after ≡ list) × OneMore limits rule s list o next out
one_more limits rule s list None next out after running h = (h.2, hears h.1 h.0)
one_more limits rule s list (Some e) next out after running h = elim (quiet_update limits rule s next list e h.0 out after running h.1 h.2) [
  | heard is same_list same ↦ (
    same_list,
    hears is (h.0, next, h.1, subst (λ (l : List Entry). Steps limits s list h.0 next silent l) same_list (subst (λ (o : OutData). Steps limits s list h.0 next o after) is h.2), refl),
  )
  | stops ending e2 same_list ↦ (same_list, ends e ending refl e2)
]

-- the frame of an update that stands at a position of a list of the set
pub frame_at : (set from : List (List ℕ)) (position : ℕ) (o : Option Entry) → slice_get (map entry_of from) position ≡ o → All (Contains set) from → HasFrame set (option_map Item o)
frame_at set from position None is all = tt
frame_at set from position (Some e) is all =
    let low = slice_get_within (map entry_of from) position e is in
    let there : Contains (map entry_of from) e = (position, low, get_or_from_slice_get (map entry_of from) position e e is) in
    All-contains (Contains set) from e.bytes all (member_back from e there)

-- ---- update by update

module _ (limits : Limits) (rule : RuleData) (k : Kept) (before from : List (List ℕ)) (faults : ℕ) (running : k.state.ended ≡ None) where
  -- before the first
  pub so_far_none : IsWell limits rule k before → SoFar limits rule k before from faults [] k before limits rule faults
  so_far_none well = record {
    hears = refl;
    list = refl;
    well = well;
    same_limits = refl;
    same_rule = refl;
    later = omega arith;
    grows = grows_none (at_hand k from before) before before refl;
    pending = own_at_hand k from before;
  }

  module _ (send : List Entry) (next : Kept) (now : List (List ℕ)) (limits_now : Limits) (rule_now : RuleData) (faults_now : ℕ) (s : SoFar limits rule k before from faults send next now limits_now rule_now faults_now) where
    -- the end still runs
    pub still_running : next.state.ended ≡ None
    still_running = (hears_updates limits rule (seen before k) (map entry_of before) send (seen now next) running s.hears).ended

    pub list_at_hand : All (Contains (at_hand k from before)) now
    list_at_hand = grown_within (Contains (at_hand k from before)) (at_hand k from before) before now s.grows (to_at_hand k from before) (λ u c. c)

    pub well_now : IsWell limits_now rule_now next now
    well_now = subst (λ (r : RuleData). IsWell limits_now r next now) (sym s.same_rule) (subst (λ (l : Limits). IsWell l rule next now) (sym s.same_limits) s.well)

    module _ (now2 : List (List ℕ)) (limits_2 : Limits) (rule_2 : RuleData) (faults_2 : ℕ) (moves : Moves (updates_in next) limits_now rule_now now faults_now limits_2 rule_2 now2 faults_2) where
      pub limits_here : limits_2 ≡ limits
      limits_here = moves.same_limits ∙ s.same_limits

      pub rule_here : rule_2 ≡ rule
      rule_here = moves.same_rule ∙ s.same_rule

      pub later_here : faults ≤ faults_2
      later_here = let one = s.later in let two = moves.later in omega arith

      pub grows_here : GrowsBy (at_hand k from before) before now2
      grows_here = grows_on (at_hand k from before) before now now2 s.grows
          (grows_wider (updates_in next) (at_hand k from before) now now2 (λ u c. All-contains (Contains (at_hand k from before)) (updates_in next) u s.pending c) moves.grows)

      pub moves_here : Moves (at_hand k from before) limits rule before faults limits_2 rule_2 now2 faults_2
      moves_here = record { grows = grows_here; later = later_here; same_limits = limits_here; same_rule = rule_here }

      module _ (position : ℕ) (o : Option Entry) (at : slice_get (map entry_of from) position ≡ o) (next2 : Kept) (out : OutData)
          (handed : IsHanded limits_now rule_now (seen now next) (map entry_of now) (option_map Item o) (seen now2 next2) out (map entry_of now2)) (well : IsWell limits_now rule_now next2 now2) where
        handed_here : IsHanded limits rule (seen now next) (map entry_of now) (option_map Item o) (seen now2 next2) out (map entry_of now2)
        handed_here = subst (λ (r : RuleData). IsHanded limits r (seen now next) (map entry_of now) (option_map Item o) (seen now2 next2) out (map entry_of now2)) s.same_rule
            (subst (λ (l : Limits). IsHanded l rule_now (seen now next) (map entry_of now) (option_map Item o) (seen now2 next2) out (map entry_of now2)) s.same_limits handed)

        more : (map entry_of now2 ≡ map entry_of now) × OneMore limits rule (seen now next) (map entry_of now) o (seen now2 next2) out
        more = one_more limits rule (seen now next) (map entry_of now) o (seen now2 next2) out (map entry_of now2) still_running handed_here

        pub same_list : map entry_of now2 ≡ map entry_of before
        same_list = more.0 ∙ s.list

        pub well_here : IsWell limits rule next2 now2
        well_here = subst (λ (r : RuleData). IsWell limits r next2 now2) s.same_rule (subst (λ (l : Limits). IsWell l rule_now next2 now2) s.same_limits well)

        pub pending_here : All (Contains (at_hand k from before)) (updates_in next2)
        pending_here = pending_after (at_hand k from before) limits rule next next2 now now2 (option_map Item o) out (frame_at (at_hand k from before) from position o at (from_at_hand k from before)) s.pending list_at_hand handed_here

        hears_more : out.end ≡ None → OneMore limits rule (seen now next) (map entry_of now) o (seen now2 next2) out → Hears limits rule (seen before k) (map entry_of before) (map Item (send ++ cons_option o [])) (seen now2 next2)
        hears_more none (hears is h) = subst (λ (fs : List FrameData). Hears limits rule (seen before k) (map entry_of before) fs (seen now2 next2)) (sym (map-append Item send (cons_option o [])))
            (hears_join limits rule (seen before k) (map entry_of before) (map Item send) (map Item (cons_option o [])) (seen now next) (seen now2 next2) s.hears
            (subst (λ (l : List Entry). Hears limits rule (seen now next) l (map Item (cons_option o [])) (seen now2 next2)) s.list h))
        hears_more none (ends e ending is e2) = absurd (let says = ap (λ (o : OutData). o.end) e2.says in cc)

        -- one more was heard
        pub so_far_more : out.end ≡ None → SoFar limits rule k before from faults (send ++ cons_option o []) next2 now2 limits_2 rule_2 faults_2
        so_far_more none = record {
          hears = hears_more none more.1;
          list = same_list;
          well = well_here;
          same_limits = limits_here;
          same_rule = rule_here;
          later = later_here;
          grows = grows_here;
          pending = pending_here;
        }

        ends_by : (all rest : List Entry) → all ≡ send ++ cons_option o rest → out.end ≢ None → OneMore limits rule (seen now next) (map entry_of now) o (seen now2 next2) out → AreHanded limits rule (seen before k) (map entry_of before) all (seen now2 next2) out
        ends_by all rest split some (hears is h) = absurd (some (ap (λ (o : OutData). o.end) is))
        ends_by all rest split some (ends e ending is e2) = one_ends send rest e (seen now next) ending (split ∙ ap (λ (x : Option Entry). send ++ cons_option x rest) is) s.hears
            (at_list (subst (λ (x : Option Entry). IsHanded limits rule (seen now next) (map entry_of now) (option_map Item x) (seen now2 next2) out (map entry_of now2)) is handed_here)) e2
          where
            at_list : IsHanded limits rule (seen now next) (map entry_of now) (Some (Item e)) (seen now2 next2) out (map entry_of now2) → IsHanded limits rule (seen now next) (map entry_of before) (Some (Item e)) (seen now2 next2) out (map entry_of before)
            at_list h = subst (λ (l : List Entry). IsHanded limits rule (seen now next) l (Some (Item e)) (seen now2 next2) out l) s.list
                (subst (λ (l : List Entry). IsHanded limits rule (seen now next) (map entry_of now) (Some (Item e)) (seen now2 next2) out l) more.0 h)

        -- or it ended the session
        pub handed_to_end : (all rest : List Entry) → all ≡ send ++ cons_option o rest → out.end ≢ None → AreHanded limits rule (seen before k) (map entry_of before) all (seen now2 next2) out
        handed_to_end all rest split some = ends_by all rest split some more.1

-- ---- positions, one after another

pub sent_more : (graph : List Entry) (positions : List ℕ) (i d : ℕ) → i < length positions → filter_map (slice_get graph) (take (i + 1) positions) ≡ filter_map (slice_get graph) (take i positions) ++ cons_option (slice_get graph (get_or positions i d)) []
sent_more graph positions i d low = ap (filter_map (slice_get graph)) (take_more positions i d low) ∙ filter_map-append (slice_get graph) (take i positions) (get_or positions i d ∷ [])

pub sent_split : (graph : List Entry) (positions : List ℕ) (i d : ℕ) → i < length positions
    → filter_map (slice_get graph) positions ≡ filter_map (slice_get graph) (take i positions) ++ cons_option (slice_get graph (get_or positions i d)) (filter_map (slice_get graph) (drop (i + 1) positions))
sent_split graph positions i d low = ap (filter_map (slice_get graph)) (split_at positions i d low) ∙ filter_map-append (slice_get graph) (take i positions) (get_or positions i d ∷ drop (i + 1) positions)

-- ---- whether there is one

pub is_there : {X : Type 0} (o : Option X) → is_some o ≡ true → o ≢ None
is_there None e = absurd cc
is_there (Some x) e = λ is. cc

pub is_missing : {X : Type 0} (o : Option X) → is_some o ≡ false → o ≡ None
is_missing None e = refl
is_missing (Some x) e = absurd cc

pub none_not : {X : Type 0} (o : Option X) (x : X) → o ≡ None → o ≢ Some x
none_not o x none = λ is. let never = sym none ∙ is in cc
