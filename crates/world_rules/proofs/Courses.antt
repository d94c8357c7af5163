-- A session of two correct replicas, whatever else happens to their lists.
use Rattle.std.proofs.Common.{◌≡◌, ℕ, ◌≤◌, Bool, List, [], ◌∷◌, ◌++◌, length, map, Option, Some, None, refl, ap, subst, ◌∙◌, arith, nat_le}
use Rattle.std.specs.List.{AllByRecursion}
use Rattle.std.proofs.lemmas.List.{map-append}
use Rattle.std.proofs.lemmas.Bool.Decides.{nat_tests}
use Rattle.update_codec.specs.Parts.{entry_of}
use Rattle.update_check.specs.Members.{AreMembers}
use Rattle.update_model.specs.declared.limits.TheConstants.{MAX_BYTES, MAX_MEMBERS}
use Rattle.update_model.specs.Entry.{Entry}
use Rattle.update_model.specs.Graph.{IsClosed, byte_count}
use Rattle.update_model.specs.Batch.{store_limits}
use Rattle.update_model.specs.Rule.{RuleData}
use Rattle.session_rules.specs.Pair.{PairData, swapped, carries_a, carries_b, grows_a, grows_b, Reaches, goes, Opens, frames_of, hello_frames, turn_frames}
use Rattle.session_rules.specs.State.{HelloData, TurnData, FrameData, Item, SessionData, OutData}
use Rattle.session_rules.specs.Steps.{Steps}
use Rattle.session_rules.proofs.Words.{and_both, each_append, each_weaker}
use Rattle.world_rules.specs.Lists.{Extends}
use Rattle.world_rules.specs.Meetings.{TwoEnds, turned, over_lists}
use Rattle.world_rules.proofs.Extending.{IsEntryOf, entries_are}
use Rattle.world_rules.proofs.Passing.{Brings, steps_pass}

-- an update that is under the rule and was met
abbrev pub IsMetEntry : RuleData → (List ℕ → Type 0) → Entry → Type 0
IsMetEntry rule Met e = IsEntryOf rule e × Met e.bytes

-- What an end has that its replica has not is under the rule and was met; its start set is under the rule.
pub record IsEndKnown (rule : RuleData) (Met : List ℕ → Type 0) (s : SessionData) : Type 0 where
  pub waiting : AllByRecursion (IsMetEntry rule Met) s.waiting
  pub gathered : AllByRecursion (IsMetEntry rule Met) s.gathered
  pub start : AllByRecursion (IsEntryOf rule) s.start

-- Two ends have come to where they are by the rules of sessions, while their lists grew.
pub record IsCourse (rule : RuleData) (Met : List ℕ → Type 0) (m : TwoEnds) (list_a list_b : List (List ℕ)) : Type 0 where
  pub opening : PairData
  pub opens : Opens opening
  pub run : Reaches store_limits store_limits opening (over_lists m list_a list_b)
  pub known_a : IsEndKnown rule Met m.a.state
  pub known_b : IsEndKnown rule Met m.b.state
  pub way_a : AllByRecursion (Brings (IsEntryOf rule)) m.to_a
  pub way_b : AllByRecursion (Brings (IsEntryOf rule)) m.to_b

pub few_members : (rule : RuleData) (members : List (List ℕ)) → AreMembers rule members → length (map entry_of members) ≤ MAX_MEMBERS
few_members rule members are = let first = (and_both (nat_le (length (map entry_of members)) MAX_MEMBERS) (nat_le (byte_count (map entry_of members)) MAX_BYTES) are.within).0 in grind (arith, nat_tests)

-- what the list grew by, as members
grown_list : (rule : RuleData) (old new : List (List ℕ)) (e : Extends rule old new) → map entry_of new ≡ map entry_of old ++ map entry_of e.more
grown_list rule old new e = ap (map entry_of) e.begins ∙ map-append entry_of old e.more

module _ (rule : RuleData) (opening : PairData) (m : TwoEnds) where
  run_grows_a : (old new list_b : List (List ℕ)) → Extends rule old new → Reaches store_limits store_limits opening (over_lists m old list_b) → Reaches store_limits store_limits opening (over_lists m new list_b)
  run_grows_a old new list_b e run = goes (over_lists m old list_b) (over_lists m new list_b) run (grows_a (record {
    more = map entry_of e.more;
    closed = subst IsClosed (grown_list rule old new e) e.members.closed;
    few = subst (λ (xs : List Entry). length xs ≤ MAX_MEMBERS) (grown_list rule old new e) (few_members rule new e.members);
    is = ap (λ (xs : List Entry). record (over_lists m old list_b) { list_a = xs }) (grown_list rule old new e);
  }))

  run_grows_b : (list_a old new : List (List ℕ)) → Extends rule old new → Reaches store_limits store_limits opening (over_lists m list_a old) → Reaches store_limits store_limits opening (over_lists m list_a new)
  run_grows_b list_a old new e run = goes (over_lists m list_a old) (over_lists m list_a new) run (grows_b (record {
    more = map entry_of e.more;
    closed = subst IsClosed (grown_list rule old new e) e.members.closed;
    few = subst (λ (xs : List Entry). length xs ≤ MAX_MEMBERS) (grown_list rule old new e) (few_members rule new e.members);
    is = ap (λ (xs : List Entry). record (swapped (over_lists m list_a old)) { list_a = xs }) (grown_list rule old new e);
  }))

pub end_known_still : (rule : RuleData) (Met Later : List ℕ → Type 0) (s : SessionData) → ((u : List ℕ) → Met u → Later u) → IsEndKnown rule Met s → IsEndKnown rule Later s
end_known_still rule Met Later s later k = record {
  waiting = each_weaker (IsMetEntry rule Met) (IsMetEntry rule Later) (λ e h. (h.0, later e.bytes h.1)) s.waiting k.waiting;
  gathered = each_weaker (IsMetEntry rule Met) (IsMetEntry rule Later) (λ e h. (h.0, later e.bytes h.1)) s.gathered k.gathered;
  start = k.start;
}

-- both lists grow from outside
pub course_grows : (rule : RuleData) (Met Later : List ℕ → Type 0) (m : TwoEnds) (old_a new_a old_b new_b : List (List ℕ)) → ((u : List ℕ) → Met u → Later u)
    → Extends rule old_a new_a → Extends rule old_b new_b → IsCourse rule Met m old_a old_b → IsCourse rule Later m new_a new_b
course_grows rule Met Later m old_a new_a old_b new_b later ea eb c = record {
  opening = c.opening;
  opens = c.opens;
  run = run_grows_b rule c.opening m new_a old_b new_b eb (run_grows_a rule c.opening m old_a new_a old_b ea c.run);
  known_a = end_known_still rule Met Later m.a.state later c.known_a;
  known_b = end_known_still rule Met Later m.b.state later c.known_b;
  way_a = c.way_a;
  way_b = c.way_b;
}

-- cutting changes nothing of that
pub course_cut : (rule : RuleData) (Met : List ℕ → Type 0) (m : TwoEnds) (cut_a cut_b : Bool) (list_a list_b : List (List ℕ)) → IsCourse rule Met m list_a list_b
    → IsCourse rule Met (record m { a = record m.a { is_cut = cut_a }; b = record m.b { is_cut = cut_b } }) list_a list_b
course_cut rule Met m cut_a cut_b list_a list_b c = record {
  opening = c.opening;
  opens = c.opens;
  run = c.run;
  known_a = c.known_a;
  known_b = c.known_b;
  way_a = c.way_a;
  way_b = c.way_b;
}

brought : (rule : RuleData) (out : OutData) → AllByRecursion (IsEntryOf rule) out.send → AllByRecursion (Brings (IsEntryOf rule)) (frames_of out)
brought rule out sends = each_append (Brings (IsEntryOf rule)) (hello_frames out.hello) (map Item out.send ++ turn_frames out.turn) (by_hello out.hello)
    (each_append (Brings (IsEntryOf rule)) (map Item out.send) (turn_frames out.turn) (by_items out.send sends) (by_turn out.turn))
  where
    by_hello : (hello : Option HelloData) → AllByRecursion (Brings (IsEntryOf rule)) (hello_frames hello)
    by_hello None = tt
    by_hello (Some hello) = (tt, tt)

    by_items : (items : List Entry) → AllByRecursion (IsEntryOf rule) items → AllByRecursion (Brings (IsEntryOf rule)) (map Item items)
    by_items [] all = tt
    by_items (e ∷ es) all = (all.0, by_items es all.1)

    by_turn : (turn : Option TurnData) → AllByRecursion (Brings (IsEntryOf rule)) (turn_frames turn)
    by_turn None = tt
    by_turn (Some turn) = (tt, tt)

-- the two ends once the first has read its next frame
abbrev pub carried : TwoEnds → SessionData → List FrameData → OutData → TwoEnds
carried m next rest out = record m { a = record m.a { state = next }; to_a = rest; to_b = m.to_b ++ frames_of out }

-- an end that reads a frame is known still
pub step_known : (rule : RuleData) (Met : List ℕ → Type 0) (s next : SessionData) (before : List (List ℕ)) (frame : FrameData) (out : OutData) (after : List Entry)
    → IsEndKnown rule Met s → AreMembers rule before → Brings (IsMetEntry rule Met) frame → Steps store_limits s (map entry_of before) frame next out after
    → IsEndKnown rule Met next × AllByRecursion (IsEntryOf rule) out.send
step_known rule Met s next before frame out after k are brings step =
    let p = steps_pass (IsMetEntry rule Met) (IsEntryOf rule) store_limits s (map entry_of before) next out after k.waiting k.gathered k.start (entries_are rule before are) frame brings step in
    (record { waiting = p.waiting; gathered = p.gathered; start = p.start }, p.sends)

-- the first end reads its next frame
pub course_carries_a : (rule : RuleData) (Met : List ℕ → Type 0) (m : TwoEnds) (old new list_b : List (List ℕ)) (frame : FrameData) (rest : List FrameData) (next : SessionData) (out : OutData)
    → IsCourse rule Met m old list_b → AreMembers rule old → m.to_a ≡ frame ∷ rest → Brings (IsMetEntry rule Met) frame
    → Steps store_limits m.a.state (map entry_of old) frame next out (map entry_of new) → IsCourse rule Met (carried m next rest out) new list_b
course_carries_a rule Met m old new list_b frame rest next out c are first brings step =
    let known = step_known rule Met m.a.state next old frame out (map entry_of new) c.known_a are brings step in
    let way = subst (AllByRecursion (Brings (IsEntryOf rule))) first c.way_a in
    record {
      opening = c.opening;
      opens = c.opens;
      run = goes (over_lists m old list_b) (over_lists (carried m next rest out) new list_b) c.run
          (carries_a (record { frame = frame; rest = rest; next = next; out = out; after = map entry_of new; first = first; step = step; is = refl }));
      known_a = known.0;
      known_b = c.known_b;
      way_a = way.1;
      way_b = each_append (Brings (IsEntryOf rule)) m.to_b (frames_of out) c.way_b (brought rule out known.1);
    }

-- the second end does
pub course_carries_b : (rule : RuleData) (Met : List ℕ → Type 0) (m : TwoEnds) (old new list_a : List (List ℕ)) (frame : FrameData) (rest : List FrameData) (next : SessionData) (out : OutData)
    → IsCourse rule Met m list_a old → AreMembers rule old → m.to_b ≡ frame ∷ rest → Brings (IsMetEntry rule Met) frame
    → Steps store_limits m.b.state (map entry_of old) frame next out (map entry_of new) → IsCourse rule Met (turned (carried (turned m) next rest out)) list_a new
course_carries_b rule Met m old new list_a frame rest next out c are first brings step =
    let known = step_known rule Met m.b.state next old frame out (map entry_of new) c.known_b are brings step in
    let way = subst (AllByRecursion (Brings (IsEntryOf rule))) first c.way_b in
    record {
      opening = c.opening;
      opens = c.opens;
      run = goes (over_lists m list_a old) (over_lists (turned (carried (turned m) next rest out)) list_a new) c.run
          (carries_b (record { frame = frame; rest = rest; next = next; out = out; after = map entry_of new; first = first; step = step; is = refl }));
      known_a = c.known_a;
      known_b = known.0;
      way_a = each_append (Brings (IsEntryOf rule)) m.to_a (frames_of out) c.way_a (brought rule out known.1);
      way_b = way.1;
    }
