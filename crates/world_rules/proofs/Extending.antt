-- How lists of updates grow by a step of a session.
use Rattle.std.proofs.Common.{◌≡◌, ℕ, Bool, true, false, List, [], ◌∷◌, ◌++◌, map, Option, Some, None, refl, sym, ap, subst, ◌∙◌}
use Rattle.std.specs.List.{AllByRecursion}
use Rattle.std.proofs.lemmas.List.Elements.{All-from_recursion, recursion_from_All}
use Rattle.update_codec.specs.Parts.{entry_of}
use Rattle.update_check.specs.Members.{AreMembers}
use Rattle.update_check.specs.Signed.{IsChecked}
use Rattle.update_model.specs.Entry.{Entry}
use Rattle.update_model.specs.Graph.{is_within}
use Rattle.update_model.specs.Batch.{Limits, store_limits, fits}
use Rattle.update_model.specs.Rule.{RuleData}
use Rattle.update_model.proofs.Closed.{Follows-join}
use Rattle.session_rules.specs.Commit.{Committed, Added, TooMuch, DiskFault, Commits}
use Rattle.session_rules.specs.declared.role.Role.{Role}
use Rattle.session_rules.specs.declared.role.Role.TheVariants.{Initiator, Responder}
use Rattle.session_rules.specs.declared.peer_fault.PeerFault.{PeerFault}
use Rattle.session_rules.specs.declared.end.End.{End}
use Rattle.session_rules.specs.State.{HelloData, TurnData, FrameData, Hello, OtherVersion, Item, BadItem, Turn, NoFrame, SessionData, OutData}
use Rattle.session_rules.specs.Steps.{Steps, StepsBy, Takes, Unless, Greets, Gathers, gathers, Settles, hello_fault, item_fault, turn_fault}
use Rattle.session_rules.proofs.Words.{each_append, each_member, each_weaker}
use Rattle.session_rules.proofs.Growth.{steps_grow}
use Rattle.world_rules.specs.Lists.{Extends}

-- the member of these bytes, which are under the rule
abbrev pub IsEntryOf : RuleData → Entry → Type 0
IsEntryOf rule e = IsChecked rule e.bytes × (e ≡ entry_of e.bytes)

pub entries_are : (rule : RuleData) (members : List (List ℕ)) → AreMembers rule members → AllByRecursion (IsEntryOf rule) (map entry_of members)
entries_are rule members are = by_each members (recursion_from_All (IsChecked rule) members are.checked)
  where
    by_each : (us : List (List ℕ)) → AllByRecursion (IsChecked rule) us → AllByRecursion (IsEntryOf rule) (map entry_of us)
    by_each [] all = tt
    by_each (u ∷ us) all = ((all.0, refl), by_each us all.1)

checked_of : (rule : RuleData) (us : List (List ℕ)) → AllByRecursion (IsEntryOf rule) (map entry_of us) → AllByRecursion (IsChecked rule) us
checked_of rule [] all = tt
checked_of rule (u ∷ us) all = (all.0.0, checked_of rule us all.1)

-- a list of members in one list is one of bytes in the other
module _ (limits : Limits) (s : SessionData) (before : List Entry) (next : SessionData) (out : OutData) (after : List Entry) (fit : fits limits before ≡ true) where
  same_fits : after ≡ before → fits limits after ≡ true
  same_fits is = ap (fits limits) is ∙ fit

  unless_fits : (G : Type 0) (fault : Option PeerFault) → Unless fault s before next out after G → (G → fits limits after ≡ true) → fits limits after ≡ true
  unless_fits G (Some f) u k = same_fits u.2
  unless_fits G None u k = k u

  greets_fit : (hello : HelloData) (role : Role) → Greets role s before hello next out after → fits limits after ≡ true
  greets_fit hello Initiator g = same_fits g.2
  greets_fit hello Responder g = same_fits g.5

  gathers_fit : (e : Entry) (room : Bool) → Gathers room s before e next out after → fits limits after ≡ true
  gathers_fit e true g = same_fits g.2
  gathers_fit e false g = same_fits g.2

  settles_fit : (turn : TurnData) (answer : Committed) → Commits limits before (s.waiting ++ s.gathered) answer after → fits limits after ≡ true
  settles_fit turn (Added added left) c = ap (fits limits) c.2 ∙ c.1
  settles_fit turn TooMuch c = same_fits c.1
  settles_fit turn DiskFault c = same_fits c

  takes_fit : (frame : FrameData) → Takes limits s before frame next out after → fits limits after ≡ true
  takes_fit (Hello hello) t = unless_fits (Greets s.role s before hello next out after) (hello_fault s hello) t (λ g. greets_fit hello s.role g)
  takes_fit OtherVersion t = same_fits t.2
  takes_fit (Item e) t = unless_fits (Gathers (is_within (s.waiting ++ gathers s e)) s before e next out after) (item_fault s e) t (λ g. gathers_fit e (is_within (s.waiting ++ gathers s e)) g)
  takes_fit (BadItem why) t = same_fits t.2
  takes_fit (Turn turn) t = unless_fits (Settles limits s before turn next out after) (turn_fault s turn) t (λ g. settles_fit turn g.0 g.1)
  takes_fit (NoFrame place) t = same_fits t.2

  by_ended : (ended : Option End) (frame : FrameData) → StepsBy ended limits s before frame next out after → fits limits after ≡ true
  by_ended (Some ending) frame t = same_fits t.2
  by_ended None frame t = takes_fit frame t

  -- a step leaves a list that fits
  pub steps_fit : (frame : FrameData) → Steps limits s before frame next out after → fits limits after ≡ true
  steps_fit frame t = by_ended s.ended frame t

-- A step of an end whose updates are under the rule extends the list.
pub steps_extend : (rule : RuleData) (s next : SessionData) (old new more : List (List ℕ)) (frame : FrameData) (out : OutData)
    → AreMembers rule old → AllByRecursion (IsEntryOf rule) (s.waiting ++ s.gathered) → new ≡ old ++ more
    → Steps store_limits s (map entry_of old) frame next out (map entry_of new) → Extends rule old new
steps_extend rule s next old new more frame out are known begins step =
    let grown = steps_grow store_limits s (map entry_of old) next out (map entry_of new) frame step in
    let added = each_weaker (λ e. _) (IsEntryOf rule) (λ e c. each_member (IsEntryOf rule) (s.waiting ++ s.gathered) e known c) grown.new grown.from in
    let all = each_append (IsEntryOf rule) (map entry_of old) grown.new (entries_are rule old are) added in
    record {
      more = more;
      begins = begins;
      members = record {
        checked = All-from_recursion (IsChecked rule) new (checked_of rule new (subst (AllByRecursion (IsEntryOf rule)) (sym grown.is) all));
        closed = rw grown.is (Follows-join [] (map entry_of old) grown.new are.closed grown.follows);
        within = steps_fit store_limits s (map entry_of old) next out (map entry_of new) are.within frame step;
      };
    }
