-- One frame, and what a session belongs to.
use Rattle.std.proofs.Common.{◌≡◌, ◌≤◌, ℕ, Bool, true, false, ◌||◌, is_some, List, length, map, take, Option, Some, None, Result, Ok, Err, IfOk, OnOk, refl, sym, ap, subst, arith, length-append}
use Rattle.std.specs.declared.alloc.AllocError.{AllocError}
use Rattle.std.proofs.lemmas.List.{length-map}
use Rattle.update_check.specs.Holding.{IsHeld}
use Rattle.update_codec.specs.Parts.{entry_of}
use Rattle.update_model.specs.Batch.{Limits}
use Rattle.update_model.specs.Entry.{Entry}
use Rattle.update_model.specs.Rule.{RuleData}
use Rattle.update_model.specs.declared.update_id.UpdateId.{UpdateId}
use Rattle.session_rules.specs.declared.end.End.{End}
use Rattle.session_rules.specs.Course.{opened}
use Rattle.session_rules.specs.Pair.{Feeds, unfed, fed, grown}
use Rattle.session_rules.specs.State.{FrameData, SessionData}
use Rattle.session_rules.specs.declared.role.Role.{Role}
use Rattle.session_rules.specs.declared.role.Role.TheVariants.{Initiator, Responder}
use Rattle.session_rules.specs.Steps.{silent, Steps, Takes}
use Rattle.session_rules.specs.Steps as rules
use Rattle.session_rules.proofs.Courses.{continues_bounded, continues_few}
use Rattle.session_rules.proofs.Growth.{steps_grow}
use Rattle.sync_session.specs.declared.checked_frame.CheckedFrame.{CheckedFrame}
use Rattle.sync_session.specs.declared.out.Out.{Out}
use Rattle.sync_session.specs.Kept.{Kept, Belongs, BelongsTo, IsRunning, Stands, StepsBy, StepsTo, frame_of, out_of, seen, whole}
use Rattle.sync_session.specs.Turns.{IsOrdered}

-- ---- an Item

-- what no list decides, over the holder's list
pub take_seen : (limits : Limits) (members : List (List ℕ)) (k next : Kept) (frame : FrameData) (out : Out) → next.below ≡ k.below
    → ((start list : List Entry) → Takes limits (whole start k) list frame (whole start next) (out_of list out) list)
    → Takes limits (seen members k) (map entry_of members) frame (seen members next) (out_of (map entry_of members) out) (map entry_of members)
take_seen limits members k next frame out same t =
    subst (λ (b : ℕ). Takes limits (seen members k) (map entry_of members) frame (whole (take b (map entry_of members)) next) (out_of (map entry_of members) out) (map entry_of members)) (sym same)
    (t (take k.below (map entry_of members)) (map entry_of members))

-- the same of what a call answers
pub answer_seen : (limits : Limits) (members : List (List ℕ)) (k next : Kept) (frame : FrameData) (r : Result Out AllocError) → OnOk r (next.below ≡ k.below)
    → IfOk r (λ out. (limits : Limits) (start list : List Entry) → Takes limits (whole start k) list frame (whole start next) (out_of list out) list)
    → IfOk r (λ out. Takes limits (seen members k) (map entry_of members) frame (seen members next) (out_of (map entry_of members) out) (map entry_of members))
answer_seen limits members k next frame (Ok out) same t = take_seen limits members k next frame out same (t limits)
answer_seen limits members k next frame (Err e) same t = tt

-- ---- what a session belongs to

-- an end gains no more than its list has
feeds_gained : (limits : Limits) (s : SessionData) (list : List Entry) (t : SessionData) (now : List Entry) → s.gained ≤ length list → Feeds limits s list t now → t.gained ≤ length now
feeds_gained limits s list t now few (unfed t' now' e f) = rw (e, f) few
feeds_gained limits s list t now few (fed u t' was now' frame out before step) =
    let low = feeds_gained limits s list u was few before in
    let g = steps_grow limits u was t out now frame step in
    let counts = g.gained in
    let longer = ap length g.is in
    omega (arith, length-append was g.new)
feeds_gained limits s list t now few (grown t' was more before fits) =
    let low = feeds_gained limits s list t was few before in omega (arith, length-append was more)

opened_gained : (role : Role) (database node : List ℕ) (old : List UpdateId) (list : List Entry) → (opened role database node old list).gained ≤ length list
opened_gained Initiator database node old list = omega arith
opened_gained Responder database node old list = omega arith

-- nor does a session
pub gained_few : (limits : Limits) (rule : RuleData) (k : Kept) (members : List (List ℕ)) → Belongs limits rule k members → k.state.gained ≤ length members
gained_few limits rule k members b =
    let c = b.continues in
    let few = feeds_gained limits (opened c.role c.database c.node c.old c.first) c.first (seen members k) (map entry_of members) (opened_gained c.role c.database c.node c.old c.first) c.feeds in
    let same = length-map members entry_of in
    omega arith

-- it has read few turns
pub runs : (limits : Limits) (rule : RuleData) (k : Kept) (members : List (List ℕ)) → IsHeld limits rule members → Belongs limits rule k members → k.state.ended ≡ None → IsRunning k
runs limits rule k members held b none = record { running = none; turns = continues_few limits (seen members k) (map entry_of members) held.updates b.continues }

-- and the ids that it asked for rise
pub ordered : (limits : Limits) (rule : RuleData) (k : Kept) (members : List (List ℕ)) → IsHeld limits rule members → Belongs limits rule k members → IsOrdered k
ordered limits rule k members held b =
    let bounded = continues_bounded limits (seen members k) (map entry_of members) held.updates b.continues in record { asked = bounded.rising; peer_asked = bounded.rising_peer }

-- ---- a step

-- a session that is not over has neither ended nor failed
pub not_over : (failed : Bool) (ended : Option End) → (failed || is_some ended) ≡ false → (failed ≡ false) × (ended ≡ None)
not_over false None is = (refl, refl)
not_over false (Some e) is = absurd cc
not_over true ended is = absurd cc

over_steps : (limits : Limits) (k : Kept) (before : List (List ℕ)) (frame : CheckedFrame) (out : Out) → (failed : Bool) (ended : Option End) → k.failed ≡ failed → k.state.ended ≡ ended → (failed || is_some ended) ≡ true
    → ((es : List Entry) → out_of es out ≡ silent) → StepsBy failed limits k before frame k out before
over_steps limits k before frame out true ended is_failed is_ended over says = (refl, says (map entry_of before), refl)
over_steps limits k before frame out false (Some e) is_failed is_ended over says =
    subst (λ (x : Option End). rules.StepsBy x limits (seen before k) (map entry_of before) (frame_of frame) (seen before k) (out_of (map entry_of before) out) (map entry_of before)) (sym is_ended) (refl, says (map entry_of before), refl)
over_steps limits k before frame out false None is_failed is_ended over says = absurd cc

-- one that is over answers nothing
pub over_is : (limits : Limits) (k : Kept) (before : List (List ℕ)) (frame : CheckedFrame) (out : Out) → (k.failed || is_some k.state.ended) ≡ true → ((es : List Entry) → out_of es out ≡ silent)
    → StepsTo limits k before frame k out before
over_is limits k before frame out over says = (over_steps limits k before frame out k.failed k.state.ended refl refl over says, refl)

-- what a frame does to one that runs is a step
steps_from : (limits : Limits) (k next : Kept) (before after : List (List ℕ)) (frame : CheckedFrame) (out : Out) → k.state.ended ≡ None
    → Takes limits (seen before k) (map entry_of before) (frame_of frame) (seen after next) (out_of (map entry_of after) out) (map entry_of after)
    → Steps limits (seen before k) (map entry_of before) (frame_of frame) (seen after next) (out_of (map entry_of after) out) (map entry_of after)
steps_from limits k next before after frame out none t =
    subst (λ (x : Option End). rules.StepsBy x limits (seen before k) (map entry_of before) (frame_of frame) (seen after next) (out_of (map entry_of after) out) (map entry_of after)) (sym none) t

pub running_steps : (limits : Limits) (k next : Kept) (before after : List (List ℕ)) (frame : CheckedFrame) (out : Out) → (k.failed || is_some k.state.ended) ≡ false → next.failed ≡ k.failed
    → Takes limits (seen before k) (map entry_of before) (frame_of frame) (seen after next) (out_of (map entry_of after) out) (map entry_of after) → StepsTo limits k before frame next out after
running_steps limits k next before after frame out runs same t =
    let fine = not_over k.failed k.state.ended runs in
    (subst (λ (b : Bool). StepsBy b limits k before frame next out after) (sym fine.0) (steps_from limits k next before after frame out fine.1 t), same)

-- and belongs to its holder's list again
pub stays_belonging : (limits : Limits) (rule : RuleData) (k next : Kept) (before after : List (List ℕ)) (frame : CheckedFrame) (out : Out) → (k.failed || is_some k.state.ended) ≡ false → BelongsTo limits rule k before
    → Takes limits (seen before k) (map entry_of before) (frame_of frame) (seen after next) (out_of (map entry_of after) out) (map entry_of after) → Stands rule next after → BelongsTo limits rule next after
stays_belonging limits rule k next before after frame out runs b t stands _ =
    let fine = not_over k.failed k.state.ended runs in
    let c = (b fine.0).continues in
    record {
      stands = stands;
      continues = record {
        role = c.role;
        database = c.database;
        node = c.node;
        old = c.old;
        first = c.first;
        few = c.few;
        feeds = fed (seen before k) (seen after next) (map entry_of before) (map entry_of after) (frame_of frame) (out_of (map entry_of after) out) c.feeds (steps_from limits k next before after frame out fine.1 t);
      };
    }
