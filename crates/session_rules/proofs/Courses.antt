-- The course of an end: its turns and its counts are bounded.
use Rattle.std.proofs.Common.{ℕ, ◌<◌, ◌≤◌, List, length}
use Rattle.update_model.specs.declared.limits.TheConstants.{MAX_MEMBERS}
use Rattle.update_model.specs.declared.update_id.UpdateId.{UpdateId}
use Rattle.update_model.specs.Batch.{Limits}
use Rattle.update_model.specs.Entry.{Entry}
use Rattle.session_rules.specs.declared.limits.TheConstants.{MAX_TURNS}
use Rattle.session_rules.specs.Course.{opened, Continues}
use Rattle.session_rules.specs.State.{Role, Initiator, Responder, SessionData}
use Rattle.session_rules.proofs.Bounds.{Bounded, feeds_bounded, few_turns, start_a, start_b}

opened_bounded : (role : Role) (database node : List ℕ) (old : List UpdateId) (list : List Entry) → length list ≤ MAX_MEMBERS → Bounded (opened role database node old list) list
opened_bounded Initiator database node old list few = start_a database node old list few
opened_bounded Responder database node old list few = start_b database node old list few

-- an end is bounded
pub continues_bounded : (limits : Limits) (s : SessionData) (list : List Entry) → limits.updates ≤ MAX_MEMBERS → Continues limits s list → Bounded s list
continues_bounded limits s list small c =
    feeds_bounded limits (opened c.role c.database c.node c.old c.first) c.first s list small (opened_bounded c.role c.database c.node c.old c.first c.few) c.feeds

-- its turns are few
pub continues_few : (limits : Limits) (s : SessionData) (list : List Entry) → limits.updates ≤ MAX_MEMBERS → Continues limits s list → s.turns < MAX_TURNS
continues_few limits s list small c = few_turns s list (continues_bounded limits s list small c)
