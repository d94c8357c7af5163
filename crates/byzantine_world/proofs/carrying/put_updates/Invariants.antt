use Rattle.std.proofs.Common.{◌≡◌, ◌++◌, All, map, filter_map, slice_get, take}
use Rattle.std.specs.VecDeque.{deque_items}
use Rattle.session_rules.specs.State.{Item}
use Rattle.sync_session.specs.Kept.{IsFrameUnder, frame_of}
use Rattle.update_check.specs.Members.{AreMembers}
use Rattle.update_codec.specs.Parts.{entry_of}
use Rattle.update_model.specs.Rule.{RuleData}
use Rattle.world_rules.specs.Worlds.{held_by}
use Rattle.byzantine_world.proofs.carrying.put_updates.Given as goal

-- the updates at the positions so far are put
abbrev pub invariant-updates : goal.invariant-updates
invariant-updates l =
    (map frame_of (deque_items l.leaving) ≡ map frame_of (deque_items l.fn.leaving) ++ map Item (filter_map (slice_get (map entry_of (held_by l.site))) (take l.position-index l.positions)))
    × ((rule : RuleData) → AreMembers rule (held_by l.site) → All (IsFrameUnder rule) (deque_items l.fn.leaving) → All (IsFrameUnder rule) (deque_items l.leaving))
