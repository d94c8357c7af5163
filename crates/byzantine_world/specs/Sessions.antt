-- How a session of a world begins.
use Rattle.std.specs.Prelude.{◌≡◌, ℕ, List, [], Option}
use Rattle.std.specs.VecDeque.{deque_items}
use Rattle.session_rules.specs.declared.role.Role.{Role}
use Rattle.session_rules.specs.declared.role.Role.TheVariants.{Initiator, Responder}
use Rattle.sync_frames.specs.Payload.{HelloData}
use Rattle.sync_session.specs.Kept.{BelongsTo, Kept}
use Rattle.sync_session.specs.Starts.{StartsAs}
use Rattle.sync_session.specs.declared.checked_frame.CheckedFrame.{CheckedFrame}
use Rattle.sync_session.specs.declared.out.Out.{Out}
use Rattle.update_model.specs.Batch.{store_limits}
use Rattle.update_model.specs.declared.update_id.UpdateId.{UpdateId}
use Rattle.byzantine_world.specs.Codes.{side_of}
use Rattle.byzantine_world.specs.Events.{way_of}
use Rattle.byzantine_world.specs.declared.talk.Both.{Both}
use Rattle.byzantine_world.specs.declared.talk.Side.{Side}
use Rattle.world_rules.specs.Happens.{recalled}
use Rattle.world_rules.specs.Worlds.{SiteData, held_by}

-- An end begins over what a replica holds, with these ids that it remembers of its peer, and hands this Hello out.
pub record Begins (role : Role) (site : SiteData) (ids : List UpdateId) (side : Side) (hello : Option HelloData) : Type 0 where
  pub begun : Kept
  pub gives : Out
  pub starts : StartsAs role site.store.history.schema.rule.database site.store.node ids (held_by site) begun gives
  pub belongs : BelongsTo store_limits site.store.history.schema.rule begun (held_by site)
  pub side_is : side ≡ side_of begun
  pub hello_is : hello ≡ gives.hello

-- The end that begins a session, and its Hello is on its way.
pub record BeginsFirst (site : SiteData) (ids : List UpdateId) (side : Side) (way : List CheckedFrame) : Type 0 where
  pub hello : Option HelloData
  pub begins : Begins Initiator site ids side hello
  pub way_is : way ≡ way_of hello

-- A session of two replicas with these numbers. The Hello of who begins is on its way, and nothing else.
pub record BeginBoth (one other : SiteData) (first second : ℕ) (both : Both) : Type 0 where
  pub first_is : both.first ≡ first
  pub second_is : both.second ≡ second
  pub starts : BeginsFirst one (recalled one both.second) both.a (deque_items both.to_b)
  pub hello : Option HelloData
  pub waits : Begins Responder other (recalled other both.first) both.b hello
  pub to_a_is : deque_items both.to_a ≡ []
