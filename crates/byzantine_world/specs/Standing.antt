-- What the code of a world keeps true.
use Rattle.std.specs.Prelude.{◌≡◌, ◌<◌, ℕ, false, List, All, length, Option, Some, None, slice_get}
use Rattle.std.specs.VecDeque.{deque_items}
use Rattle.row_check.specs.Checksum.{is_luhn}
use Rattle.schema.specs.Data.{SchemaData}
use Rattle.confluence_test.specs.Taking.{TakesSchema}
use Rattle.sync_frames.specs.Stream.{IsBroken}
use Rattle.sync_session.specs.Kept.{BelongsTo, IsFrameUnder}
use Rattle.update_model.specs.Batch.{store_limits}
use Rattle.update_model.specs.Rule.{RuleData}
use Rattle.byzantine_world.specs.Codes.{is_over_code, list_at}
use Rattle.byzantine_world.specs.declared.talk.Both.{Both}
use Rattle.byzantine_world.specs.declared.talk.Liar.{Liar}
use Rattle.byzantine_world.specs.declared.talk.Side.{Side}
use Rattle.byzantine_world.specs.declared.talk.Talk.{Talk}
use Rattle.byzantine_world.specs.declared.talk.Talk.TheVariants as talks
use Rattle.world_rules.specs.Worlds.{SiteData}
use Rattle.world_rules.proofs.Sites.{IsSiteSound}

-- An end belongs to what its replica holds, its memory has not run out, and how it ended is known.
pub record IsSideSound (rule : RuleData) (members : List (List ℕ)) (side : Side) : Type 0 where
  pub belongs : BelongsTo store_limits rule side.session members
  pub runs : side.session.failed ≡ false
  pub told : side.session.state.ended ≡ side.ended

-- Both replicas are there, both ends are sound, and each update on the way is under the rule.
pub record AreBothSound (rule : RuleData) (sites : List SiteData) (both : Both) : Type 0 where
  pub first : both.first < length sites
  pub second : both.second < length sites
  pub a : IsSideSound rule (list_at sites both.first) both.a
  pub b : IsSideSound rule (list_at sites both.second) both.b
  pub to_a : All (IsFrameUnder rule) (deque_items both.to_a)
  pub to_b : All (IsFrameUnder rule) (deque_items both.to_b)

-- The replica is there, its end is sound, and until it is over what came of the liar may be the beginning of a frame.
pub record IsLiarSound (rule : RuleData) (sites : List SiteData) (liar : Liar) : Type 0 where
  pub first : liar.first < length sites
  pub end : IsSideSound rule (list_at sites liar.first) liar.end
  pub fine : is_over_code liar.end ≡ false → IsBroken liar.frames.rest → ⊥

abbrev pub IsTalkSound : RuleData → List SiteData → Option Talk → Type 0
IsTalkSound rule sites None = Unit {0}
IsTalkSound rule sites (Some (talks.Both both)) = AreBothSound rule sites both
IsTalkSound rule sites (Some (talks.Liar liar)) = IsLiarSound rule sites liar

-- All replicas have one schema and are as each event leaves them, and all sessions are sound.
pub record IsStanding (sites : List SiteData) (sessions : List (Option Talk)) : Type 0 where
  pub schema : SchemaData
  pub taken : TakesSchema is_luhn schema.text schema
  pub each : (r : ℕ) (site : SiteData) → slice_get sites r ≡ Some site → IsSiteSound schema site × (length site.remembered ≡ length sites)
  pub sessions_are : All (IsTalkSound schema.rule sites) sessions
  pub numbers : length sessions ≡ 256
