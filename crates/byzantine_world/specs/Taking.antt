-- What frames do to the ends of sessions, as the code has them.
use Rattle.std.specs.Prelude.{◌≡◌, ◌⊎◌, ℕ, ◌<◌, Bool, true, false, List, [], ◌∷◌, ◌++◌, length, map, All, Option, Some, None, if◌then◌else◌}
use Rattle.std.specs.VecDeque.{deque_items}
use Rattle.session_rules.specs.Pair.{frames_of}
use Rattle.session_rules.specs.State.{FrameData}
use Rattle.sync_frames.specs.Stream.{IsBroken}
use Rattle.sync_session.specs.Kept.{IsFrameUnder, frame_of, out_of, seen}
use Rattle.sync_session.specs.declared.checked_frame.CheckedFrame.{CheckedFrame}
use Rattle.sync_session.specs.declared.out.Out.{Out}
use Rattle.update_codec.specs.Parts.{entry_of}
use Rattle.byzantine_world.specs.Codes.{cut_code, is_over_code}
use Rattle.byzantine_world.specs.Standing.{IsSideSound}
use Rattle.update_check.specs.Members.{AreMembers}
use Rattle.byzantine_world.specs.declared.carrying.Read.{Read}
use Rattle.byzantine_world.specs.declared.carrying.Read.TheVariants.{Nothing, Frame}
use Rattle.byzantine_world.specs.declared.talk.Both.{Both}
use Rattle.byzantine_world.specs.declared.talk.Liar.{Liar}
use Rattle.byzantine_world.specs.declared.talk.Side.{Side}
use Rattle.byzantine_world.specs.declared.talk.Talk.{Talk}
use Rattle.byzantine_world.specs.declared.talk.Talk.TheVariants as talks
use Rattle.replica.specs.Holding.{KeepsOn}
use Rattle.world_rules.specs.Happens.{HearsFrames, RemembersOf, TakesAll, TakesOne, is_broken_off}
use Rattle.world_rules.specs.Lists.{Extends}
use Rattle.world_rules.specs.Worlds.{SiteData, held_by}

-- An end took a frame over what its replica holds. It stays sound, and was not cut by it.
pub record TakesFrame (site : SiteData) (side : Side) (frame : CheckedFrame) (out : Out) (new : SiteData) (next : Side) : Type 0 where
  pub takes : TakesOne site.store (seen (held_by site) side.session) (frame_of frame) (seen (held_by new) next.session) (out_of (map entry_of (held_by new)) out) new.store
  pub site_is : new ≡ record site { store = new.store }
  pub extends : Extends site.store.history.schema.rule (held_by site) (held_by new)
  pub sound : IsSideSound site.store.history.schema.rule (held_by new) next
  pub uncut : next.is_cut ≡ side.is_cut

-- An end took frames one after another.
pub record TakesFrames (site : SiteData) (side : Side) (frames : List CheckedFrame) (new : SiteData) (next : Side) : Type 0 where
  pub takes : TakesAll site.store (seen (held_by site) side.session) (map frame_of frames) (seen (held_by new) next.session) new.store
  pub keeps : KeepsOn site.store new.store
  pub site_is : new ≡ record site { store = new.store }
  pub extends : Extends site.store.history.schema.rule (held_by site) (held_by new)
  pub sound : IsSideSound site.store.history.schema.rule (held_by new) next
  pub uncut : next.is_cut ≡ side.is_cut

-- A session as the end that reads has it: who reads, and who is the other; both ends, and the frames on the way to either.
pub record View : Type 0 where
  pub reader : ℕ
  pub other : ℕ
  pub end : Side
  pub peer : Side
  pub arriving : List CheckedFrame
  pub leaving : List CheckedFrame

-- a session of two replicas, from the end that reads: a frame goes forward to the end that answers
abbrev pub view_from : Bool → Both → View
view_from true both = record { reader = both.second; other = both.first; end = both.b; peer = both.a; arriving = deque_items both.to_b; leaving = deque_items both.to_a }
view_from false both = record { reader = both.first; other = both.second; end = both.a; peer = both.b; arriving = deque_items both.to_a; leaving = deque_items both.to_b }

-- whether an end has nothing to read, or reads no more
abbrev pub HasNothing : View → Type 0
HasNothing v = (is_over_code v.end ≡ true) ⊎ (v.arriving ≡ [])

abbrev pub cut_code_if : Bool → Side → Side
cut_code_if true side = cut_code side
cut_code_if false side = side

-- The end read the oldest frame on the way to it. What it answers is put behind what leaves; where it is done, its replica
-- remembers; and its peer is cut where it ended otherwise.
pub record ReadsFrame (site : SiteData) (v : View) (new : SiteData) (next : View) : Type 0 where
  pub runs : is_over_code v.end ≡ false
  pub frame : CheckedFrame
  pub first : v.arriving ≡ frame ∷ next.arriving
  pub out : Out
  pub takes : TakesOne site.store (seen (held_by site) v.end.session) (frame_of frame) (seen (held_by new) next.end.session) (out_of (map entry_of (held_by new)) out) new.store
  pub remembers : RemembersOf site v.other (seen (held_by new) next.end.session) new.remembered
  pub site_is : new ≡ record site { store = new.store; remembered = new.remembered }
  pub extends : Extends site.store.history.schema.rule (held_by site) (held_by new)
  pub sound : IsSideSound site.store.history.schema.rule (held_by new) next.end
  pub uncut : next.end.is_cut ≡ v.end.is_cut
  pub reader_is : next.reader ≡ v.reader
  pub other_is : next.other ≡ v.other
  pub peer_is : next.peer ≡ cut_code_if (is_broken_off next.end.ended) v.peer
  pub leaving_are : map frame_of next.leaving ≡ map frame_of v.leaving ++ frames_of (out_of (map entry_of (held_by new)) out)
  pub under : All (IsFrameUnder site.store.history.schema.rule) v.leaving → All (IsFrameUnder site.store.history.schema.rule) next.leaving

-- A liar's bytes were heard, and its end took the frames that they complete.
pub record HearsLiar (site : SiteData) (liar : Liar) (bytes : List ℕ) (new : SiteData) (next : Liar) : Type 0 where
  pub heard : List FrameData
  pub hears : HearsFrames site.store.history.schema.rule liar.frames bytes next.frames heard
  pub takes : TakesAll site.store (seen (held_by site) liar.end.session) heard (seen (held_by new) next.end.session) new.store
  pub keeps : KeepsOn site.store new.store
  pub site_is : new ≡ record site { store = new.store }
  pub extends : Extends site.store.history.schema.rule (held_by site) (held_by new)
  pub sound : IsSideSound site.store.history.schema.rule (held_by new) next.end
  pub uncut : next.end.is_cut ≡ liar.end.is_cut
  pub first : next.first ≡ liar.first
  pub fine : is_over_code next.end ≡ false → IsBroken next.frames.rest → ⊥

-- a session from an end, part by part
abbrev pub view_of : ℕ → ℕ → Side → Side → List CheckedFrame → List CheckedFrame → View
view_of reader other end peer arriving leaving = record { reader = reader; other = other; end = end; peer = peer; arriving = arriving; leaving = leaving }

-- The replica of the end that reads can take a frame: the end is sound over what it holds, and what is on the way is under the rule.
pub record CanRead (site : SiteData) (v : View) : Type 0 where
  pub sound : IsSideSound site.store.history.schema.rule (held_by site) v.end
  pub members : AreMembers site.store.history.schema.rule (held_by site)
  pub arriving : All (IsFrameUnder site.store.history.schema.rule) v.arriving
  pub there : v.other < length site.remembered

-- The replica of a session with a liar can take what it hears.
pub record CanHear (site : SiteData) (liar : Liar) : Type 0 where
  pub sound : IsSideSound site.store.history.schema.rule (held_by site) liar.end
  pub members : AreMembers site.store.history.schema.rule (held_by site)

-- There was nothing to read, and nothing changed; or a frame was read.
abbrev pub Reads : Read → SiteData → View → SiteData → View → Type 0
Reads Nothing site v new next = HasNothing v × (new ≡ site) × (next ≡ v)
Reads (Frame end) site v new next = ReadsFrame site v new next × (end ≡ next.end.ended)

-- ---- the session of a number

-- the two replicas' session that is there
abbrev pub both_in : Option Talk → Option Both
both_in None = None
both_in (Some (talks.Both both)) = Some both
both_in (Some (talks.Liar liar)) = None

-- the session with a liar that is there
abbrev pub liar_in : Option Talk → Option Liar
liar_in None = None
liar_in (Some (talks.Both both)) = None
liar_in (Some (talks.Liar liar)) = Some liar

-- who reads a frame of a session
abbrev pub reader_in : Bool → Option Both → Option ℕ
reader_in forward None = None
reader_in forward (Some both) = Some (view_from forward both).reader

-- who hears a liar, until its end is over
abbrev pub hearer_in : Option Liar → Option ℕ
hearer_in None = None
hearer_in (Some liar) = if is_over_code liar.end then None else Some liar.first
