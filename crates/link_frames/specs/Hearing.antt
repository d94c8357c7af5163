-- What comes over a link and what goes out over it: bytes, and the frames that they spell.
use Rattle.std.specs.Prelude.{◌≡◌, ◌⊎◌, ℕ, ◌^◌, ◌-◌, min, Option, List, [], ◌∷◌, ◌++◌, length}
use mathlib.Core.List.{IsPrefix}
use Rattle.std.specs.Io.KnownBytes.{Consumes}
use Rattle.update_codec.specs.Parts.{entry_of}
use Rattle.update_model.specs.Rule.{RuleData}
use Rattle.session_rules.specs.State.{FrameData, Hello, OtherVersion, Item, Turn, NoFrame}
use Rattle.sync_frames.specs.declared.frame.Frame.{Frame}
use Rattle.sync_frames.specs.declared.frame.Frame.TheVariants as frames
use Rattle.sync_frames.specs.Fed.{FedData}
use Rattle.sync_frames.specs.Stream.{AreSpelled, IsBroken, Spells}
use Rattle.sync_session.specs.Carrying.{Arrives}
use Rattle.sync_session.specs.Kept.{hello_of, turn_of}

-- what a frame says to a session
abbrev pub said_by : Frame → FrameData
said_by (frames.Hello hello) = Hello (hello_of hello)
said_by (frames.OtherVersion version) = OtherVersion
said_by (frames.Item bytes) = Item (entry_of bytes)
said_by (frames.Turn turn) = Turn (turn_of turn)

-- ---- what is heard

-- the place of what stands behind so many bytes
abbrev pub place_of : List ℕ → ℕ
place_of front = min (length front) (2 ^ 64 - 1)

-- Each frame reached the session in its turn, an update as the check of updates found it.
abbrev pub AllArrive : RuleData → List Frame → List FrameData → Type 0
AllArrive rule [] heard = heard ≡ []
AllArrive rule (frame ∷ frames) heard = (first : FrameData) × (others : List FrameData) × (heard ≡ first ∷ others) × Arrives rule (said_by frame) first × AllArrive rule frames others

-- The session may have heard besides that what follows is no frame.
abbrev pub HeardOf : List ℕ → List ℕ → List FrameData → List FrameData → Type 0
HeardOf front later arrived heard = (heard ≡ arrived) ⊎ ((heard ≡ arrived ++ NoFrame (place_of front) ∷ []) × IsBroken later)

-- Of what was read of a link, the session heard the frames that stand in front, in their order. `later` is what stands behind them.
pub record Hears (rule : RuleData) (read later : List ℕ) (heard : List FrameData) : Type 0 where
  pub front : List ℕ
  pub frames : List Frame
  pub arrived : List FrameData
  pub whole : read ≡ front ++ later
  pub each : AreSpelled frames front
  pub arrive : AllArrive rule frames arrived
  pub are : HeardOf front later arrived heard

-- The bytes that were read so far are these frames and a rest, and the frames were heard in order.
pub record Reads (rule : RuleData) (before left : Option (List ℕ)) (fed : FedData) (heard : List FrameData) : Type 0 where
  pub front : List ℕ
  pub frames : List Frame
  pub took : Consumes before left (front ++ fed.rest)
  pub each : AreSpelled frames front
  pub arrive : AllArrive rule frames heard
  pub place : fed.place ≡ place_of front

-- ---- what is said

-- These bytes are a frame that says this.
abbrev pub IsSaid : FrameData → List ℕ → Type 0
IsSaid said bytes = (frame : Frame) × Spells frame bytes × (said ≡ said_by frame)

-- These bytes are frames that say this, one after the other.
abbrev pub AreSaid : List FrameData → List ℕ → Type 0
AreSaid [] bytes = bytes ≡ []
AreSaid (said ∷ others) bytes = (first : List ℕ) × (rest : List ℕ) × IsSaid said first × AreSaid others rest × (bytes ≡ first ++ rest)

-- These bytes are the front of a frame that says the first of this, or there are none.
abbrev pub Begins : List FrameData → List ℕ → Type 0
Begins [] bytes = bytes ≡ []
Begins (said ∷ others) bytes = (bytes ≡ []) ⊎ ((whole : List ℕ) × IsSaid said whole × IsPrefix bytes whole)

-- These bytes are a front of what is to be said: some frames, and the front of the next.
pub record AreFrontOf (said : List FrameData) (bytes : List ℕ) : Type 0 where
  pub done : List FrameData
  pub left : List FrameData
  pub whole : List ℕ
  pub begun : List ℕ
  pub all : said ≡ done ++ left
  pub each : AreSaid done whole
  pub begins : Begins left begun
  pub bytes_are : bytes ≡ whole ++ begun
