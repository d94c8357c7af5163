-- What the lines of a script do to a world.
use Rattle.std.specs.Prelude.{◌≡◌, ℕ, Bool, true, false, ◌||◌, List, [], ◌∷◌, ◌++◌}
use Rattle.schema.specs.Data.{Meaning}
use Rattle.world_report.specs.declared.shown.Missed.{Missed}
use Rattle.world_report.specs.declared.shown.Missed.TheVariants as missed
use Rattle.world_rules.specs.declared.event.Event.TheVariants.{Carry}
use Rattle.world_rules.specs.declared.event.Stepped.{Stepped}
use Rattle.world_rules.specs.declared.event.Stepped.TheVariants as stepped
use Rattle.world_rules.specs.Happens.{Happens}
use Rattle.world_rules.specs.Worlds.{WorldData}
use Rattle.world_script.specs.declared.line.Line.{Line}
use Rattle.world_script.specs.declared.line.Line.TheVariants.{One, Run}

-- what is reported where an event stands that changed nothing, or whose update was refused
abbrev pub missed_of : ℕ → Stepped → List Missed
missed_of line stepped.Done = []
missed_of line stepped.NoSuch = missed.NoSuch line ∷ []
missed_of line (stepped.Refused cause) = missed.Refused line cause ∷ []

-- ---- RUN

-- a carry found a frame
abbrev pub has_carried : Stepped → Bool
has_carried stepped.Done = true
has_carried stepped.NoSuch = false
has_carried (stepped.Refused cause) = true

-- A frame of the session is carried forward and then one back, where there is one; and whether there was any.
pub record CarriesRound (ask : Meaning) (session : ℕ) (w next : WorldData) (found : Bool) : Type 0 where
  pub forward : Stepped
  pub back : Stepped
  pub between : WorldData
  pub first : Happens ask w (Carry session true) forward between
  pub second : Happens ask between (Carry session false) back next
  pub is : found ≡ (has_carried forward || has_carried back)

-- Rounds in which frames are carried, one after another.
pub data CarriesOn (ask : Meaning) (session : ℕ) (w : WorldData) : WorldData → Type 0 where
  begins : (next : WorldData) → next ≡ w → CarriesOn ask session w next
  and_round : (mid next : WorldData) → CarriesOn ask session w mid → CarriesRound ask session mid next true → CarriesOn ask session w next

-- Frames of a session are carried forward and back by turns, until both find nothing.
pub record RunsOut (ask : Meaning) (session : ℕ) (w next : WorldData) : Type 0 where
  pub mid : WorldData
  pub carried : CarriesOn ask session w mid
  pub rests : CarriesRound ask session mid next false

-- ---- lines

-- What a line says happens, and this is reported of it where it stands.
abbrev pub LineHappens : Meaning → Line → WorldData → List Missed → WorldData → Type 0
LineHappens ask (One line event) w missed next = (answer : Stepped) × Happens ask w event answer next × (missed ≡ missed_of line answer)
LineHappens ask (Run line session) w missed next = RunsOut ask session w next × (missed ≡ [])

-- What lines say happens, one after another, and this is reported of them.
pub data LinesHappen (ask : Meaning) (w : WorldData) : List Line → List Missed → WorldData → Type 0 where
  none : (next : WorldData) → next ≡ w → LinesHappen ask w [] [] next
  and_line : (lines : List Line) (line : Line) (missed more : List Missed) (mid next : WorldData) → LinesHappen ask w lines missed mid → LineHappens ask line mid more next
      → LinesHappen ask w (lines ++ line ∷ []) (missed ++ more) next
