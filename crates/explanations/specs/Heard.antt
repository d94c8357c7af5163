-- What is heard of what a sink was given. An LF is the byte 10.
use Rattle.std.specs.Prelude.{◌≡◌, ℕ, ◌-◌, ◌≤◌, Bool, true, false, ◌&&◌, ◌||◌, ◌==◌, nat_eq, nat_lt, IsTrue, List, [], ◌∷◌, ◌++◌, length, take, Result, Ok, Err, codes, if◌then◌else◌}
use Rattle.std.specs.List.{starts_with}
use Rattle.std.specs.declared.option.Option.{Option}
use Rattle.explanations.specs.declared.heard_lines.HeardLines.{HeardLines}

-- a line that is kept
abbrev pub is_report : List ℕ → Bool
is_report line = starts_with nat_eq line (codes "! ") || starts_with nat_eq line (codes "session ")

-- the lines that LFs end in what comes behind a line that was begun
abbrev pub ended_behind : List ℕ → List ℕ → List (List ℕ)
ended_behind line [] = []
ended_behind line (byte ∷ bytes) = if byte == 10 then line ∷ ended_behind [] bytes else ended_behind (line ++ byte ∷ []) bytes

-- the line that is begun behind these
abbrev pub begun_behind : List ℕ → List ℕ → List ℕ
begun_behind line [] = line
begun_behind line (byte ∷ bytes) = if byte == 10 then begun_behind [] bytes else begun_behind (line ++ byte ∷ []) bytes

-- what was heard, and behind it a line more with an LF, where it is kept and the limit has room for it
abbrev pub with_line : ℕ → List ℕ → List ℕ → List ℕ
with_line limit heard line = if is_report line && nat_lt (length line) (limit - length heard) then heard ++ (line ++ 10 ∷ []) else heard

-- what was heard, and behind it what is heard of these lines
abbrev pub heard_behind : ℕ → List ℕ → List (List ℕ) → List ℕ
heard_behind limit heard [] = heard
heard_behind limit heard (line ∷ lines) = heard_behind limit (with_line limit heard line) lines

-- no line that begins so is heard
abbrev pub NeverHeard : ℕ → List ℕ → Type 0
NeverHeard limit front = (more : List ℕ) → (is_report (front ++ more) && nat_lt (length (front ++ more)) limit) ≡ false

-- What may be heard of lines: of each in turn either nothing, or of one that is kept the line and an LF.
pub data AreHeard : List (List ℕ) → List ℕ → Type 0 where
  no_line : AreHeard [] []
  passed_over : (lines : List (List ℕ)) (heard line : List ℕ) → AreHeard lines heard → AreHeard (lines ++ line ∷ []) heard
  one_kept : (lines : List (List ℕ)) (heard line : List ℕ) → AreHeard lines heard → IsTrue (is_report line) → AreHeard (lines ++ line ∷ []) (heard ++ (line ++ 10 ∷ []))

-- The bytes that were heard, and how many these may be; the line that was begun, whether it is passed over, and whether
-- memory ran out.
pub record Hearing : Type 0 where
  pub heard : List ℕ
  pub limit : ℕ
  pub line : List ℕ
  pub passes : Bool
  pub is_over : Bool

abbrev pub hearing_of : HeardLines → Hearing
hearing_of lines = record { heard = lines.heard.items; limit = lines.limit; line = lines.line.items; passes = lines.passes; is_over = lines.is_over }

-- These are the bytes that were given: what was heard is of their lines, as much as the limit allows, and unless memory
-- ran out, all that is to be heard; and the line that was begun is theirs, unless none is heard that begins as it does.
pub record HasHeard (hearing : Hearing) (given : List ℕ) : Type 0 where
  pub short : length hearing.heard ≤ hearing.limit
  pub lines : AreHeard (ended_behind [] given) hearing.heard
  pub all : hearing.is_over ≡ false → hearing.heard ≡ heard_behind hearing.limit [] (ended_behind [] given)
  pub begun : hearing.is_over ≡ false → hearing.passes ≡ false → hearing.line ≡ begun_behind [] given
  pub passed : hearing.is_over ≡ false → hearing.passes ≡ true → NeverHeard hearing.limit (begun_behind [] given)

-- what is heard at the end of the line that was begun
abbrev pub heard_at_end : Hearing → List ℕ
heard_at_end hearing = if hearing.passes then hearing.heard else with_line hearing.limit hearing.heard hearing.line

-- a line that is kept is added, or nothing is
pub data MayKeep (hearing : Hearing) (heard : List ℕ) : Type 0 where
  nothing : heard ≡ hearing.heard → MayKeep hearing heard
  whole_line : hearing.passes ≡ false → IsTrue (is_report hearing.line) → length heard ≤ hearing.limit
      → heard ≡ hearing.heard ++ (hearing.line ++ 10 ∷ []) → MayKeep hearing heard

-- What a contract sees of a sink that listens: what the other sink tells and counts, and what was heard.
pub record ListeningState : Type 0 where
  pub held : Option (List ℕ)
  pub faults : ℕ
  pub hearing : Hearing

-- what a call took of a piece
abbrev pub taken_by : {E : Type 0} → Result ℕ E → List ℕ → List ℕ
taken_by (Ok count) bytes = take count bytes
taken_by (Err fault) bytes = []
