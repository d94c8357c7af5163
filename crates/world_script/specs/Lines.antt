-- What a line after the line `WORLD` says.
use Rattle.std.specs.Prelude.{◌≡◌, ℕ, ◌+◌, ◌^◌, ◌≤◌, ◌||◌, ◌==◌, Bool, true, false, not, List, [], length, Option, Some, None, option_map, option_and_then, if◌then◌else◌, bytes_eq, codes}
use Rattle.std.specs.List.{list_all}
use Rattle.hex.specs.Hex.{decode_of}
use Rattle.update_model.specs.declared.op.Op.{Op}
use Rattle.text_words.specs.Hexadecimal.{if_decoded, is_lower_digit}
use Rattle.schema.specs.Data.{SchemaData}
use Rattle.txn_text.specs.Outcome.{MayStand}
use Rattle.world_script.specs.declared.act.Act.{Act}
use Rattle.world_script.specs.declared.act.Act.TheVariants as act
use Rattle.world_rules.specs.declared.event.Event.{Event}
use Rattle.world_rules.specs.declared.event.Event.TheVariants.{Make, Start, Carry, Cut, Feed, Stop, Restart}
use Rattle.world_script.specs.declared.limits.TheConstants.{MAX_REPLICAS, MAX_SCRIPT_BYTES, MAX_SESSIONS}
use Rattle.world_script.specs.declared.line.Line.{Line}
use Rattle.world_script.specs.declared.line.Line.TheVariants.{One, Run}
use Rattle.world_script.specs.declared.place.Place.{Place}
use Rattle.world_script.specs.Operations.{AreOperations}
use Rattle.world_script.specs.Words.{before, is_end, next_word, number_at, number_below}

-- ---- the parts of a form

-- a replica that the world has, and what stands after its number
abbrev pub replica_at : Place → List ℕ → Option (ℕ × List ℕ)
replica_at place rest = number_below place.replicas rest

-- a session that an earlier line opened, and what stands after its number
abbrev pub session_at : Place → List ℕ → Option (ℕ × List ℕ)
session_at place rest = number_below place.opened rest

-- something where only blanks follow
abbrev pub alone : {A : Type 0} → List ℕ → A → Option A
alone rest a = if is_end rest then Some a else None

-- whether frames are carried forward
abbrev pub way_of : List ℕ → Option Bool
way_of word = if bytes_eq word (codes ">") then Some true else if bytes_eq word (codes "<") then Some false else None

-- the bytes that lower-case hexadecimal digits write, two for each byte, at least one
abbrev pub bytes_of : List ℕ → Option (List ℕ)
bytes_of digits = if length digits == 0 || not (list_all is_lower_digit digits) then None else if_decoded (decode_of digits)

-- another replica
abbrev pub other_at : Place → ℕ → List ℕ → Option (Option ℕ × List ℕ)
other_at place first rest = option_and_then (λ read. if read.0 == first then None else Some (Some read.0, read.1)) (replica_at place rest)

-- whom a session is opened with: another replica, or a liar where the next word is `*`
abbrev pub second_of : Place → ℕ → List ℕ → Option (Option ℕ × List ℕ)
second_of place first rest = let read = next_word rest in if bytes_eq read.0 (codes "*") then Some (None, read.1) else other_at place first rest

-- ---- the forms

-- OPEN s a b, where s is the next number and below 256
abbrev pub open_with : Place → ℕ → List ℕ → Option Line
open_with place session rest =
    option_and_then (λ first. option_and_then (λ second. alone second.1 (One place.number (Start session first.0 second.0)))
    (second_of place first.0 first.1)) (replica_at place rest)

abbrev pub open_of : Place → List ℕ → Option Line
open_of place rest =
    option_and_then (λ session. if session.0 == place.opened then open_with place session.0 session.1 else None) (number_below MAX_SESSIONS rest)

-- CARRY s >, CARRY s <
abbrev pub carry_with : Place → ℕ → (List ℕ × List ℕ) → Option Line
carry_with place session read = option_and_then (λ forward. alone read.1 (One place.number (Carry session forward))) (way_of read.0)

abbrev pub carry_of : Place → List ℕ → Option Line
carry_of place rest = option_and_then (λ session. carry_with place session.0 (next_word session.1)) (session_at place rest)

-- RUN s
abbrev pub run_of : Place → List ℕ → Option Line
run_of place rest = option_and_then (λ session. alone session.1 (Run place.number session.0)) (session_at place rest)

-- CUT s
abbrev pub cut_of : Place → List ℕ → Option Line
cut_of place rest = option_and_then (λ session. alone session.1 (One place.number (Cut session.0))) (session_at place rest)

-- FEED s hex
abbrev pub feed_with : Place → ℕ → (List ℕ × List ℕ) → Option Line
feed_with place session read = if is_end read.1 then option_map (λ bytes. One place.number (Feed session bytes)) (bytes_of read.0) else None

abbrev pub feed_of : Place → List ℕ → Option Line
feed_of place rest = option_and_then (λ session. feed_with place session.0 (next_word session.1)) (session_at place rest)

-- STOP r n, where n is below 2^32
abbrev pub stop_of : Place → List ℕ → Option Line
stop_of place rest =
    option_and_then (λ replica. option_and_then (λ calls. alone calls.1 (One place.number (Stop replica.0 calls.0))) (number_below (2 ^ 32) replica.1)) (replica_at place rest)

-- RESTART r choice, where choice is below 2^64
abbrev pub restart_of : Place → List ℕ → Option Line
restart_of place rest =
    option_and_then (λ replica. option_and_then (λ choice. alone choice.1 (One place.number (Restart replica.0 choice.0))) (number_at replica.1)) (replica_at place rest)

-- MAKE r operation {; operation}
pub record Makes (schema : SchemaData) (place : Place) (rest : List ℕ) (said : Line) : Type 0 where
  pub replica : ℕ
  pub text : List ℕ
  pub ops : List Op
  pub by_replica : replica_at place rest ≡ Some (replica, text)
  pub are : AreOperations schema text ops
  pub is : said ≡ One place.number (Make replica ops)

-- ---- a line

-- what a line does whose first word is this
abbrev pub act_of : List ℕ → Option Act
act_of word =
    if bytes_eq word (codes "MAKE") then Some act.Make
    else if bytes_eq word (codes "OPEN") then Some act.Open
    else if bytes_eq word (codes "CARRY") then Some act.Carry
    else if bytes_eq word (codes "RUN") then Some act.Run
    else if bytes_eq word (codes "CUT") then Some act.Cut
    else if bytes_eq word (codes "FEED") then Some act.Feed
    else if bytes_eq word (codes "STOP") then Some act.Stop
    else if bytes_eq word (codes "RESTART") then Some act.Restart
    else None

-- what the first word of a line tells, and what stands after it
abbrev pub act_at : List ℕ → Option (Act × List ℕ)
act_at line = let read = next_word line in before (act_of read.0) read.1

-- What stands after a first word says this.
abbrev pub SaysAfter : SchemaData → Place → Act → List ℕ → Line → Type 0
SaysAfter schema place act.Make rest said = Makes schema place rest said
SaysAfter schema place act.Open rest said = open_of place rest ≡ Some said
SaysAfter schema place act.Carry rest said = carry_of place rest ≡ Some said
SaysAfter schema place act.Run rest said = run_of place rest ≡ Some said
SaysAfter schema place act.Cut rest said = cut_of place rest ≡ Some said
SaysAfter schema place act.Feed rest said = feed_of place rest ≡ Some said
SaysAfter schema place act.Stop rest said = stop_of place rest ≡ Some said
SaysAfter schema place act.Restart rest said = restart_of place rest ≡ Some said

-- A line at this place says this.
pub record Says (schema : SchemaData) (place : Place) (line : List ℕ) (said : Line) : Type 0 where
  pub act : Act
  pub rest : List ℕ
  pub first : act_at line ≡ Some (act, rest)
  pub after : SaysAfter schema place act rest said

-- ---- lines one after another

-- it opens a session
abbrev pub opens : Line → Bool
opens (One line (Start session first second)) = true
opens other = false

-- the place of the next line
abbrev pub place_after : Place → Line → Place
place_after place said =
    record { number = place.number + 1; replicas = place.replicas; opened = if opens said then place.opened + 1 else place.opened }

-- A place in a script that is not too long.
pub record IsPlace (place : Place) : Type 0 where
  pub replicas : place.replicas ≤ MAX_REPLICAS
  pub opened : place.opened ≤ place.number
  pub number : place.number ≤ MAX_SCRIPT_BYTES + 1

-- The operations of an update are such as a body may hold.
abbrev pub HasForm : Line → Type 0
HasForm (One line (Make replica ops)) = MayStand ops
HasForm other = Unit {0}
