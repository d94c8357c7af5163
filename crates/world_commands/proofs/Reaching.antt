-- The world of a report came about from a new one.
use Rattle.std.proofs.Common.{ℕ, Bool, true, false, List, sym, subst}
use Rattle.schema.specs.Data.{Meaning}
use Rattle.world_commands.specs.Answers.{Reports}
use Rattle.world_commands.specs.Lines.{CarriesOn, CarriesRound, LineHappens, LinesHappen, RunsOut}
use Rattle.world_commands.specs.Lines as lines
use Rattle.world_report.specs.declared.shown.Missed.{Missed}
use Rattle.world_rules.specs.Happens.{IsReached, Reaches}
use Rattle.world_rules.specs.Happens as worlds
use Rattle.world_rules.specs.Worlds.{WorldData}
use Rattle.world_rules.specs.declared.event.Event.TheVariants.{Carry}
use Rattle.world_script.specs.declared.line.Line.{Line}
use Rattle.world_script.specs.declared.line.Line.TheVariants.{One, Run}
use Rattle.world_script.specs.declared.script.Script.{Script}

by_round : (ask : Meaning) (session : ℕ) (first w next : WorldData) (found : Bool) → Reaches ask first w → CarriesRound ask session w next found → Reaches ask first next
by_round ask session first w next found here r =
    worlds.goes r.between next (Carry session false) r.back (worlds.goes w r.between (Carry session true) r.forward here r.first) r.second

by_rounds : (ask : Meaning) (session : ℕ) (first w next : WorldData) → Reaches ask first w → CarriesOn ask session w next → Reaches ask first next
by_rounds ask session first w next here (lines.begins n e) = subst (Reaches ask first) (sym e) here
by_rounds ask session first w next here (lines.and_round mid n carried round) = by_round ask session first mid n _ (by_rounds ask session first w mid here carried) round

by_line : (ask : Meaning) (line : Line) (first w next : WorldData) (missed : List Missed) → Reaches ask first w → LineHappens ask line w missed next → Reaches ask first next
by_line ask (One number event) first w next missed here happens = worlds.goes w next event happens.0 here happens.1
by_line ask (Run number session) first w next missed here happens =
    by_round ask session first happens.0.mid next _ (by_rounds ask session first w happens.0.mid here happens.0.carried) happens.0.rests

pub by_lines : (ask : Meaning) (first : WorldData) (all : List Line) (next : WorldData) (missed : List Missed) → LinesHappen ask first all missed next → Reaches ask first next
by_lines ask first all next missed (lines.none n e) = worlds.begins n e
by_lines ask first all next missed (lines.and_line before line was more mid n happen last) = by_line ask line first mid n more (by_lines ask first before mid was happen) last

pub are_reached : (ask : Meaning) (audit : Bool) (script : Script) (text : List ℕ) (report : Reports ask audit script text) → IsReached ask report.schema report.last
are_reached ask audit script text report = (report.first, report.new, by_lines ask report.first script.lines report.last report.missed report.happen)
