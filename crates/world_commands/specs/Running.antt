-- What was done of lines, and what was reported of them.
use Rattle.std.specs.Prelude.{◌≡◌, ℕ, List, ◌++◌}
use Rattle.std.specs.List.{flat_map}
use Rattle.byzantine_world.specs.Codes.{ShowsWorld, WorldCode}
use Rattle.schema.specs.Data.{Meaning}
use Rattle.world_commands.specs.Lines.{LineHappens, LinesHappen}
use Rattle.world_report.specs.Reports.{missed_text}
use Rattle.world_report.specs.declared.shown.Missed.{Missed}
use Rattle.world_rules.specs.Worlds.{WorldData}
use Rattle.world_script.specs.declared.line.Line.{Line}

-- What a line says happened to a world, the code shows what that came to, and the report was added to.
pub record LineDone (ask : Meaning) (w : WorldData) (line : Line) (code : WorldCode) (report report' : List ℕ) : Type 0 where
  pub missed : List Missed
  pub next : WorldData
  pub happens : LineHappens ask line w missed next
  pub shows : ShowsWorld code next
  pub added : report' ≡ report ++ flat_map missed_text missed

-- the same of lines
pub record LinesDone (ask : Meaning) (w : WorldData) (lines : List Line) (code : WorldCode) (report report' : List ℕ) : Type 0 where
  pub missed : List Missed
  pub next : WorldData
  pub happen : LinesHappen ask w lines missed next
  pub shows : ShowsWorld code next
  pub added : report' ≡ report ++ flat_map missed_text missed
