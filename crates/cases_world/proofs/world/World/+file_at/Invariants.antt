use Rattle.std.proofs.Common.{◌≡◌, ℕ}
use Rattle.cases_world.proofs.world.World.+file_at.Given as goal

abbrev pub decreases-file_at : goal.decreases-file_at
decreases-file_at l = l.depth
