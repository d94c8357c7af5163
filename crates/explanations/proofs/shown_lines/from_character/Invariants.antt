use Rattle.std.proofs.Common.{◌≡◌, length}
use Rattle.explanations.specs.Shown.{from_character}
use Rattle.explanations.proofs.shown_lines.from_character.Given as goal

abbrev pub invariant-loop-rest : goal.invariant-loop-rest
invariant-loop-rest l = from_character l.rest ≡ from_character l.bytes

abbrev pub decreases-loop-rest : goal.decreases-loop-rest
decreases-loop-rest l = length l.rest
