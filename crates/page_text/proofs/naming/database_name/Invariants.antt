use Rattle.std.proofs.Common.{◌≡◌, length}
use Rattle.page_text.specs.Naming.{database_name}
use Rattle.page_text.proofs.naming.database_name.Given as goal

-- the lines that are left give the name
abbrev pub invariant-loop-line : goal.invariant-loop-line
invariant-loop-line l = database_name l.rest ≡ database_name l.text

abbrev pub decreases-loop-line : goal.decreases-loop-line
decreases-loop-line l = length l.rest
