use Rattle.confluence_checker.proofs.Parting.{parted_confirms}
use Rattle.confluence_checker.proofs.laws.shared_updates_are_a_base.Goals as goal

pub returns : goal.returns
returns c = parted_confirms c.invariants_are_of_the_set.ensures
