use Rattle.bec_disk.specs.Shelved.{entry_at}
use Rattle.bec_disk.proofs.Homes.{home_left}
use Rattle.tests_of_outside.proofs.shelves.crashed.Goals as goal

pub returns : goal.returns
returns c = record {
  home = λ place. home_left c.args.choice (entry_at c.args.shelf.now.entries place) (entry_at c.in_ok-left.left.entries place) (c.in_ok-left.ensures.left place) (c.requires.home place);
}
