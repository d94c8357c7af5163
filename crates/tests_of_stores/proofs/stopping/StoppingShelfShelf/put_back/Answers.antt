use Rattle.std.proofs.Common.{subst}
use Rattle.bec_disk.specs.Replay.{state_of}
use Rattle.bec_disk.specs.Shelf.{PutsBack}
use Rattle.bec_disk.specs.Shelved.{MemShelfState, shelf_of}
use Rattle.tests_of_stores.proofs.stopping.StoppingShelfShelf.put_back.Goals as goal

pub returns-clause-puts : goal.returns-clause-puts
returns-clause-puts c place is =
    subst (λ (s : MemShelfState). PutsBack (shelf_of s) place (state_of c.args.disk) (shelf_of c.put_back.new.self)) c.self.view_is (c.put_back.ensures.puts place is)
