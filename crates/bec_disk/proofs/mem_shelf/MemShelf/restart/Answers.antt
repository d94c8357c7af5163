use Rattle.std.proofs.Common.{List, ap, subst, ◌∙◌}
use Rattle.bec_disk.specs.Left.{AreLeft}
use Rattle.bec_disk.specs.Shelved.{MemShelfState}
use Rattle.bec_disk.specs.declared.shelved.Shelved.{Shelved}
use Rattle.bec_disk.proofs.Crashes.{part_left}
use Rattle.bec_disk.proofs.mem_shelf.MemShelf.restart.Goals as goal

pub returns-clause-left : goal.returns-clause-left
returns-clause-left c place =
    let are = subst (λ (l : List Shelved). AreLeft c.args.choice l c.in_ok-entries.entries.items) (c.deref.ensures.value ∙ ap (λ (s : MemShelfState). s.entries) c.self.view_is) c.in_ok-entries.ensures in
    part_left c.args.choice c.args.self.now.entries c.in_ok-entries.entries.items place are
