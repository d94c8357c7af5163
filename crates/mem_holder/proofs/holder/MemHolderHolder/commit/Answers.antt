use Rattle.std.proofs.Common.{All, subst, sym}
use Rattle.update_check.specs.Signed.{IsChecked}
use Rattle.mem_holder.specs.Holders.{HolderState}
use Rattle.mem_holder.proofs.holder.MemHolderHolder.commit.Goals as goal

pub invariant_of-self-2 : goal.invariant_of-self-2
invariant_of-self-2 c = record {
  checked = c.add_within.ensures.checked c.self.inside.rule c.self.invariant.checked (subst (λ (r : HolderState). All (IsChecked r.rule) c.args.batch.items) (sym c.self.view_is) c.requires);
  few = c.add_within.ensures.few;
  low = c.self.invariant.low;
}
