use Rattle.std.proofs.Common.{subst, arith}
use Rattle.update_check.specs.Holding.{IsHeld}
use Rattle.mem_holder.specs.Holders.{HolderState, limits_of}
use Rattle.mem_holder.proofs.Amounts.{still_fit}
use Rattle.mem_holder.proofs.holder.MemHolderHolder.len.Goals as goal

pub returns-clause-held : goal.returns-clause-held
returns-clause-held c =
    let at = c.self.inside in
    subst (λ (r : HolderState). IsHeld (limits_of r.most) r.rule r.members) c.self.view_is (record {
      checked = c.self.invariant.checked;
      closed = c.len.ensures.closed;
      within = still_fit at.most at.graph c.self.invariant.few c.len.ensures.within;
      updates = c.self.invariant.low;
      bytes = omega arith;
    })
