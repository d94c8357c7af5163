use Rattle.std.proofs.Common.{refl}
use Rattle.ancestry.proofs.Keeping.{kept_none}
use Rattle.ancestry.proofs.ancestry.Ancestry.new.Goals as goal

pub invariant_of-result : goal.invariant_of-result
invariant_of-result c = rw (c.new.ensures.items, c.new-2.ensures.items, c.new-3.ensures.items) (kept_none _ refl)
