use Rattle.std.proofs.Common.{sym, ap}
use Rattle.validity.specs.Asked.{is_in}
use Rattle.validity.proofs.Lent.{lent, not_lent}
use Rattle.validity.proofs.referring.stands_visible.Goals as goal

pub returns-in-Some : goal.returns-in-Some
returns-in-Some g c = sym (ap (is_in c.args.target) (lent _ _ _ c.in_ok-entry.ensures c.in-Some.is))

pub returns-in-None : goal.returns-in-None
returns-in-None g c = sym (ap (is_in c.args.target) (not_lent _ _ c.in_ok-entry.ensures c.in-None.is))
