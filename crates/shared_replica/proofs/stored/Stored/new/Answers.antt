use Rattle.std.proofs.Common.{rules, ◌≡◌, []}
use Rattle.shared_replica.proofs.Lists.{opens, opens_listed}
use Rattle.shared_replica.proofs.stored.Stored.new.Goals as goal

pub invariant_of-result : goal.invariant_of-result
invariant_of-result g c = let none : c.new.result.items ≡ [] = search rules in let same : c.of-opening.result.value ≡ c.args.replica = search rules in
    opens _ _ _ _ same c.len-opened.ensures.value none c.len-opened.ensures.on_disk

pub returns-clause-entries : goal.returns-clause-entries
returns-clause-entries g c = let none : c.new.result.items ≡ [] = search rules in let same : c.of-opening.result.value ≡ c.args.replica = search rules in
    opens_listed _ _ _ _ same c.len-opened.ensures.value none c.len-opened.ensures.on_disk
