use Rattle.std.proofs.Common.{rules, ◌≡◌, length, ap, arith}
use Rattle.shared_replica.proofs.Lists.{length_listed, met_few}
use Rattle.shared_replica.proofs.stored.StoredKept.count.Goals as goal

pub overflow_add-result : goal.overflow_add-result
overflow_add-result g c = let n : c.len.result ≡ length c.self.inside.runs.items = search rules in let f = c.self.invariant.faults_are in let m = met_few c.self.inside.runs.items in omega arith

pub overflow_add-result-2 : goal.overflow_add-result-2
overflow_add-result-2 g c = let n : c.len.result ≡ length c.self.inside.runs.items = search rules in let f = c.self.invariant.faults_are in let m = met_few c.self.inside.runs.items in omega arith

pub returns : goal.returns
returns g c = let n = c.len-2.ensures.value in let k = length_listed _ _ _ _ _ c.self.invariant in let e = ap (λ s. length s.entries) c.self.view_is in let f = c.from.ensures in omega arith
