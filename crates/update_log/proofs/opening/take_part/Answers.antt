use Rattle.std.proofs.Common.{ℕ, Vec, arith}
use Rattle.std.specs.declared.alloc.Global.{Global}
use Rattle.std.proofs.lemmas.List.{length-map}
use Rattle.record_check.specs.Records.{bytes_of}
use Rattle.update_log.proofs.Scanning.{takes_counted, takes_more}
use Rattle.update_log.proofs.opening.take_part.Goals as goal

pub returns-then-all : goal.returns-then-all
returns-then-all g c =
    takes_counted c.args.rule.now c.args.graph.now (bytes_of c.args.records.items) c.in_ok-front.front.items c.take_front.new.graph _ _ c.in_ok-front.ensures (omega (arith, c.len-checked.ensures))
    (omega (arith, c.len-count.ensures, length-map c.args.records.items (λ (r : Vec ℕ Global). r.items))) (rw c.if-all.true at c.in_ok-all.ensures.taken)

pub returns-else-all : goal.returns-else-all
returns-else-all g c =
    let is = c.in_ok-front.ensures in
    rw c.if-all.false
    (takes_more c.args.rule.now c.args.graph.now (bytes_of c.args.records.items) c.in_ok-front.front.items is.rest c.take_front.new.graph is.parts (rw c.if-all.false at c.in_ok-all.ensures.taken))
