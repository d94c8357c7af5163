use Rattle.std.proofs.Common.{sym}
use Rattle.ancestry.proofs.Naming.{popped, popped_less}
use Rattle.ancestry.proofs.namers.Namers.shorten.Goals as goal

pub loop-last-init : goal.loop-last-init
loop-last-init c q low e = e

pub loop-last-smaller : goal.loop-last-smaller
loop-last-smaller c =
    popped_less c.loop-last.self-inside.positions.items c.pop.new.self.items c.pop.result c.in-Some.last.now c.loop-last.self-inside.positions.len
    (rw c.deref.ensures.value at c.deref.ensures.len) c.pop.ensures.items c.pop.ensures.value (sym (rw c.deref.ensures.value at c.in-Some.ensures.value))

pub loop-last-preserved : goal.loop-last-preserved
loop-last-preserved c q low e =
    popped c.loop-last.self-inside.positions.items c.pop.new.self.items c.pop.result c.in-Some.last.now c.loop-last.self-inside.positions.len
    (rw c.deref.ensures.value at c.deref.ensures.len) c.pop.ensures.items c.pop.ensures.value (sym (rw c.deref.ensures.value at c.in-Some.ensures.value))
    c.args.len q c.if-last-len.false low (c.loop-last.invariant q low e)

pub returns-then-last-len : goal.returns-then-last-len
returns-then-last-len c q low e = c.loop-last.invariant q low (rw c.self.view_is e)

pub returns-in_default : goal.returns-in_default
returns-in_default c q low e = c.loop-last.invariant q low (rw c.self.view_is e)
