use Rattle.std.proofs.Common.{length, ap, arith}
use Rattle.head_set.proofs.Spanned.{unended_next, unended_none}
use Rattle.head_set.proofs.heads.count_unended.Goals as goal

pub overflow_add-count : goal.overflow_add-count
overflow_add-count c =
    let next = unended_next c.loop-span.span-iterator c.next.new.self (c.in-Some.field-0-0.now, c.in-Some.span.now) c.is_none.result c.in-Some.ensures.steps c.is_none.ensures in
    let more = ap length (rw c.if-is_none.true at next) in
    let so_far = c.loop-span.invariant in
    let few = c.requires in
    omega (arith, more, so_far, few)

pub loop-span-preserved-then-is_none : goal.loop-span-preserved-then-is_none
loop-span-preserved-then-is_none c =
    let next = unended_next c.loop-span.span-iterator c.next.new.self (c.in-Some.field-0-0.now, c.in-Some.span.now) c.is_none.result c.in-Some.ensures.steps c.is_none.ensures in
    let more = ap length (rw c.if-is_none.true at next) in
    let so_far = c.loop-span.invariant in
    omega (arith, more, so_far)

pub loop-span-preserved : goal.loop-span-preserved
loop-span-preserved c =
    let next = unended_next c.loop-span.span-iterator c.next.new.self (c.in-Some.field-0-0.now, c.in-Some.span.now) c.is_none.result c.in-Some.ensures.steps c.is_none.ensures in
    let same = ap length (rw c.if-is_none.false at next) in
    let so_far = c.loop-span.invariant in
    omega (arith, same, so_far)

pub returns : goal.returns
returns c =
    let none = ap length (unended_none c.loop-span.span-iterator c.in-None.ensures.steps.0) in
    let so_far = c.loop-span.invariant in
    omega (arith, none, so_far)
