use Rattle.std.proofs.Common.{List, subst, sym, ◌∙◌, arith}
use Rattle.std.specs.Prelude.{None}
use Rattle.update_codec.proofs.Rising.{sorted_from_rising}
use Rattle.update_model.specs.declared.update_id.UpdateId.{UpdateId}
use Rattle.update_model.specs.Form.{AreRising}
use Rattle.peer_memory.proofs.IdLists.{rising_from_sorted}
use Rattle.peer_memory.proofs.Refusing.{no_fewer, no_more, those}
use Rattle.peer_memory.proofs.reading.ids_of.Goals as goal

pub returns-then-from-count-clause-none : goal.returns-then-from-count-clause-none
returns-then-from-count-clause-none c refused ids rest few are rise is =
    no_more c.args.bytes.now c.in_ok-count.rest.now rest c.in_ok-count.count ids c.in_ok-count.ensures.low few c.in_ok-count.ensures.parts is (let n = c.from-count.ensures in omega arith)

pub returns-then-rest-count-clause-none : goal.returns-then-rest-count-clause-none
returns-then-rest-count-clause-none c refused ids rest few are rise is =
    no_fewer c.args.bytes.now c.in_ok-count.rest.now rest c.in_ok-count.count ids c.in_ok-count.ensures.low few are c.in_ok-count.ensures.parts is (let n = c.from-count.ensures in omega arith)

pub returns-then-not-are_rising-clause-none : goal.returns-then-not-are_rising-clause-none
returns-then-not-are_rising-clause-none c refused ids rest few are rise is =
    let same = those c.args.bytes.now c.in_ok-count.rest.now rest c.split_at.result.0.now c.split_at.result.1.now c.in_ok-count.count ids c.in_ok-ids.ids.items c.in_ok-count.ensures.low few are
    c.in_ok-ids.ensures.ids (c.in_ok-ids.ensures.count ∙ c.from-count.ensures) c.in_ok-count.ensures.parts is c.split_at.ensures.by_index.0 c.in_ok-ids.ensures.block in
    let rises = c.are_rising.ensures.1 (subst (λ (l : List UpdateId). AreRising None l) (sym (c.as_slice.ensures.value ∙ same)) (rising_from_sorted ids rise)) in
    let not_rising = c.if-not-are_rising.true in absurd cc

pub returns-clause-rising : goal.returns-clause-rising
returns-clause-rising c =
    sorted_from_rising c.in_ok-ids.ids.items (subst (λ (l : List UpdateId). AreRising None l) c.as_slice.ensures.value (c.are_rising.ensures.0 c.if-not-are_rising.false))
