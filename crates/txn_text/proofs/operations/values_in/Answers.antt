use Rattle.update_model.specs.Rows.{IsValue}
use Rattle.txn_text.proofs.Writing.{next_shorter, write_more, all_more}
use Rattle.txn_text.proofs.operations.values_in.Goals as goal

pub loop-values-smaller : goal.loop-values-smaller
loop-values-smaller c =
    next_shorter c.args.verb c.args.before c.loop-values.left.now c.in-Some.after.now c.in-Some.value (rw c.in-Some.is at c.in_ok-value.ensures.found)

pub loop-values-preserved : goal.loop-values-preserved
loop-values-preserved c =
    let found = rw c.in-Some.is at c.in_ok-value.ensures.found in
    let form = rw c.in-Some.is at c.in_ok-value.ensures.form in
    record {
      write = rw c.in_ok-push.ensures.items (write_more c.args.verb c.args.before c.args.rest.now c.loop-values.left.now c.in-Some.after.now c.loop-values.values.items c.in-Some.value c.loop-values.invariant.write found);
      form = rw c.in_ok-push.ensures.items (all_more (IsValue c.args.before) c.loop-values.values.items c.in-Some.value c.loop-values.invariant.form form);
    }
