use Rattle.std.proofs.Common.{◌∙◌, All, subst, sym}
use Rattle.update_check.specs.Signed.{IsChecked}
use Rattle.mem_holder.proofs.Amounts.{cut_back, refused_behind}
use Rattle.mem_holder.proofs.Lists.{All-append, all_from}
use Rattle.mem_holder.proofs.adding.add_within.Goals as goal

pub returns-in-Ok-clause-checked : goal.returns-in-Ok-clause-checked
returns-in-Ok-clause-checked c = λ rule old batch.
    let from = c.in-Ok.ensures.1 in
    subst (All (IsChecked rule)) (sym from.1) (All-append (IsChecked rule) c.args.graph.now from.0 old (all_from (IsChecked rule) c.args.batch.items from.0 batch from.2))

pub returns-in-Err-clause-checked : goal.returns-in-Err-clause-checked
returns-in-Err-clause-checked c = λ rule old batch.
    let behind = refused_behind c.args.most c.args.graph.now c.args.batch.items c.grow.new.graph c.in-Err.fault c.in-Err.ensures in
    subst (All (IsChecked rule)) (sym (c.cut.ensures ∙ cut_back c.args.graph.now c.grow.new.graph c.len-len.result behind c.len-len.ensures.value)) old
