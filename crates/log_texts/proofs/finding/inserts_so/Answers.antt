use Rattle.std.proofs.Common.{◌∙◌, [], sym}
use Rattle.update_model.specs.declared.op.Op.TheVariants.{Delete}
use Rattle.log_texts.proofs.Inserts.{inserts_later}
use Rattle.log_texts.proofs.finding.inserts_so.Goals as goal

pub loop-number-preserved : goal.loop-number-preserved
loop-number-preserved c =
    c.loop-number.invariant
    ∙ inserts_later c.args.digits.now c.args.ops.now c.loop-number.number (Delete (record { update = record { 0 = [] }; index = 0 })) (search) (sym c.in_ok-is_number.ensures ∙ c.if-branch.false)
