use Rattle.update_model.specs.declared.update_id.UpdateId.{UpdateId}
use Rattle.replica.proofs.Behind.{members_push}
use Rattle.replica.proofs.Reserved.{key_handed, signed_in_vain}
use Rattle.replica.proofs.adding.sign_and_add.Goals as goal

pub add_last-requires-clause-next : goal.add_last-requires-clause-next
add_last-requires-clause-next g c κs within =
    members_push c.args.history.now c.args.key.now.secret c.args.key.now.taken c.args.preds c.args.says c.args.c.now c.in_ok-update.update c.requires.members c.requires.held
    c.in_ok-update.ensures.made c.in_ok-update.ensures.checked c.in_ok-update.ensures.length c.in_ok-update.ensures.new

pub returns-in_err-add_last-clause-key : goal.returns-in_err-add_last-clause-key
returns-in_err-add_last-clause-key g c =
    key_handed UpdateId c.args.key.now c.sign_update.new.key c.from_residual-in_err-add_last.result c.in_err-add_last.field-0.0 c.from_residual-in_err-add_last.ensures.1
    (signed_in_vain UpdateId c.args.key.now c.sign_update.new.key c.in_err-add_last.field-0.0 c.in_ok-update.ensures.key c.in_err-add_last.ensures.refused)

pub returns-clause-added : goal.returns-clause-added
returns-clause-added g c = record {
  bytes = c.in_ok-update.update;
  made = c.in_ok-update.ensures.made;
  members = members_push c.args.history.now c.args.key.now.secret c.args.key.now.taken c.args.preds c.args.says c.args.c.now c.in_ok-update.update c.requires.members c.requires.held
      c.in_ok-update.ensures.made c.in_ok-update.ensures.checked c.in_ok-update.ensures.length c.in_ok-update.ensures.new;
  valid = c.in_ok-add_last.ensures.valid;
  id_is = c.id-id.ensures;
  last = c.in_ok-add_last.ensures.added;
}
