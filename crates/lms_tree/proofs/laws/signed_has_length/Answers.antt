use Rattle.std.proofs.Common.{sym, ◌∙◌}
use Rattle.lms_tree.proofs.SignatureLaws.{known_types, same_length}
use Rattle.lms_tree.proofs.laws.signed_has_length.Goals as goal

pub returns-clause-known : goal.returns-clause-known
returns-clause-known c key msg sig signed = known_types key signed.lms signed.ots signed.types

pub returns-clause-length : goal.returns-clause-length
returns-clause-length c key msg sig signed = signed.form.len ∙ sym (same_length key signed.lms signed.ots signed.types)
