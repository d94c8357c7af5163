use Rattle.std.proofs.Common.{ap, subst, sym}
use Rattle.std.proofs.lemmas.Str.{IsUtf8-string_bytes}
use Rattle.update_model.specs.Text.{IsText}
use Rattle.demonstration.proofs.operations.text.Goals as goal

pub from_vec-requires : goal.from_vec-requires
from_vec-requires c = subst IsText (sym (ap (λ v. v.items) c.into_bytes.ensures.value)) (c.requires, IsUtf8-string_bytes c.args.text)
