use Rattle.std.proofs.Common.{List, ℕ, sym, subst}
use Rattle.update_model.specs.Text.{IsText}
use Rattle.schema_text.proofs.NameTexts.{name_is_text}
use Rattle.schema_text.proofs.adding.text_of.Goals as goal

pub from_vec-requires : goal.from_vec-requires
from_vec-requires c = subst (λ (bytes : List ℕ). IsText bytes) (sym c.in_ok-bytes.ensures.items) (name_is_text c.args.name.now c.requires)
