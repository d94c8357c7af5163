use Rattle.table_model.proofs.SameEffects.{same_effects, same_visible}
use Rattle.confluence_laws.proofs.Union.{same_judgements}
use Rattle.confluence_laws.proofs.laws.visible_rows_are_of_the_set.Goals as goal

pub returns : goal.returns
returns c rules xs ys name a b same = same_visible rules (same_effects (same_judgements rules xs ys a b same)) name
