use Rattle.confluence_laws.proofs.Refused.{first_refused}
use Rattle.confluence_laws.proofs.Sampled.{are_sampled}
use Rattle.schema.proofs.Soundness.{sound_tables}
use Rattle.confluence_laws.proofs.laws.first_refused_is_confirmed.Goals as goal

pub returns : goal.returns
returns c rules earlier later declared tables pass split accepted refused =
    first_refused rules (sound_tables rules.tables tables) (are_sampled rules (sound_tables rules.tables tables) pass) earlier later declared split accepted refused
