use Rattle.confluence_laws.proofs.ShownFit.{shown_fit}
use Rattle.schema.proofs.Soundness.{sound_tables}
use Rattle.confluence_laws.proofs.laws.shown_rows_fit.Goals as goal

pub returns : goal.returns
returns c rules nodes tables closed = shown_fit rules (sound_tables rules.tables tables) nodes closed
