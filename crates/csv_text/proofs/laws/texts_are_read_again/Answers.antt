use Rattle.csv_text.proofs.Reading.{text_read_again, texts_apart}
use Rattle.csv_text.proofs.laws.texts_are_read_again.Goals as goal

pub returns-clause-again : goal.returns-clause-again
returns-clause-again c = text_read_again

pub returns-clause-apart : goal.returns-clause-apart
returns-clause-apart c = texts_apart
