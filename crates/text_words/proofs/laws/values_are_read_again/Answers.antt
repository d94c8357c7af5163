use Rattle.text_words.proofs.ReadAgain.{read_again}
use Rattle.text_words.proofs.laws.values_are_read_again.Goals as goal

pub returns : goal.returns
returns c = read_again
