use Rattle.page_text.proofs.Unmarked.{no_marks}
use Rattle.page_text.proofs.laws.no_marks_in_texts.Goals as goal

pub returns : goal.returns
returns c = no_marks
