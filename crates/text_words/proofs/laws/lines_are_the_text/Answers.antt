use Rattle.std.proofs.Common.{sym, subst}
use Rattle.text_words.specs.Lines.{AreLines}
use Rattle.text_words.proofs.LinesLemmas.{lines_from_rules, lines_by_rules}
use Rattle.text_words.proofs.laws.lines_are_the_text.Goals as goal

pub returns : goal.returns
returns c = λ text lines. ((λ h. lines_from_rules h), λ e. subst (AreLines text) (sym e) (lines_by_rules text))
