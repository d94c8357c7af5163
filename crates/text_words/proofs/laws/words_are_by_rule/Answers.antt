use Rattle.text_words.proofs.Rules.{words_from_rules, words_to_rules}
use Rattle.text_words.proofs.laws.words_are_by_rule.Goals as goal

pub returns : goal.returns
returns c = λ style line words. ((λ h. words_from_rules h), words_to_rules style line words)
