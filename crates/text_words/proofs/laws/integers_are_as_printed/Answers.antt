use Rattle.std.proofs.Common.{◌∙◌, ap}
use Rattle.text_words.specs.Integers.{int_of}
use Rattle.text_words.proofs.Printed.{read_is_printed, printed_is_read}
use Rattle.text_words.proofs.laws.integers_are_as_printed.Goals as goal

pub returns : goal.returns
returns c = λ word n. (read_is_printed word n, λ h. ap int_of h.0 ∙ printed_is_read n h.1)
