use Rattle.explanations.proofs.ShortRows.{all_short, laid_in_rows}
use Rattle.explanations.proofs.laws.rows_are_short.Goals as goal

pub returns-clause-rows : goal.returns-clause-rows
returns-clause-rows c front words = laid_in_rows front words

pub returns-clause-short : goal.returns-clause-short
returns-clause-short c front words = all_short front words
