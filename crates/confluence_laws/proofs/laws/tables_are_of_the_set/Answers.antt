use Rattle.confluence_laws.proofs.SameTables.{same_listed}
use Rattle.confluence_laws.proofs.laws.tables_are_of_the_set.Goals as goal

pub returns : goal.returns
returns c rules xs ys tables others voids lines a b same one two = same_listed rules xs ys a b same tables others voids lines one two
