use Rattle.confluence_laws.proofs.SameClaims.{same_claim}
use Rattle.confluence_laws.proofs.Union.{same_tables}
use Rattle.confluence_laws.proofs.laws.invariants_are_of_the_set.Goals as goal

pub returns : goal.returns
returns c rules xs ys claim a b same = same_claim rules (same_tables rules xs ys a b same) claim
