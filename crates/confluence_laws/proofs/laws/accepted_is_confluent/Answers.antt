use Rattle.confluence_laws.proofs.DeclaredClaims.{declared_says}
use Rattle.schema.proofs.Soundness.{sound_tables}
use Rattle.confluence_laws.proofs.Union.{accepted_joins}
use Rattle.confluence_laws.proofs.laws.accepted_is_confluent.Goals as goal

pub returns : goal.returns
returns c rules earlier declared tables among ok = accepted_joins rules (sound_tables rules.tables tables) earlier declared.claim (declared_says rules declared among) ok
