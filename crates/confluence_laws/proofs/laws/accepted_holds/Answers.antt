use Rattle.confluence_laws.proofs.Accepted.{accepted_stands}
use Rattle.confluence_laws.proofs.DeclaredClaims.{declared_says}
use Rattle.schema.proofs.Soundness.{sound_tables}
use Rattle.confluence_laws.proofs.laws.accepted_holds.Goals as goal

pub returns : goal.returns
returns c rules nodes declared tables closed among ok = accepted_stands rules (sound_tables rules.tables tables) nodes closed declared.claim (declared_says rules declared among) ok
