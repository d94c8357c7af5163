use Rattle.seal_laws.proofs.RunLaws.{closed_sound, history_sound}
use Rattle.seal_laws.proofs.SealLaws.{released}
use Rattle.seal_laws.specs.Calls.{world_of}
use Rattle.std.specs.Prelude.{Some}
use Rattle.seal_laws.proofs.laws.seals_stay_used.Goals as goal

pub returns : goal.returns
returns c start last uses more random left before after old new msg seal others tells none away sound readable first signs keeps history =
    released last more random left before after old new msg seal others (history_sound start (world_of before (Some old) others) uses (closed_sound start tells none) first) away sound readable signs keeps history
