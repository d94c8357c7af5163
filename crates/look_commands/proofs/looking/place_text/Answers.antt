use Rattle.std.proofs.Common.{refl}
use Rattle.look_commands.proofs.looking.place_text.Goals as goal

pub returns-in-Some : goal.returns-in-Some
returns-in-Some g c = rw c.in-Some.is (record { runs = c.store_text.ensures; source = refl; random = refl })

pub returns-in-None : goal.returns-in-None
returns-in-None g c = rw c.in-None.is (record { comes = c.bundle_text.ensures; shelf = refl; random = refl })
