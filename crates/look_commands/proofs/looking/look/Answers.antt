use Rattle.std.proofs.Common.{refl}
use Rattle.look_commands.proofs.looking.look.Goals as goal

pub returns-in-One : goal.returns-in-One
returns-in-One g c = rw c.in-One.is c.place_text.ensures

pub returns-in-Both : goal.returns-in-Both
returns-in-Both g c = rw c.in-Both.is (rw c.style_of.ensures at c.difference.ensures)

pub returns-in-Key : goal.returns-in-Key
returns-in-Key g c = rw c.in-Key.is (record { shows = c.public_line.ensures; source = refl; random = refl })
