use Rattle.std.proofs.Common.{[]}
use Rattle.update_model.proofs.Heads.{covered}
use Rattle.update_model.proofs.laws.heads_cover_members.Goals as goal

pub returns : goal.returns
returns c graph e closed held = covered [] graph tt closed e held
