use Rattle.update_stream.proofs.Good.{members_of}
use Rattle.update_stream.proofs.laws.whole_has_members.Goals as goal

pub returns : goal.returns
returns c = members_of
