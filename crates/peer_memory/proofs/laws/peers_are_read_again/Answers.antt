use Rattle.peer_memory.proofs.Telling.{read_again}
use Rattle.peer_memory.proofs.laws.peers_are_read_again.Goals as goal

pub returns : goal.returns
returns c = read_again
