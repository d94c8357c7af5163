use Rattle.hss_directory.proofs.Gates.{peers_unmade, peers_written}
use Rattle.hss_directory.proofs.peers.write_peers.Goals as goal

pub returns-in_err-peers-clause-writes : goal.returns-in_err-peers-clause-writes
returns-in_err-peers-clause-writes g c =
    peers_unmade c.args.payload.now (g.H.Shelf.state c.args.shelf.now) (g.H.Shelf.state c.find_or_make.new.shelf) c.args.dir.now c.requires.in_place c.in_err-peers.ensures.may_make

pub returns-clause-writes : goal.returns-clause-writes
returns-clause-writes g c =
    peers_written c.args.payload.now (g.H.Shelf.state c.args.shelf.now) (g.H.Shelf.state c.find_or_make.new.shelf) (g.H.Shelf.state c.put_back.new.self) c.args.dir.now
    (g.H.D.Disk.state c.in_ok-peers.peers) (g.H.D.Disk.state c.write_gated-written.new.disk)
    c.in_ok-peers.ensures.hands c.write_gated-written.ensures.any_moment c.write_gated-written.ensures.disk c.put_back.ensures.tells c.put_back.ensures.puts
