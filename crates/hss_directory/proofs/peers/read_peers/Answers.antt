use Rattle.bec_disk.specs.declared.part.Part.TheVariants.{Peers}
use Rattle.bec_disk.specs.Slot.{slot}
use Rattle.key_directory.proofs.Putting.{found}
use Rattle.hss_directory.proofs.Gates.{peers_read}
use Rattle.hss_directory.proofs.peers.read_peers.Goals as goal

pub returns-clause-reads : goal.returns-clause-reads
returns-clause-reads g c =
    let before = g.H.Shelf.state c.args.shelf.now in
    let mid = g.H.Shelf.state c.find.new.self in
    peers_read before mid (g.H.Shelf.state c.put_back.new.self) c.args.dir.now (g.H.D.Disk.state c.in-Some.peers) (g.H.D.Disk.state c.read_gated-read.new.disk)
    (found g.H.D.Disk.state before (slot c.args.dir.now Peers) c.in_ok-peers.field-0 c.in-Some.peers mid c.in-Some.is c.in_ok-peers.ensures.finds)
    c.read_gated-read.ensures.same c.put_back.ensures.tells c.put_back.ensures.puts
