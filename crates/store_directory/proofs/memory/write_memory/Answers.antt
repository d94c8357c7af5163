use Rattle.bec_disk.specs.declared.part.Part.TheVariants.{Peers}
use Rattle.key_directory.proofs.Making.{made_others}
use Rattle.store_directory.proofs.Making.{made_written}
use Rattle.store_directory.proofs.memory.write_memory.Goals as goal

pub returns-clause-written : goal.returns-clause-written
returns-clause-written g c =
    made_written (g.H.Shelf.state c.args.shelf.now) (g.H.Shelf.state c.find_or_make.new.shelf) (g.H.Shelf.state c.put_back.new.self) c.args.dir.now Peers
    (g.H.D.Disk.state c.in_ok-peers.peers) (g.H.D.Disk.state c.write_gated-written.new.disk) c.args.payload.now c.write_gated-written.result c.requires.fits
    c.in_ok-peers.ensures.hands c.write_gated-written.ensures.disk c.write_gated-written.ensures.written c.put_back.ensures.puts

pub returns-clause-others : goal.returns-clause-others
returns-clause-others g c =
    made_others (g.H.Shelf.state c.args.shelf.now) (g.H.Shelf.state c.find_or_make.new.shelf) (g.H.Shelf.state c.put_back.new.self) c.args.dir.now Peers
    (g.H.D.Disk.state c.in_ok-peers.peers) (g.H.D.Disk.state c.write_gated-written.new.disk) c.in_ok-peers.ensures.hands c.write_gated-written.ensures.disk c.put_back.ensures.puts
