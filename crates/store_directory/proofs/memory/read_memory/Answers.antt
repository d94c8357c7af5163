use Rattle.bec_disk.specs.declared.part.Part.TheVariants.{Peers}
use Rattle.bec_disk.specs.Slot.{slot}
use Rattle.key_directory.proofs.Making.{read_others, read_untouched}
use Rattle.key_directory.proofs.Putting.{found}
use Rattle.store_directory.proofs.memory.read_memory.Goals as goal

pub returns-in_err-gated-clause-untouched : goal.returns-in_err-gated-clause-untouched
returns-in_err-gated-clause-untouched g c =
    let before = g.H.Shelf.state c.args.shelf.now in
    let mid = g.H.Shelf.state c.find.new.self in
    read_untouched before mid (g.H.Shelf.state c.put_back.new.self) c.args.dir.now Peers (g.H.D.Disk.state c.in-Some.peers) (g.H.D.Disk.state c.read_gated-read.new.disk)
    (found g.H.D.Disk.state before (slot c.args.dir.now Peers) c.in_ok-peers.field-0 c.in-Some.peers mid c.in-Some.is c.in_ok-peers.ensures.finds)
    c.read_gated-read.ensures.same c.put_back.ensures.puts

pub returns-in_err-gated-clause-others : goal.returns-in_err-gated-clause-others
returns-in_err-gated-clause-others g c =
    let before = g.H.Shelf.state c.args.shelf.now in
    let mid = g.H.Shelf.state c.find.new.self in
    read_others before mid (g.H.Shelf.state c.put_back.new.self) c.args.dir.now Peers (g.H.D.Disk.state c.in-Some.peers) (g.H.D.Disk.state c.read_gated-read.new.disk)
    (found g.H.D.Disk.state before (slot c.args.dir.now Peers) c.in_ok-peers.field-0 c.in-Some.peers mid c.in-Some.is c.in_ok-peers.ensures.finds)
    c.read_gated-read.ensures.same c.put_back.ensures.puts

pub returns-clause-untouched : goal.returns-clause-untouched
returns-clause-untouched g c =
    let before = g.H.Shelf.state c.args.shelf.now in
    let mid = g.H.Shelf.state c.find.new.self in
    read_untouched before mid (g.H.Shelf.state c.put_back.new.self) c.args.dir.now Peers (g.H.D.Disk.state c.in-Some.peers) (g.H.D.Disk.state c.read_gated-read.new.disk)
    (found g.H.D.Disk.state before (slot c.args.dir.now Peers) c.in_ok-peers.field-0 c.in-Some.peers mid c.in-Some.is c.in_ok-peers.ensures.finds)
    c.read_gated-read.ensures.same c.put_back.ensures.puts

pub returns-clause-others : goal.returns-clause-others
returns-clause-others g c =
    let before = g.H.Shelf.state c.args.shelf.now in
    let mid = g.H.Shelf.state c.find.new.self in
    read_others before mid (g.H.Shelf.state c.put_back.new.self) c.args.dir.now Peers (g.H.D.Disk.state c.in-Some.peers) (g.H.D.Disk.state c.read_gated-read.new.disk)
    (found g.H.D.Disk.state before (slot c.args.dir.now Peers) c.in_ok-peers.field-0 c.in-Some.peers mid c.in-Some.is c.in_ok-peers.ensures.finds)
    c.read_gated-read.ensures.same c.put_back.ensures.puts
