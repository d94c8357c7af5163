use Rattle.std.proofs.Common.{◌≡◌, ◌≤◌, ◌+◌, ◌++◌, IsTrue, length}
use Rattle.bec_bytes.specs.Framed.{stream_of}
use Rattle.update_check.specs.Members.{AreMembers}
use Rattle.update_log.specs.Reading.{IsOver, count_left, left_of}
use Rattle.update_log.proofs.opening.scan.Given as goal

abbrev pub invariant-parts : goal.invariant-parts
invariant-parts g l = record {
  same : g.D.Disk.state l.disk ≡ g.D.Disk.state l.fn.disk;
  later : g.D.Counted.faults l.fn.disk ≤ g.D.Counted.faults l.disk;
  over : IsOver l.reader (g.D.Disk.state l.disk);
  members : AreMembers l.rule l.graph;
  count : length (stream_of l.graph) + count_left l.reader ≡ count_left l.fn.reader;
  parts : IsTrue (g.D.Disk.state l.fn.disk).tells → left_of l.fn.reader (g.D.Disk.state l.fn.disk).seen ≡ stream_of l.graph ++ left_of l.reader (g.D.Disk.state l.fn.disk).seen;
}

abbrev pub decreases-parts : goal.decreases-parts
decreases-parts g l = count_left l.reader
