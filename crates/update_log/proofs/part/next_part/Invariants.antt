use Rattle.std.proofs.Common.{◌≡◌, ◌≤◌, ◌<◌, ◌+◌, ◌^◌, IsTrue, length}
use Rattle.bec_bytes.specs.Framed.{stream_of}
use Rattle.record_check.specs.Records.{bytes_of}
use Rattle.update_log.specs.Reading.{HoldsRecords, IsOver, count_left, left_of}
use Rattle.update_log.proofs.part.next_part.Given as goal

abbrev pub invariant-records : goal.invariant-records
invariant-records g l = record {
  same : g.D.Disk.state l.disk ≡ g.D.Disk.state l.fn.disk;
  later : g.D.Counted.faults l.fn.disk ≤ g.D.Counted.faults l.disk;
  over : IsOver l.reader (g.D.Disk.state l.disk);
  size : l.size < 2 ^ 24;
  count : length (stream_of (bytes_of l.records.items)) + count_left l.reader ≡ count_left l.fn.reader;
  parts : IsTrue (g.D.Disk.state l.fn.disk).tells
      → HoldsRecords (left_of l.fn.reader (g.D.Disk.state l.fn.disk).seen) (bytes_of l.records.items) (left_of l.reader (g.D.Disk.state l.fn.disk).seen);
}

abbrev pub decreases-records : goal.decreases-records
decreases-records g l = count_left l.reader
