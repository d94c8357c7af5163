use Rattle.std.proofs.Common.{◌≡◌, ◌∙◌, ℕ, List, [], refl, ap, subst, arith, IsTrue}
use Rattle.bec_bytes.specs.Framed.{HoldsPiece}
use Rattle.bec_disk.specs.Disk.{DiskState}
use Rattle.update_codec.specs.declared.limits.TheConstants.{UPDATE_LIMIT}
use Rattle.record_check.specs.Records.{bytes_of}
use Rattle.update_log.specs.Reading.{left_of}
use Rattle.update_log.proofs.Scanning.{no_length, none_held, none_read, one_more_read, one_more_read_length}
use Rattle.update_log.proofs.part.next_part.Goals as goal

pub records-init : goal.records-init
records-init g c =
    let empty : bytes_of c.new-records.result.items ≡ [] = ap bytes_of c.new-records.ensures.items in
    record {
      same = refl;
      later = omega arith;
      over = c.requires;
      size = omega arith;
      count = omega (arith, no_length (bytes_of c.new-records.result.items) empty);
      parts = λ tells. none_held (left_of c.args.reader.now (g.D.Disk.state c.args.disk.now).seen) (bytes_of c.new-records.result.items) empty;
    }

pub returns-then-size-ge-PART_BYTES-clause-found : goal.returns-then-size-ge-PART_BYTES-clause-found
returns-then-size-ge-PART_BYTES-clause-found g c tells =
    let seen = (g.D.Disk.state c.args.disk.now).seen in
    let found = rw c.in-Some.is at c.in_ok-bytes.ensures.found in
    let holds = subst (λ (s : DiskState). IsTrue s.tells → HoldsPiece UPDATE_LIMIT (left_of c.records.reader s.seen) c.in-Some.bytes.items (left_of c.next_record.new.self s.seen)) c.records.invariant.same found tells in
    one_more_read (left_of c.args.reader.now seen) (left_of c.records.reader seen) (left_of c.next_record.new.self seen) c.records.records.items c.push.new.records.items c.in-Some.bytes
    c.in_ok-push.ensures (c.records.invariant.parts tells) holds

pub returns-then-size-ge-PART_BYTES-clause-count : goal.returns-then-size-ge-PART_BYTES-clause-count
returns-then-size-ge-PART_BYTES-clause-count g c =
    let size = rw c.in-Some.is at c.in_ok-bytes.ensures.count in
    omega (arith, size, c.records.invariant.count, one_more_read_length c.records.records.items c.push.new.records.items c.in-Some.bytes c.in_ok-push.ensures)

pub returns-then-len-ge-PART-clause-found : goal.returns-then-len-ge-PART-clause-found
returns-then-len-ge-PART-clause-found g c tells =
    let seen = (g.D.Disk.state c.args.disk.now).seen in
    let found = rw c.in-Some.is at c.in_ok-bytes.ensures.found in
    let holds = subst (λ (s : DiskState). IsTrue s.tells → HoldsPiece UPDATE_LIMIT (left_of c.records.reader s.seen) c.in-Some.bytes.items (left_of c.next_record.new.self s.seen)) c.records.invariant.same found tells in
    one_more_read (left_of c.args.reader.now seen) (left_of c.records.reader seen) (left_of c.next_record.new.self seen) c.records.records.items c.push.new.records.items c.in-Some.bytes
    c.in_ok-push.ensures (c.records.invariant.parts tells) holds

pub returns-then-len-ge-PART-clause-count : goal.returns-then-len-ge-PART-clause-count
returns-then-len-ge-PART-clause-count g c =
    let size = rw c.in-Some.is at c.in_ok-bytes.ensures.count in
    omega (arith, size, c.records.invariant.count, one_more_read_length c.records.records.items c.push.new.records.items c.in-Some.bytes c.in_ok-push.ensures)

pub records-preserved : goal.records-preserved
records-preserved g c =
    let seen = (g.D.Disk.state c.args.disk.now).seen in
    let size = rw c.in-Some.is at c.in_ok-bytes.ensures.count in
    let found = rw c.in-Some.is at c.in_ok-bytes.ensures.found in
    record {
      same = c.in_ok-bytes.ensures.same ∙ c.records.invariant.same;
      later = omega (arith, c.records.invariant.later, c.in_ok-bytes.ensures.later);
      over = c.in_ok-bytes.ensures.over;
      size = omega (arith, c.if-size-ge-PART_BYTES.false);
      count = omega (arith, size, c.records.invariant.count, one_more_read_length c.records.records.items c.push.new.records.items c.in-Some.bytes c.in_ok-push.ensures);
      parts = λ tells.
          let holds = subst (λ (s : DiskState). IsTrue s.tells → HoldsPiece UPDATE_LIMIT (left_of c.records.reader s.seen) c.in-Some.bytes.items (left_of c.next_record.new.self s.seen)) c.records.invariant.same found tells in
          one_more_read (left_of c.args.reader.now seen) (left_of c.records.reader seen) (left_of c.next_record.new.self seen) c.records.records.items c.push.new.records.items c.in-Some.bytes
          c.in_ok-push.ensures (c.records.invariant.parts tells) holds;
    }

pub returns-clause-none : goal.returns-clause-none
returns-clause-none g c tells none =
    let seen = (g.D.Disk.state c.args.disk.now).seen in
    let found = rw c.in_default.is at c.in_ok-bytes.ensures.found in
    let free = subst (λ (s : DiskState). IsTrue s.tells → (r rest : List ℕ) → HoldsPiece UPDATE_LIMIT (left_of c.records.reader s.seen) r rest → ⊥) c.records.invariant.same found tells in
    none_read c.records.records.items (left_of c.args.reader.now seen) (left_of c.records.reader seen) (c.records.invariant.parts tells) (omega (arith, none)) free
