use Rattle.std.proofs.Common.{◌∙◌, ◌<◌, ℕ, List, Vec, refl, sym, subst, length, arith, IsTrue}
use Rattle.std.specs.declared.alloc.Global.{Global}
use Rattle.std.proofs.lemmas.List.{length-map}
use Rattle.bec_bytes.specs.Framed.{HoldsPiece}
use Rattle.bec_disk.specs.Disk.{DiskState}
use Rattle.update_check.specs.Members.{AreMembers}
use Rattle.record_check.specs.Records.{bytes_of}
use Rattle.update_codec.specs.declared.limits.TheConstants.{UPDATE_LIMIT}
use Rattle.update_log.specs.Reading.{HoldsRecords, count_left, left_of}
use Rattle.update_log.proofs.Scanning.{no_members, no_records, no_length, part_length, part_long, part_shorter, part_stops, part_taken, stop_none}
use Rattle.update_log.proofs.opening.scan.Goals as goal

pub parts-init : goal.parts-init
parts-init g c =
    let seen = (g.D.Disk.state c.args.disk.now).seen in
    record {
      same = refl;
      later = omega arith;
      over = c.requires;
      members = subst (AreMembers c.args.rule.now) (sym c.new-graph.ensures) (no_members c.args.rule.now);
      count = omega (arith, no_length c.new-graph.result c.new-graph.ensures);
      parts = λ tells. no_records c.new-graph.result (left_of c.args.reader.now seen) c.new-graph.ensures;
    }

pub returns-then-len-eq0-clause-stops : goal.returns-then-len-eq0-clause-stops
returns-then-len-eq0-clause-stops g c tells =
    let seen = (g.D.Disk.state c.args.disk.now).seen in
    let free = λ (t : IsTrue (g.D.Disk.state c.parts.disk).tells). c.in_ok-records.ensures.none t (omega (arith, c.len.ensures, c.if-len-eq0.true)) in
    let none = subst (λ (s : DiskState). IsTrue s.tells → (r rest : List ℕ) → HoldsPiece UPDATE_LIMIT (left_of c.parts.reader s.seen) r rest → ⊥) c.parts.invariant.same free tells in (
      left_of c.parts.reader seen,
      c.parts.invariant.parts tells,
      stop_none c.args.rule.now c.parts.graph (left_of c.parts.reader seen) none,
    )

pub returns-then-not-branch-clause-within : goal.returns-then-not-branch-clause-within
returns-then-not-branch-clause-within g c =
    let some = rw c.if-not-branch.true at c.in_ok-take_part.ensures in
    omega (arith, part_shorter c.args.rule.now c.parts.graph (bytes_of c.in_ok-records.records.items) c.take_part.new.graph some, c.parts.invariant.count, c.in_ok-records.ensures.count)

pub returns-then-not-branch-clause-stops : goal.returns-then-not-branch-clause-stops
returns-then-not-branch-clause-stops g c tells =
    let seen = (g.D.Disk.state c.args.disk.now).seen in
    let records = bytes_of c.in_ok-records.records.items in
    let some = rw c.if-not-branch.true at c.in_ok-take_part.ensures in
    let holds = subst (λ (s : DiskState). IsTrue s.tells → HoldsRecords (left_of c.parts.reader s.seen) records (left_of c.next_part.new.reader s.seen)) c.parts.invariant.same c.in_ok-records.ensures.found tells in
    part_stops c.args.rule.now (left_of c.args.reader.now seen) (left_of c.parts.reader seen) (left_of c.next_part.new.reader seen) c.parts.graph records c.take_part.new.graph (c.parts.invariant.parts tells) holds some

pub parts-smaller : goal.parts-smaller
parts-smaller g c =
    let items = c.in_ok-records.records.items in
    let some : 0 < length (bytes_of items) = omega (arith, c.if-len-eq0.false, c.len.ensures, length-map items (λ (r : Vec ℕ Global). r.items)) in
    let less : count_left c.next_part.new.reader < count_left c.parts.reader = omega (arith, part_long (bytes_of items) (length (bytes_of items)) refl some, c.in_ok-records.ensures.count) in
    less

pub parts-preserved : goal.parts-preserved
parts-preserved g c =
    let seen = (g.D.Disk.state c.args.disk.now).seen in
    let records = bytes_of c.in_ok-records.records.items in
    let all = rw c.if-not-branch.false at c.in_ok-take_part.ensures in
    record {
      same = c.in_ok-records.ensures.same ∙ c.parts.invariant.same;
      later = omega (arith, c.parts.invariant.later, c.in_ok-records.ensures.later);
      over = c.in_ok-records.ensures.over;
      members = all.1;
      count = omega (arith, part_length c.parts.graph records c.take_part.new.graph all.0, c.parts.invariant.count, c.in_ok-records.ensures.count);
      parts = λ tells.
          let holds = subst (λ (s : DiskState). IsTrue s.tells → HoldsRecords (left_of c.parts.reader s.seen) records (left_of c.next_part.new.reader s.seen)) c.parts.invariant.same c.in_ok-records.ensures.found tells in
          part_taken (left_of c.args.reader.now seen) (left_of c.parts.reader seen) (left_of c.next_part.new.reader seen) c.parts.graph records c.take_part.new.graph (c.parts.invariant.parts tells) holds.parts all.0;
    }
