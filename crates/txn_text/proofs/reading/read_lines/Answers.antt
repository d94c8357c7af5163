use Rattle.std.proofs.Common.{◌≡◌, [], arith, rules}
use Rattle.text_words.specs.Lines.{lines_of}
use Rattle.txn_text.proofs.Lines.{begins_length, read_more, fail_more, read_end}
use Rattle.txn_text.proofs.reading.read_lines.Goals as goal

pub take_line-requires-clause-line : goal.take_line-requires-clause-line
take_line-requires-clause-line c =
    let few = c.loop-line.invariant.few in
    let from_one = c.loop-line.invariant.from_one in
    omega (arith, begins_length c.loop-line.rest.now c.in-Some.line.now c.in-Some.after.now c.in-Some.ensures.begins)

pub loop-line-preserved : goal.loop-line-preserved
loop-line-preserved c =
    let tables = c.args.schema.now.tables in
    let all = lines_of c.args.text.now in
    let shorter = c.in-Some.ensures.shorter in
    let few = c.loop-line.invariant.few in
    record {
      from_one = omega arith;
      few = omega arith;
      form = c.in_ok-take_line.ensures.form;
      reads = read_more tables c.loop-line.ops.items c.take_line.new.ops.items c.loop-line.rest.now c.in-Some.line.now c.in-Some.after.now all c.in-Some.ensures.first c.in_ok-take_line.ensures.taken c.loop-line.invariant.reads;
      fails = fail_more tables c.loop-line.ops.items c.take_line.new.ops.items c.loop-line.number c.loop-line.rest.now c.in-Some.line.now c.in-Some.after.now all c.in-Some.ensures.first c.in_ok-take_line.ensures.taken c.loop-line.invariant.fails;
    }

pub returns-clause-found : goal.returns-clause-found
returns-clause-found c =
    let none : c.loop-line.rest.now ≡ [] = search rules in
    read_end c.args.schema.now.tables c.loop-line.ops.items c.loop-line.rest.now (lines_of c.args.text.now) none c.loop-line.invariant.reads
