use Rattle.std.proofs.Common.{◌≡◌, ◌≤◌, [], arith, rules}
use Rattle.text_words.specs.Lines.{lines_of}
use Rattle.world_script.specs.declared.limits.TheConstants.{MAX_SCRIPT_BYTES}
use Rattle.world_script.specs.Lines.{HasForm}
use Rattle.world_script.proofs.Onward.{all_more, begins_length, fail_more, next_place, read_end, read_more}
use Rattle.world_script.proofs.reading.read_lines.Goals as goal

pub read_line-requires-clause-short : goal.read_line-requires-clause-short
read_line-requires-clause-short c =
    let few = c.loop-line.invariant.few in
    omega (arith, begins_length c.loop-line.rest.now c.in-Some.line.now c.in-Some.after.now c.in-Some.ensures.begins)

pub loop-line-preserved : goal.loop-line-preserved
loop-line-preserved c =
    let schema = c.args.schema.now in
    let place = c.loop-line.place in
    let said = c.in_ok-said.said in
    let start = c.args.start in
    let all = lines_of c.args.text.now in
    let rest = c.loop-line.rest.now in
    let line = c.in-Some.line.now in
    let after = c.in-Some.after.now in
    let shorter = c.in-Some.ensures.shorter in
    let few = c.loop-line.invariant.few in
    let low : place.number ≤ MAX_SCRIPT_BYTES = omega arith in
    record {
      place = rw c.place_after-place.ensures (next_place place said c.loop-line.invariant.place low);
      few = rw c.place_after-place.ensures (omega arith);
      form = rw c.in_ok-push.ensures.items (all_more HasForm c.loop-line.lines.items said c.loop-line.invariant.form c.in_ok-said.ensures.form);
      reads =
          rw (c.place_after-place.ensures, c.in_ok-push.ensures.items)
          (read_more schema place rest line after c.loop-line.lines.items said start all c.in-Some.ensures.first c.in_ok-said.ensures.says c.loop-line.invariant.reads);
      fails = rw c.place_after-place.ensures (fail_more schema place rest line after said start all c.in-Some.ensures.first c.in_ok-said.ensures.says c.loop-line.invariant.fails);
    }

pub returns-clause-says : goal.returns-clause-says
returns-clause-says c =
    let none : c.loop-line.rest.now ≡ [] = search rules in
    read_end c.args.schema.now c.loop-line.place c.loop-line.rest.now c.loop-line.lines.items c.args.start (lines_of c.args.text.now) none c.loop-line.invariant.reads
