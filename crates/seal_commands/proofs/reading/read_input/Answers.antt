use Rattle.std.proofs.Common.{◌≤◌, ◌<◌, inl, refl, arith, length}
use Rattle.seal_commands.specs.declared.reading.TheConstants.{INPUT_LIMIT}
use Rattle.seal_commands.proofs.WholeInput.{long_read, whole_read}
use Rattle.seal_commands.proofs.reading.read_input.Goals as goal

pub returns-then-len-gt-INPUT_LIMIT-clause-refused : goal.returns-then-len-gt-INPUT_LIMIT-clause-refused
returns-then-len-gt-INPUT_LIMIT-clause-refused g c =
    let over : INPUT_LIMIT < length c.in_ok-text.text.items = omega (arith, c.if-len-gt-INPUT_LIMIT.true, c.len.ensures) in
    inl (refl, long_read INPUT_LIMIT (g.S.Source.left c.args.input.now) (g.S.Source.left c.read_text.new.input) c.in_ok-text.text.items c.in_ok-text.ensures.text over)

pub returns-clause-whole : goal.returns-clause-whole
returns-clause-whole g c =
    let fits : length c.in_ok-text.text.items ≤ INPUT_LIMIT = omega (arith, c.if-len-gt-INPUT_LIMIT.false, c.len.ensures) in
    (whole_read INPUT_LIMIT (g.S.Source.left c.args.input.now) (g.S.Source.left c.read_text.new.input) c.in_ok-text.text.items c.in_ok-text.ensures.text fits, fits)
