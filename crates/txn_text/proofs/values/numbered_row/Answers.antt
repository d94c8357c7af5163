use Rattle.std.proofs.Common.{◌≡◌, true}
use Rattle.txn_text.specs.Values.{is_numeral}
use Rattle.txn_text.proofs.Numerals.{not_read}
use Rattle.txn_text.proofs.values.numbered_row.Goals as goal

pub returns-in-Err-clause-value : goal.returns-in-Err-clause-value
returns-in-Err-clause-value c =
    let numeral : is_numeral c.args.text.now ≡ true = cc in
    not_read c.args.before c.args.text.now c.parse.result c.ranges.before.fits numeral c.parse.ensures.value.0 c.in-Err.is
