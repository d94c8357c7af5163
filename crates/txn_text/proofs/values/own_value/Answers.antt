use Rattle.std.proofs.Common.{◌≡◌, true}
use Rattle.txn_text.specs.Values.{is_numeral}
use Rattle.txn_text.proofs.Numerals.{is_text}
use Rattle.txn_text.proofs.values.own_value.Goals as goal

pub returns-in-Err-clause-value : goal.returns-in-Err-clause-value
returns-in-Err-clause-value c =
    let numeral : is_numeral c.args.digits.now ≡ true = cc in
    absurd (c.in-Err.ensures.cases.0 (is_text c.args.digits.now numeral))
