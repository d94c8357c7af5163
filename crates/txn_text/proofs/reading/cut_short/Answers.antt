use Rattle.std.proofs.Common.{◌≡◌, false, rules}
use Rattle.txn_text.specs.Transactions.{ends_before}
use Rattle.txn_text.proofs.Lines.{not_cut, never_cut}
use Rattle.txn_text.proofs.reading.cut_short.Goals as goal

pub returns-in_default : goal.returns-in_default
returns-in_default c =
    let late : ends_before c.args.line.now c.args.wrong c.in-Some.front ≡ false = search rules in
    not_cut c.args.line.now c.args.wrong c.in-Some.front c.in-Some.ensures late

pub returns-in_default-2 : goal.returns-in_default-2
returns-in_default-2 c = never_cut c.args.line.now c.args.wrong (search rules)
