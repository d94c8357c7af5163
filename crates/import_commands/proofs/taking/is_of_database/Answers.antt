use Rattle.std.proofs.Common.{◌≡◌, arith, rules, sym, tests}
use Rattle.import_commands.proofs.Opened.{checked_all, under_as}
use Rattle.import_commands.proofs.taking.is_of_database.Goals as goal

pub returns-clause-is : goal.returns-clause-is
returns-clause-is c =
    let texts : c.args.schema.now.text ≡ c.args.contents.now.text.items =
    (let a = c.if-ne.false in let b = c.ne.ensures in let t = c.text.ensures in let s = c.as_slice.ensures.value in first_of (cc, search (rules, tests), grind arith)) in (
      λ done. record { text = texts; under = under_as c.rule.result.now c.args.schema.now.rule c.as_slice-2.result.now c.args.contents.now.updates.items c.rule.ensures c.as_slice-2.ensures.value (c.are_under.ensures.is.0 done) },
      λ mine. c.are_under.ensures.is.1 (under_as c.args.schema.now.rule c.rule.result.now c.args.contents.now.updates.items c.as_slice-2.result.now (sym c.rule.ensures) (sym c.as_slice-2.ensures.value) mine.under),
    )

pub returns-clause-checked : goal.returns-clause-checked
returns-clause-checked c done =
    checked_all c.rule.result.now c.args.schema.now.rule c.as_slice-2.result.now c.args.contents.now.updates.items c.rule.ensures c.as_slice-2.ensures.value (c.are_under.ensures.checked done)
