use Rattle.std.proofs.Common.{◌≡◌, sym, ap, ◌∙◌}
use Rattle.table_model.specs.Visible.{Rules, rules_with}
use Rattle.validity.specs.Asked.{is_anothers, is_deletable}
use Rattle.validity.proofs.Lent.{lent}
use Rattle.validity.proofs.Reasons.{eight, no_reason, seven, six_gone, six_twice}
use Rattle.validity.proofs.deleting.delete_reason.Goals as goal
use Rattle.validity.proofs.deleting.delete_reason.Goals.{then-not-is_deletable-via-then-not-is_deletable, then-not-is_deletable-via-else-not-is_deletable+then-is_among}

pub returns-then-not-is_deletable : goal.returns-then-not-is_deletable
returns-then-not-is_deletable g c ask =
    let rules : Rules = rules_with ask c.args.schema.now.tables in
    let row = g.Q.RowsAt.row c.args.rows.now c.args.name.now in
    let found = lent _ _ _ c.in_ok-row.ensures c.in-Some.is in
    let may : is_deletable rules row ≡ c.is_deletable.result = ap (is_deletable rules) found ∙ sym (c.is_deletable.ensures ask) in
    elim c.then-not-is_deletable.branch [
      | then-not-is_deletable-via-then-not-is_deletable w ↦ six_gone _ _ _ _ (may ∙ w.if-not-is_deletable.true)
      | then-not-is_deletable-via-else-not-is_deletable+then-is_among w ↦ six_twice _ _ _ _ (sym w.is_among.ensures ∙ w.if-is_among.true)
    ]

pub returns-then-is_anothers : goal.returns-then-is_anothers
returns-then-is_anothers g c ask =
    let rules : Rules = rules_with ask c.args.schema.now.tables in
    let found = lent _ _ _ c.in_ok-row.ensures c.in-Some.is in
    seven _ _ _ _ (ap (is_deletable rules) found ∙ sym (c.is_deletable.ensures ask) ∙ c.if-not-is_deletable.false) (sym c.is_among.ensures ∙ c.if-is_among.false)
    (ap (is_anothers rules c.args.author.now) found ∙ sym (c.is_anothers.ensures ask) ∙ c.if-is_anothers.true)

pub returns-then-branch : goal.returns-then-branch
returns-then-branch g c ask =
    let rules : Rules = rules_with ask c.args.schema.now.tables in
    let found = lent _ _ _ c.in_ok-row.ensures c.in-Some.is in
    eight _ _ _ _ (ap (is_deletable rules) found ∙ sym (c.is_deletable.ensures ask) ∙ c.if-not-is_deletable.false) (sym c.is_among.ensures ∙ c.if-is_among.false)
    (ap (is_anothers rules c.args.author.now) found ∙ sym (c.is_anothers.ensures ask) ∙ c.if-is_anothers.false) (sym c.in_ok-restrict_child.ensures ∙ c.if-branch.true)

pub returns : goal.returns
returns g c ask =
    let rules : Rules = rules_with ask c.args.schema.now.tables in
    let found = lent _ _ _ c.in_ok-row.ensures c.in-Some.is in
    no_reason _ _ _ _ (ap (is_deletable rules) found ∙ sym (c.is_deletable.ensures ask) ∙ c.if-not-is_deletable.false) (sym c.is_among.ensures ∙ c.if-is_among.false)
    (ap (is_anothers rules c.args.author.now) found ∙ sym (c.is_anothers.ensures ask) ∙ c.if-is_anothers.false) (sym c.in_ok-restrict_child.ensures ∙ c.if-branch.false)
