use Rattle.std.proofs.Common.{sym, ap, ◌∙◌}
use Rattle.validity.specs.Asked.{is_match, is_matched}
use Rattle.validity.proofs.Lent.{lent, not_lent}
use Rattle.validity.proofs.referring.is_matched_visible.Goals as goal

pub returns-in-Some : goal.returns-in-Some
returns-in-Some g c =
    c.is_match.ensures ∙ ap (is_match c.args.values.now c.args.rule.now) c.as_slice.ensures
    ∙ sym (ap (is_matched c.args.values.now c.args.rule.now) (lent _ _ _ c.in_ok-entry.ensures c.in-Some.is))

pub returns-in-None : goal.returns-in-None
returns-in-None g c = sym (ap (is_matched c.args.values.now c.args.rule.now) (not_lent _ _ c.in_ok-entry.ensures c.in-None.is))
