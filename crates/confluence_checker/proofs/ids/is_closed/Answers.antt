use Rattle.std.proofs.Common.{reverse, sym, ◌∙◌}
use Rattle.confluence_laws.proofs.Confirmed.{closed_from_test}
use Rattle.confluence_laws.proofs.Sides.{test_from_closed}
use Rattle.confluence_checker.proofs.ids.is_closed.Goals as goal

pub returns : goal.returns
returns c =
    let nodes = reverse c.args.nodes.now in
    (λ h. closed_from_test nodes (sym c.passes_closed.ensures ∙ h), λ h. c.passes_closed.ensures ∙ test_from_closed nodes h)
