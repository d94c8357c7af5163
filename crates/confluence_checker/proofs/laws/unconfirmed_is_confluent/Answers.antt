use Rattle.std.proofs.Common.{◌≡◌, Bool, true, false, refl}
use Rattle.std.proofs.lemmas.Bool.{both_ways}
use Rattle.confluence_laws.specs.Confluence.{confirms}
use Rattle.table_model.specs.Invariants.{claim_holds, shown_in}
use Rattle.table_model.specs.Nodes.{union}
use Rattle.confluence_checker.specs.Parting.{parted}
use Rattle.confluence_checker.proofs.laws.unconfirmed_is_confluent.Goals as goal

pub returns : goal.returns
returns c = λ rules earlier claim none xs ys closed_left closed_right agree on_left on_right.
    let by_test : (holds : Bool) → claim_holds rules (shown_in rules (union xs ys)) claim ≡ holds → holds ≡ true =
    elim [
      | true ↦ λ e. refl
      | false ↦ λ e. absurd (both_ways (confirms rules earlier claim (parted xs ys)) (none (parted xs ys)) (c.shared_updates_are_a_base.ensures rules earlier claim xs ys closed_left closed_right agree on_left on_right e))
    ] in
    by_test (claim_holds rules (shown_in rules (union xs ys)) claim) refl
