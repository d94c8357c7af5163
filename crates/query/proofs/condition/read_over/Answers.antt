use Rattle.std.proofs.Common.{ℕ, ◌≤◌, List, length, sym, subst}
use Rattle.std.specs.Prelude.{All}
use Rattle.expression_text.specs.Columns.{IsKnown}
use Rattle.query.proofs.Known.{right_few, right_known}
use Rattle.query.proofs.condition.read_over.Goals as goal

pub build-requires-clause-few : goal.build-requires-clause-few
build-requires-clause-few c =
    subst (λ (names : List (List ℕ)). length names ≤ 256) (sym c.requires.names)
    (right_few c.args.schema.now.tables c.args.table c.args.at c.args.words.now c.requires.right)

pub build-requires-clause-known : goal.build-requires-clause-known
build-requires-clause-known c =
    subst (λ (names : List (List ℕ)). All (IsKnown names) c.args.words.now) (sym c.requires.names)
    (right_known c.args.schema.now.tables c.args.table c.args.at c.args.words.now c.requires.right)
