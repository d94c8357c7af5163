use Rattle.std.proofs.Common.{List, subst, sym, ℕ}
use Rattle.bundles.specs.Bundles.{BundleHeld}
use Rattle.import_commands.proofs.contents.bundle_contents.Goals as goal

pub returns-clause-held : goal.returns-clause-held
returns-clause-held g c = (
  c.in_ok-bundle.bundle.schema,
  subst (λ (l : List (List ℕ)). BundleHeld (g.S.Source.left c.args.input.now) (g.S.Source.left c.read_bundle.new.input) c.in_ok-bundle.bundle.schema l) (sym c.in_ok-contents.ensures.updates) c.in_ok-bundle.ensures.held,
  c.in_ok-contents.ensures.text,
)
