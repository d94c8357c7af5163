use Rattle.std.proofs.Common.{◌∙◌}
use Rattle.confluence_test.specs.Findings.{declared_of}
use Rattle.confluence_test.proofs.Askings.{all_accepted, one_refused}
use Rattle.confluence_test.proofs.Scans.{none_of}
use Rattle.confluence_test.proofs.testing.test.Goals as goal

pub returns-in_default : goal.returns-in_default
returns-in_default c = λ ask. all_accepted c.args.schema.now.tables ask (none_of c.first_refused.result c.in_default.not-Some ∙ c.first_refused.ensures.first)

pub returns : goal.returns
returns c = λ ask. one_refused c.args.schema.now.tables ask (declared_of c.in-Some.finding) c.in_ok-example.example c.in-Some.ensures.first c.in_ok-example.ensures
