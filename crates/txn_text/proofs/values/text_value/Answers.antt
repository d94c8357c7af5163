use Rattle.std.proofs.Common.{◌≡◌, ◌≤◌, ap, ◌∙◌, List, ℕ, length, rules, Ok}
use Rattle.update_model.specs.declared.value.Value.TheVariants.{Text}
use Rattle.update_model.specs.Text.{IsText}
use Rattle.txn_text.specs.Values.{Written}
use Rattle.txn_text.proofs.Texts.{text_good, text_bad}
use Rattle.txn_text.proofs.values.text_value.Goals as goal

pub returns-then-not-check_value_text-clause-value : goal.returns-then-not-check_value_text-clause-value
returns-then-not-check_value_text-clause-value c =
    let few : length c.args.text ≤ 1024 = search rules in
    let no : ¬ IsText c.args.text = search rules in
    text_bad c.args.text few no

pub returns-clause-value : goal.returns-clause-value
returns-clause-value c =
    let is : IsText c.args.text = search rules in
    let same : c.from_vec.result ≡ c.args.text = search rules in
    let first : Written = Ok (Text c.from_vec.result) in
    ap (λ (bytes : List ℕ). Ok (Text bytes)) same ∙ text_good c.args.text is
