use Rattle.std.proofs.Common.{◌∙◌, sym, subst, List, ℕ, Option, None, IfErr}
use Rattle.update_model.specs.declared.author_key.AuthorKey.{AuthorKey}
use Rattle.update_model.specs.Rule.{RuleData}
use Rattle.update_check.specs.Causes.{IsCause}
use Rattle.update_stream.specs.Steps.{rule_for}
use Rattle.update_stream.proofs.take_record.check_next.Goals as goal

pub returns-in-Some-clause-fault : goal.returns-in-Some-clause-fault
returns-in-Some-clause-fault c =
    let P : Option RuleData → Type 0 = λ given. IfErr c.check_spelled.result (λ fault. IsCause (rule_for given c.args.set.now c.args.update) c.args.update fault) in
    subst P (sym c.in-Some.is) c.check_spelled.ensures.fault

pub returns-in-Some-set-clause-fault : goal.returns-in-Some-set-clause-fault
returns-in-Some-set-clause-fault c =
    let P : Option RuleData → Option RuleData → Type 0 = λ given set. IfErr c.check_spelled-in-Some-set.result (λ fault. IsCause (rule_for given set c.args.update) c.args.update fault) in
    subst (λ given. P given c.args.set.now) (sym c.in_default.is) (subst (P None) (sym c.in-Some-set.is) c.check_spelled-in-Some-set.ensures.fault)

pub returns-clause-fault : goal.returns-clause-fault
returns-clause-fault c =
    let P : Option RuleData → Option RuleData → Type 0 = λ given set. IfErr c.check_spelled-answer.result (λ fault. IsCause (rule_for given set c.args.update) c.args.update fault) in
    let Q : List ℕ → List AuthorKey → Type 0 = λ database authors. IfErr c.check_spelled-answer.result (λ fault. IsCause (record { database = database; authors = authors }) c.args.update fault) in
    let own = subst (λ database. Q database c.from_vec.result) c.database.ensures c.check_spelled-answer.ensures.fault in
    let listed = subst (Q _) (c.from_vec.ensures ∙ c.new.ensures.items) own in
    subst (λ given. P given c.args.set.now) (sym c.in_default.is) (subst (P None) (sym c.in_default-set.is) listed)
