use Rattle.std.proofs.Common.{◌≡◌, ℕ, List, Result, subst, map, ap, sym, ◌∙◌}
use Rattle.std.specs.Option.{is_some}
use Rattle.update_model.specs.Graph.{holds}
use Rattle.update_model.proofs.Closed.{position_of-held}
use Rattle.update_codec.specs.Parts.{entry_of, id_of}
use Rattle.update_model.specs.Rule.{RuleData}
use Rattle.update_check.specs.Causes.{Takes}
use Rattle.update_check.specs.Signed.{IsChecked}
use Rattle.update_check.specs.declared.check_error.CheckError.{CheckError}
use Rattle.schema.specs.Data.{SchemaData}
use Rattle.replica.proofs.MadeBy.{memory_alone}
use Rattle.replica.proofs.signing.check_new.Goals as goal

pub want_of_memory-requires : goal.want_of_memory-requires
want_of_memory-requires g c =
    let same : c.rule.result.now ≡ c.args.history.now.schema.rule = c.rule.ensures ∙ ap (λ (s : SchemaData). s.rule) c.schema.ensures in
    let taken = c.check.ensures.only (subst (λ (r : RuleData). IsChecked r c.args.bytes.items) (sym same) c.requires) in
    memory_alone c.in-Err.error c.args.bytes.items (subst (λ (r : Result (List ℕ) CheckError). Takes r c.args.bytes.items) c.in-Err.is taken)

pub returns-then-is_some-clause-refused : goal.returns-then-is_some-clause-refused
returns-then-is_some-clause-refused g c =
    (sym (c.id-id.ensures ∙ ap id_of c.in-Ok.ensures.same), sym (position_of-held (map entry_of c.args.history.now.members) c.id-id.result) ∙ ap is_some (sym c.position.ensures) ∙ sym c.is_some.ensures ∙ c.if-is_some.true)

pub returns-clause-new : goal.returns-clause-new
returns-clause-new g c =
    let graph = map entry_of c.args.history.now.members in
    ap (holds graph) (sym c.id-id.ensures) ∙ sym (position_of-held graph c.id-id.result) ∙ ap is_some (sym c.position.ensures) ∙ sym c.is_some.ensures ∙ c.if-is_some.false
