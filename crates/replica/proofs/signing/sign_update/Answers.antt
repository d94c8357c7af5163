use Rattle.std.proofs.Common.{rules, ◌≡◌, ℕ, ◌+◌, List, length, subst, sym, ap, ◌∙◌}
use Rattle.update_model.specs.Form.{BodyData, IsBody, signature_length}
use Rattle.update_model.specs.Rule.{RuleData}
use Rattle.update_codec.specs.Spelling.{message, signed_length}
use Rattle.schema.specs.Data.{SchemaData}
use Rattle.lms_tree.specs.SecretKey.{public_key}
use Rattle.replica.specs.Making.{AreSignedBy, HasLength, HasRoom, IsMadeWith, IsNewCause, IsSignCause, body_with}
use Rattle.replica.proofs.MadeBy.{body_is, has_length, made_by, made_checked, new_cause}
use Rattle.replica.proofs.Outcomes.{if_err_map, if_ok_map, on_ok}
use Rattle.replica.proofs.Reserved.{signed_bytes_checked}
use Rattle.replica.specs.declared.make_fault.MakeFault.{MakeFault}
use Rattle.replica.proofs.signing.sign_update.Goals as goal

pub check_new-requires-after_bounds : goal.check_new-requires-after_bounds
check_new-requires-after_bounds g c = λ lives outlives.
    let a = c.args in
    let database : c.behind-schema.inside.database ≡ a.history.now.schema.rule.database =
    ap (λ (r : RuleData). r.database) c.behind-schema.view_is ∙ ap (λ (r : RuleData). r.database) c.rule.ensures ∙ ap (λ (s : SchemaData). s.rule.database) c.schema.ensures in
    let body : c.body_of-body.result ≡ body_with a.history.now (public_key a.key.now.secret) a.preds a.says =
    body_is a.history.now a.key.now.secret a.preds a.says c.behind-schema.inside.database c.public.result database c.public.ensures.value c.body_of-body.result c.body_of-body.ensures in
    let form : IsBody (body_with a.history.now (public_key a.key.now.secret) a.preds a.says) = subst IsBody body (subst IsBody c.body.view_is c.body.invariant) in
    let signed : AreSignedBy a.key.now.secret a.key.now.taken a.c.now (message (body_with a.history.now (public_key a.key.now.secret) a.preds a.says)) c.in_ok-bytes.bytes.items =
    subst (λ (m : List ℕ). AreSignedBy a.key.now.secret a.key.now.taken a.c.now m c.in_ok-bytes.bytes.items) (c.deref.ensures.value ∙ c.in_ok-message.ensures.message ∙ ap message body) c.in_ok-bytes.ensures.made in
    let made = made_by a.history.now a.key.now.secret a.key.now.taken a.preds a.says a.c.now c.in_ok-bytes.bytes.items form signed c.in_ok-bytes.ensures.short in
    made_checked a.history.now a.key.now.secret a.key.now.taken a.preds a.says a.c.now c.in_ok-bytes.bytes.items c.requires.listed signed made

pub returns-clause-made : goal.returns-clause-made
returns-clause-made g c =
    let a = c.args in
    let database : c.behind-schema.inside.database ≡ a.history.now.schema.rule.database =
    ap (λ (r : RuleData). r.database) c.behind-schema.view_is ∙ ap (λ (r : RuleData). r.database) c.rule.ensures ∙ ap (λ (s : SchemaData). s.rule.database) c.schema.ensures in
    let body : c.body_of-body.result ≡ body_with a.history.now (public_key a.key.now.secret) a.preds a.says =
    body_is a.history.now a.key.now.secret a.preds a.says c.behind-schema.inside.database c.public.result database c.public.ensures.value c.body_of-body.result c.body_of-body.ensures in
    let form : IsBody (body_with a.history.now (public_key a.key.now.secret) a.preds a.says) = subst IsBody body (subst IsBody c.body.view_is c.body.invariant) in
    let signed : AreSignedBy a.key.now.secret a.key.now.taken a.c.now (message (body_with a.history.now (public_key a.key.now.secret) a.preds a.says)) c.in_ok-bytes.bytes.items =
    subst (λ (m : List ℕ). AreSignedBy a.key.now.secret a.key.now.taken a.c.now m c.in_ok-bytes.bytes.items) (c.deref.ensures.value ∙ c.in_ok-message.ensures.message ∙ ap message body) c.in_ok-bytes.ensures.made in
    let made = made_by a.history.now a.key.now.secret a.key.now.taken a.preds a.says a.c.now c.in_ok-bytes.bytes.items form signed c.in_ok-bytes.ensures.short in
    if_ok_map c.check_new.result (λ (u : List ℕ). u ≡ c.in_ok-bytes.bytes.items) (λ (u : List ℕ). IsMadeWith a.history.now a.key.now.secret a.key.now.taken a.preds a.says a.c.now u)
    (λ u same. subst (λ (b : List ℕ). IsMadeWith a.history.now a.key.now.secret a.key.now.taken a.preds a.says a.c.now b) (sym same) made) c.check_new.ensures.same

pub returns-clause-refused : goal.returns-clause-refused
returns-clause-refused g c =
    let a = c.args in
    let database : c.behind-schema.inside.database ≡ a.history.now.schema.rule.database =
    ap (λ (r : RuleData). r.database) c.behind-schema.view_is ∙ ap (λ (r : RuleData). r.database) c.rule.ensures ∙ ap (λ (s : SchemaData). s.rule.database) c.schema.ensures in
    let body : c.body_of-body.result ≡ body_with a.history.now (public_key a.key.now.secret) a.preds a.says =
    body_is a.history.now a.key.now.secret a.preds a.says c.behind-schema.inside.database c.public.result database c.public.ensures.value c.body_of-body.result c.body_of-body.ensures in
    let form : IsBody (body_with a.history.now (public_key a.key.now.secret) a.preds a.says) = subst IsBody body (subst IsBody c.body.view_is c.body.invariant) in
    let signed : AreSignedBy a.key.now.secret a.key.now.taken a.c.now (message (body_with a.history.now (public_key a.key.now.secret) a.preds a.says)) c.in_ok-bytes.bytes.items =
    subst (λ (m : List ℕ). AreSignedBy a.key.now.secret a.key.now.taken a.c.now m c.in_ok-bytes.bytes.items) (c.deref.ensures.value ∙ c.in_ok-message.ensures.message ∙ ap message body) c.in_ok-bytes.ensures.made in
    let made = made_by a.history.now a.key.now.secret a.key.now.taken a.preds a.says a.c.now c.in_ok-bytes.bytes.items form signed c.in_ok-bytes.ensures.short in
    let room : HasRoom a.history.now (c.len.result + 4 + c.signature_len-size.result) = search rules in
    let same : c.len.result + 4 + c.signature_len-size.result ≡ signed_length c.body_of-body.result =
    let n : c.len.result ≡ length c.in_ok-message.message.items = search rules in
    ap (λ (k : ℕ). k + 4 + c.signature_len-size.result) (n ∙ ap length c.in_ok-message.ensures.message)
    ∙ ap (λ (k : ℕ). length (message c.body_of-body.result) + 4 + k) (c.signature_len-size.ensures ∙ ap (λ (b : BodyData). signature_length b.author) c.body.view_is) in
    let len = has_length a.history.now a.key.now.secret a.preds a.says c.body_of-body.result body c.in_ok-message.ensures.short (subst (HasRoom a.history.now) same room) in
    if_err_map c.check_new.result (λ (why : MakeFault). IsNewCause a.history.now c.in_ok-bytes.bytes.items why) (λ (why : MakeFault). IsSignCause a.history.now a.key.now.secret a.key.now.taken a.preds a.says a.c.now why)
    (λ why cause. new_cause a.history.now a.key.now.secret a.key.now.taken a.preds a.says a.c.now c.in_ok-bytes.bytes.items why len made cause) c.check_new.ensures.refused

pub returns-clause-length : goal.returns-clause-length
returns-clause-length g c =
    let a = c.args in
    let database : c.behind-schema.inside.database ≡ a.history.now.schema.rule.database =
    ap (λ (r : RuleData). r.database) c.behind-schema.view_is ∙ ap (λ (r : RuleData). r.database) c.rule.ensures ∙ ap (λ (s : SchemaData). s.rule.database) c.schema.ensures in
    let body : c.body_of-body.result ≡ body_with a.history.now (public_key a.key.now.secret) a.preds a.says =
    body_is a.history.now a.key.now.secret a.preds a.says c.behind-schema.inside.database c.public.result database c.public.ensures.value c.body_of-body.result c.body_of-body.ensures in
    let room : HasRoom a.history.now (c.len.result + 4 + c.signature_len-size.result) = search rules in
    let same : c.len.result + 4 + c.signature_len-size.result ≡ signed_length c.body_of-body.result =
    let n : c.len.result ≡ length c.in_ok-message.message.items = search rules in
    ap (λ (k : ℕ). k + 4 + c.signature_len-size.result) (n ∙ ap length c.in_ok-message.ensures.message)
    ∙ ap (λ (k : ℕ). length (message c.body_of-body.result) + 4 + k) (c.signature_len-size.ensures ∙ ap (λ (b : BodyData). signature_length b.author) c.body.view_is) in
    on_ok c.check_new.result (HasLength a.history.now a.key.now.secret a.preds a.says)
    (has_length a.history.now a.key.now.secret a.preds a.says c.body_of-body.result body c.in_ok-message.ensures.short (subst (HasRoom a.history.now) same room))

pub returns-clause-key : goal.returns-clause-key
returns-clause-key g c =
    signed_bytes_checked (List ℕ) c.args.key.now c.signed_bytes.new.key c.args.history.now c.in_ok-bytes.bytes.items c.check_new.result c.in_ok-bytes.ensures.key c.check_new.ensures.refused
