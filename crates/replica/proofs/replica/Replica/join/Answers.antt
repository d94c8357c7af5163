use Rattle.std.proofs.Common.{rules, ◌≡◌, ◌⊎◌, ℕ, ◌≤◌, IsTrue, true, false, None, All, List, [], length, map, take, sym, ap, subst, refl, ◌∙◌, arith, length-take}
use Rattle.std.specs.Prelude.{IfErr}
use Rattle.std.proofs.lemmas.Bool.{false≢true}
use Rattle.std.proofs.lemmas.List.Elements.{All-take}
use Rattle.update_model.specs.declared.limits.TheConstants.{MAX_PREDS}
use Rattle.update_model.specs.declared.op.Op.{Op}
use Rattle.update_model.specs.declared.author_key.AuthorKey.{AuthorKey}
use Rattle.update_model.specs.declared.update_id.UpdateId.{UpdateId}
use Rattle.update_model.specs.Form.{AreRising, IsBody}
use Rattle.update_model.specs.Graph.{holds}
use Rattle.update_model.specs.Rule.{IsListed, RuleData}
use Rattle.update_codec.specs.Parts.{entry_of}
use Rattle.schema.specs.Data.{SchemaData}
use Rattle.lms_tree.specs.SecretKey.{public_key}
use Rattle.replica.specs.Making.{AddsMade, AfterLeastHeads, IsAddCause, IsJoinCause, IsSignCause, Joins, body_with}
use Rattle.replica.specs.Replicas.{ReplicaState}
use Rattle.replica.specs.declared.contents.Contents.{Contents}
use Rattle.replica.specs.declared.make_fault.MakeFault.{MakeFault}
use Rattle.replica.proofs.HeadLists.{heads_held, one_heads, rising, rising_take}
use Rattle.replica.proofs.Made.{join_cause, joins}
use Rattle.replica.proofs.Outcomes.{err_handed}
use Rattle.replica.proofs.replica.Replica.join.Goals as goal

abbrev unnoted : List Op → Contents
unnoted ops = record { ops = ops; note = None }

pub returns-then-not-lists-clause-refused : goal.returns-then-not-lists-clause-refused
returns-then-not-lists-clause-refused g c =
    let h = c.head_count.ensures in
    let several : 2 ≤ length h.0 = omega (arith, h.2) in
    subst (λ (r : ReplicaState). ((preds : List UpdateId) × AfterLeastHeads r.history preds) × ¬ (IsListed r.history.schema.rule.authors (public_key c.args.key.now.secret))) c.self.view_is (
      (take MAX_PREDS h.0, record { heads = h.0; are = h.1; several = several; least = refl }),
      (λ listed.
          let there : IsListed c.rule.result.now.authors c.public.result =
          subst (λ (k : AuthorKey). IsListed c.rule.result.now.authors k) (sym c.public.ensures.value)
          (subst (λ (r : RuleData). IsListed r.authors (public_key c.args.key.now.secret)) (sym (c.rule.ensures ∙ ap (λ (s : SchemaData). s.rule) c.schema.ensures)) listed) in
          false≢true (sym c.if-not-lists.true ∙ c.lists.ensures.1 there)),
    )

pub sign_and_add-requires-clause-few_preds : goal.sign_and_add-requires-clause-few_preds
sign_and_add-requires-clause-few_preds g c κs within =
    let p = c.in_ok-preds.ensures in
    subst (λ (l : List UpdateId). length l ≤ MAX_PREDS) (sym p.2) (length_take-low MAX_PREDS p.0)
  where
    length_take-low : (n : ℕ) (xs : List UpdateId) → length (take n xs) ≤ n
    length_take-low n xs = omega (arith, length-take n xs)

pub sign_and_add-requires-clause-rising : goal.sign_and_add-requires-clause-rising
sign_and_add-requires-clause-rising g c κs within =
    let p = c.in_ok-preds.ensures in
    subst (AreRising None) (sym p.2) (rising_take MAX_PREDS p.0 (rising p.0 p.1.rising))

pub sign_and_add-requires-clause-held : goal.sign_and_add-requires-clause-held
sign_and_add-requires-clause-held g c κs within =
    let p = c.in_ok-preds.ensures in
    let P : UpdateId → Type 0 = λ (id : UpdateId). holds (map entry_of c.self.inside.history.members) id ≡ true in
    subst (All P) (sym p.2) (All-take P MAX_PREDS p.0 (heads_held (map entry_of c.self.inside.history.members) p.0 p.1))

pub returns-in_err-id-clause-refused : goal.returns-in_err-id-clause-refused
returns-in_err-id-clause-refused g c =
    let a = c.args in
    let h = c.self.inside.history in
    let p = c.in_ok-preds.ensures in
    let n = c.head_count.ensures in
    let same : length p.0 ≡ length n.0 = ap length (one_heads (map entry_of h.members) p.0 n.0 p.1 n.1) in
    let several : 2 ≤ length p.0 = omega (arith, same, n.2) in
    let after : AfterLeastHeads h c.in_ok-preds.preds = record { heads = p.0; are = p.1; several = several; least = p.2 } in
    let none : c.from_vec-ops.result ≡ [] = c.from_vec-ops.ensures ∙ c.new.ensures.items in
    let yes : IsTrue c.lists.result = search rules in
    let listed : IsListed h.schema.rule.authors (public_key a.key.now.secret) =
    subst (λ (r : RuleData). IsListed r.authors (public_key a.key.now.secret)) (c.rule.ensures ∙ ap (λ (s : SchemaData). s.rule) c.schema.ensures)
    (subst (λ (k : AuthorKey). IsListed c.rule.result.now.authors k) c.public.ensures.value (c.lists.ensures.0 yes)) in
    let why = c.in_err-id.field-0.0 in
    let form = subst (λ (ops : List Op). IsBody (body_with h (public_key a.key.now.secret) c.in_ok-preds.preds (unnoted ops))) none c.in_err-id.ensures.form in
    let cause = subst (λ (ops : List Op). IsSignCause h a.key.now.secret a.key.now.taken c.in_ok-preds.preds (unnoted ops) a.c.now why ⊎ IsAddCause why) none c.in_err-id.ensures.refused in
    subst (λ (r : ReplicaState). IfErr c.from_residual-in_err-id.result (λ (w : MakeFault). IsJoinCause r.history a.key.now.secret a.key.now.taken a.c.now w)) c.self.view_is
    (err_handed c.from_residual-in_err-id.result why (λ (w : MakeFault). IsJoinCause h a.key.now.secret a.key.now.taken a.c.now w) c.from_residual-in_err-id.ensures.1
    (join_cause h a.key.now.secret a.key.now.taken c.in_ok-preds.preds a.c.now why after listed form cause))

pub returns-clause-joined : goal.returns-clause-joined
returns-clause-joined g c =
    let a = c.args in
    let h = c.self.inside.history in
    let p = c.in_ok-preds.ensures in
    let n = c.head_count.ensures in
    let same : length p.0 ≡ length n.0 = ap length (one_heads (map entry_of h.members) p.0 n.0 p.1 n.1) in
    let several : 2 ≤ length p.0 = omega (arith, same, n.2) in
    let after : AfterLeastHeads h c.in_ok-preds.preds = record { heads = p.0; are = p.1; several = several; least = p.2 } in
    let none : c.from_vec-ops.result ≡ [] = c.from_vec-ops.ensures ∙ c.new.ensures.items in
    subst (λ (r : ReplicaState). Joins r.history a.key.now.secret a.key.now.taken a.c.now c.in_ok-id.id c.sign_and_add.new.history) c.self.view_is
    (joins g.L.Relation.answer h a.key.now.secret a.key.now.taken c.in_ok-preds.preds a.c.now c.in_ok-id.id c.sign_and_add.new.history after
    (subst (λ (ops : List Op). AddsMade g.L.Relation.answer false h a.key.now.secret a.key.now.taken c.in_ok-preds.preds (unnoted ops) a.c.now c.in_ok-id.id c.sign_and_add.new.history) none c.in_ok-id.ensures.added))
