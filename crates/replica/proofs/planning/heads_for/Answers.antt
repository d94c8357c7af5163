use Rattle.std.proofs.Common.{rules, ◌≡◌, IsTrue, length, map, sym, ap, subst, ◌∙◌, arith}
use Rattle.update_model.specs.declared.author_key.AuthorKey.{AuthorKey}
use Rattle.update_model.specs.Rule.{IsListed, RuleData}
use Rattle.update_codec.specs.Parts.{entry_of}
use Rattle.schema.specs.Data.{SchemaData}
use Rattle.lms_tree.specs.SecretKey.{public_key}
use Rattle.replica.proofs.HeadLists.{one_heads}
use Rattle.replica.proofs.planning.heads_for.Goals as goal

pub returns-clause-heads : goal.returns-clause-heads
returns-clause-heads g c =
    let yes : IsTrue c.lists.result = search rules in
    let h = c.head_count-count.ensures in
    let same : length c.in_ok-heads.field-0.items ≡ c.head_count-count.result =
    ap length (one_heads (map entry_of c.args.history.now.members) c.in_ok-heads.field-0.items h.0 c.in_ok-heads.ensures h.1) ∙ sym h.2 in
    record {
      listed = subst (λ (r : RuleData). IsListed r.authors (public_key c.args.key.now.secret)) (c.rule.ensures ∙ ap (λ (s : SchemaData). s.rule) c.schema.ensures)
          (subst (λ (k : AuthorKey). IsListed c.rule.result.now.authors k) c.public.ensures.value (c.lists.ensures.0 yes));
      after = c.in_ok-heads.ensures;
      few = omega arith;
    }
