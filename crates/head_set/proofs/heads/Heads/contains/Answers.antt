use Rattle.std.proofs.Common.{◌≡◌, ◌∙◌, sym, ap, Some}
use Rattle.std.specs.BTreeMap.{is_at}
use Rattle.std.specs.Map.{lookup}
use Rattle.update_model.specs.Entry.{id_cmp}
use Rattle.head_set.proofs.Spanned.{before_at, has_by_lookup, head_of, head_unended, none_is}
use Rattle.head_set.proofs.States.{present_is}
use Rattle.head_set.proofs.heads.Heads.contains.Goals as goal

pub returns-in-Some : goal.returns-in-Some
returns-in-Some c =
    let es = c.self.inside.spans.entries in
    let n = c.self.inside.added in
    let w = c.in-Some.span.now in
    let found : lookup (is_at (id_cmp c.args.id.now)) es ≡ Some w = sym c.in-Some.ensures.value in
    rw (← c.self.view_is, present_is es n)
    (none_is w.until c.is_none.result c.is_none.ensures ∙ sym (has_by_lookup es c.args.id.now n c.self.invariant.rising ∙ ap (λ o. head_of o n) found ∙ head_unended w n (before_at (is_at (id_cmp c.args.id.now)) es w n found c.self.invariant.before)))

pub returns-in-None : goal.returns-in-None
returns-in-None c =
    let es = c.self.inside.spans.entries in
    let n = c.self.inside.added in
    rw (← c.self.view_is, present_is es n) (sym (has_by_lookup es c.args.id.now n c.self.invariant.rising ∙ ap (λ o. head_of o n) (sym c.in-None.ensures.value)))
