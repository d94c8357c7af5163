use Rattle.std.proofs.Common.{◌≡◌, ◌∙◌, sym, ap, Some}
use Rattle.std.specs.BTreeMap.{is_at}
use Rattle.std.specs.Map.{lookup}
use Rattle.update_model.specs.Entry.{id_cmp}
use Rattle.head_set.proofs.Spanned.{has_by_lookup, head_of}
use Rattle.head_set.proofs.States.{never_any, was}
use Rattle.head_set.proofs.heads.Heads.was_head.Goals as goal

pub returns-in-Some : goal.returns-in-Some
returns-in-Some c =
    let es = c.self.inside.spans.entries in
    let n = c.self.inside.added in
    let w = c.in-Some.span.now in
    let found : lookup (is_at (id_cmp c.args.id.now)) es ≡ Some w = sym c.in-Some.ensures.value in
    rw (← c.self.view_is) (c.has_moment.ensures ∙ was es n c.args.id.now w c.self.invariant.rising c.self.invariant.before found)

pub returns-in-None : goal.returns-in-None
returns-in-None c =
    let es = c.self.inside.spans.entries in
    let n = c.self.inside.added in
    rw (← c.self.view_is) (sym (never_any es n c.args.id.now (λ m low. has_by_lookup es c.args.id.now m c.self.invariant.rising ∙ ap (λ o. head_of o m) (sym c.in-None.ensures.value))))
