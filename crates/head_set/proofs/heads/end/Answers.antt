use Rattle.std.proofs.Common.{◌≡◌, ◌+◌, List, sym, ap, ◌∙◌, Some, arith, rules}
use Rattle.std.specs.BTreeMap.{is_at}
use Rattle.std.specs.Map.{lookup}
use Rattle.std.proofs.lemmas.Map.Steps.{set_value_same}
use Rattle.update_model.specs.declared.update_id.UpdateId.{UpdateId}
use Rattle.update_model.specs.Entry.{id_cmp}
use Rattle.head_set.specs.declared.span.Span.{Span}
use Rattle.head_set.specs.Spans.{heads_at}
use Rattle.head_set.proofs.Spanned.{has_by_lookup, head_of, all_others, others, before_at, ended_none, head_now, head_before, head_past, set_apart, set_length, set_before}
use Rattle.head_set.proofs.heads.end.Goals as goal

pub returns-in_default-clause-exact : goal.returns-in_default-clause-exact
returns-in_default-clause-exact c = λ x.
    let es = c.args.spans.now.entries in
    let n = c.args.position + 1 in
    let none = has_by_lookup es c.args.id.now n c.requires.rising ∙ ap (λ o. head_of o n) (sym c.in_default.ensures.value) in
    rw (c.get_mut.follows.holds-at-none) (all_others (heads_at es n) c.args.id.now x none)

-- what was read is as it was
pub returns-then-is_some-clause-earlier : goal.returns-then-is_some-clause-earlier
returns-then-is_some-clause-earlier c = λ n low.
    let w = c.in-Some.span.now in
    ap (λ (es : List (UpdateId × Span)). heads_at es n) ((c.get_mut.follows.holds w).0 ∙ set_value_same (is_at (id_cmp c.args.id.now)) c.args.spans.now.entries w (sym c.in-Some.ensures.value))

pub returns-then-is_some-clause-exact : goal.returns-then-is_some-clause-exact
returns-then-is_some-clause-exact c = λ x.
    let w = c.in-Some.span.now in
    let es = c.args.spans.now.entries in
    let n = c.args.position + 1 in
    let found : lookup (is_at (id_cmp c.args.id.now)) es ≡ Some w = sym c.in-Some.ensures.value in
    let none = has_by_lookup es c.args.id.now n c.requires.rising ∙ ap (λ o. head_of o n) found
    ∙ ended_none w n (before_at (is_at (id_cmp c.args.id.now)) es w n found c.requires.before) (sym c.is_some.ensures ∙ c.if-is_some.true) in
    rw ((c.get_mut.follows.holds w).0, set_value_same (is_at (id_cmp c.args.id.now)) es w found) (all_others (heads_at es n) c.args.id.now x none)

pub returns-then-is_some-clause-count : goal.returns-then-is_some-clause-count
returns-then-is_some-clause-count c =
    let w = c.in-Some.span.now in
    rw ((c.get_mut.follows.holds w).0, set_value_same (is_at (id_cmp c.args.id.now)) c.args.spans.now.entries w (sym c.in-Some.ensures.value)) (omega arith)

pub returns-then-is_some-clause-before : goal.returns-then-is_some-clause-before
returns-then-is_some-clause-before c =
    let w = c.in-Some.span.now in
    rw ((c.get_mut.follows.holds w).0, set_value_same (is_at (id_cmp c.args.id.now)) c.args.spans.now.entries w (sym c.in-Some.ensures.value)) c.requires.before

-- the span that is ended
pub returns-clause-earlier : goal.returns-clause-earlier
returns-clause-earlier c = λ n low.
    let w = c.in-Some.span.now in
    let v : Span = record { since = w.since; until = Some c.args.position } in
    rw (c.get_mut.follows.holds v).0 (set_apart (is_at (id_cmp c.args.id.now)) c.args.spans.now.entries w v n (sym c.in-Some.ensures.value)
    (head_before w c.args.position n (sym c.is_some.ensures ∙ c.if-is_some.false) low))

pub returns-clause-exact : goal.returns-clause-exact
returns-clause-exact c = λ x.
    let w = c.in-Some.span.now in
    let v : Span = record { since = w.since; until = Some c.args.position } in
    let wrote = c.get_mut.follows.holds v in
    others c.args.spans.now.entries (c.get_mut.follows.lender v).entries c.args.id.now x v (c.args.position + 1) c.requires.rising wrote.4
    ((wrote.3 (search rules)).0 x) (head_past w.since c.args.position)

pub returns-clause-count : goal.returns-clause-count
returns-clause-count c =
    let w = c.in-Some.span.now in
    let v : Span = record { since = w.since; until = Some c.args.position } in
    let es = c.args.spans.now.entries in
    let n = c.args.position + 1 in
    let found : lookup (is_at (id_cmp c.args.id.now)) es ≡ Some w = sym c.in-Some.ensures.value in
    rw (c.get_mut.follows.holds v).0 (set_length (is_at (id_cmp c.args.id.now)) es w v n found
    (head_now w n (sym c.is_some.ensures ∙ c.if-is_some.false) (before_at (is_at (id_cmp c.args.id.now)) es w n found c.requires.before)) (head_past w.since c.args.position))

pub returns-clause-before : goal.returns-clause-before
returns-clause-before c =
    let w = c.in-Some.span.now in
    let v : Span = record { since = w.since; until = Some c.args.position } in
    let es = c.args.spans.now.entries in
    let n = c.args.position + 1 in
    let began = (before_at (is_at (id_cmp c.args.id.now)) es w n (sym c.in-Some.ensures.value) c.requires.before).began in
    rw (c.get_mut.follows.holds v).0 (set_before (is_at (id_cmp c.args.id.now)) es v n (record { began = began; ended = omega arith }) c.requires.before)
