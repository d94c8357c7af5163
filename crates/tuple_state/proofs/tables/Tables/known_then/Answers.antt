use Rattle.std.proofs.Common.{◌≡◌, ◌<◌, ◌≤◌, ◌==◌, ◌&&◌, ℕ, Bool, true, List, length, get_or, sym, ap, subst, ◌∙◌, arith}
use Rattle.tuple_state.specs.Grouped.{AreGroupsOf}
use Rattle.tuple_state.specs.Kept.{are_layered}
use Rattle.tuple_state.specs.Known.{count_to}
use Rattle.tuple_state.specs.State.{State, done_in, rules_of_state}
use Rattle.tuple_state.proofs.Fronts.{few_rows}
use Rattle.tuple_state.proofs.Layers.{grounded_is}
use Rattle.tuple_state.proofs.Tallying.{shown_is}
use Rattle.tuple_state.proofs.tables.Tables.known_then.Goals as goal

pub count_shown-requires-clause-each : goal.count_shown-requires-clause-each
count_shown-requires-clause-each g c =
    let groups = subst (λ (s : State). AreGroupsOf s.shapes s.inserted c.self.inside.groups) c.self.view_is c.self.invariant.grouped in
    let causes = c.in_ok-causes.ensures.0 in
    let sized = groups.sized c.requires.keeps in
    let a = ap length c.as_slice.ensures.value in
    let b = ap length c.as_slice-2.ensures.value in
    omega (arith, causes, sized, a, b)

pub count_shown-requires-clause-inside : goal.count_shown-requires-clause-inside
count_shown-requires-clause-inside g c = subst (λ (l : List ℕ). (k : ℕ) → k < length l → get_or l k 0 ≤ k) (sym c.as_slice-2.ensures.value) c.self.invariant.grouped.grouped.inside

pub count_shown-requires-clause-few : goal.count_shown-requires-clause-few
count_shown-requires-clause-few g c =
    let few = few_rows c.self.inside.rows.items c.self.inside.count c.self.invariant.dated c.self.invariant.bounded in
    let most = c.self.invariant.few in
    let short = c.self.invariant.grouped.few in
    let same = ap length c.as_slice-2.ensures.value in
    omega (arith, few, most, short, same)

pub returns : goal.returns
returns g c =
    let now = c.args.self.now in
    let past : ℕ → Bool = λ p. g.A.Ancestors.ancestor c.args.ancestors.now p c.args.position in
    let groups = subst (λ (s : State). AreGroupsOf s.shapes s.inserted c.self.inside.groups) c.self.view_is c.self.invariant.grouped in
    let layered = subst (λ (s : State). are_layered (rules_of_state s) (done_in s).inserted ≡ true) c.self.view_is c.self.invariant.layered in
    let sized = groups.sized c.requires.keeps in
    record {
      causes = c.in_ok-causes.ensures;
      shown = (
        c.in_ok-shown.ensures.each ∙ ap length c.as_slice-2.ensures.value ∙ sized,
        (λ table column place value kept found.
            c.in_ok-shown.ensures.counts place
            ∙ (λ i. count_to (λ k. (get_or (c.as_slice.ensures.value i) k 0 == 0) && (get_or (c.as_slice-2.ensures.value i) k 0 == place)) (length (c.as_slice-2.ensures.value i)))
            ∙ shown_is now past layered c.requires.layered (sym (grounded_is (rules_of_state now) _) ∙ c.requires.grounded) table column value c.self.inside.groups.numbers.items c.in_ok-causes.causes.items groups.grouped sized c.in_ok-causes.ensures.1 place kept found),
      );
    }
