use Rattle.std.proofs.Common.{◌≡◌, ◌<◌, ℕ, Bool, true, List, length, sym, ◌∙◌, Some, None, arith}
use Rattle.std.specs.List.{position_from}
use Rattle.std.proofs.lemmas.Bool.{true_from_ne_false}
use Rattle.tuple_state.specs.State.{keep_any, rules_of_state}
use Rattle.tuple_state.specs.Values.{has_at}
use Rattle.tuple_state.proofs.Grouping.{some_kept}
use Rattle.tuple_state.proofs.Layers.{grounded_is}
use Rattle.tuple_state.proofs.Linking.{default_free}
use Rattle.tuple_state.proofs.Lookups.{found_at}
use Rattle.tuple_state.proofs.Tallying.{none_shown}
use Rattle.tuple_state.proofs.at.At.shown_with.Goals as goal

pub index-requires : goal.index-requires
index-requires g c =
    let s = c.args.self.now.tables.now in
    let keeps : keep_any s.shapes ≡ true = true_from_ne_false _ (λ plain. some_kept s.shapes c.args.table c.args.column plain c.requires) in
    let long = (c.args.self.now.counted keeps).shown.0 in
    let found : position_from (has_at c.args.table c.args.column c.args.value.now) 0 s.inserted ≡ Some c.in-Some.place = sym (c.in_ok-place.ensures c.args.column c.requires) ∙ c.in-Some.is in
    let first = found_at (has_at c.args.table c.args.column c.args.value.now) 0 s.inserted c.in-Some.place found in
    omega (arith, first.is, first.below, long)

pub returns-in-Some : goal.returns-in-Some
returns-in-Some g c =
    let s = c.args.self.now.tables.now in
    let keeps : keep_any s.shapes ≡ true = true_from_ne_false _ (λ plain. some_kept s.shapes c.args.table c.args.column plain c.requires) in
    let known = (c.args.self.now.counted keeps).shown in
    let found : position_from (has_at c.args.table c.args.column c.args.value.now) 0 s.inserted ≡ Some c.in-Some.place = sym (c.in_ok-place.ensures c.args.column c.requires) ∙ c.in-Some.is in
    let first = found_at (has_at c.args.table c.args.column c.args.value.now) 0 s.inserted c.in-Some.place found in
    let long = known.0 in
    c.index.ensures ∙ default_free c.args.self.now.known.shown.items c.in-Some.place c.index.result.now 0 (omega (arith, first.is, first.below, long))
    ∙ known.1 c.args.table c.args.column c.in-Some.place c.args.value.now c.requires found

pub returns-in-None : goal.returns-in-None
returns-in-None g c =
    let at = c.args.self.now in
    let s = at.tables.now in
    let past : ℕ → Bool = λ p. g.A.Ancestors.ancestor at.ancestors.now p at.position in
    none_shown s past at.founded at.layered (sym (grounded_is (rules_of_state s) _) ∙ at.grounded) c.args.table c.args.column c.args.value.now (sym (c.in_ok-place.ensures c.args.column c.requires) ∙ c.in-None.is)
