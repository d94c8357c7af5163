use Rattle.std.proofs.Common.{◌≡◌, ◌<◌, ◌++◌, ◌&&◌, ℕ, Bool, true, false, not, length, nat_lt, ap, sym, subst, ◌∙◌, Some, arith}
use Rattle.std.specs.Prelude.{slice_get, option_to_list, IfSome}
use Rattle.std.specs.List.{list_all}
use Rattle.std.proofs.lemmas.Bool.{and_from, and_parts, and_right}
use Rattle.std.proofs.lemmas.Bool.Decides.{nat_tests}
use Rattle.table_model.specs.Visible.{is_deleted, is_visible}
use Rattle.table_model.proofs.Founded.{all_weaker}
use Rattle.tuple_state.specs.Parents.{passes_row}
use Rattle.tuple_state.specs.Past.{done_then, row_visible_at, visible_at}
use Rattle.tuple_state.specs.State.{done_in, rules_of_state}
use Rattle.tuple_state.specs.declared.inserted.Inserted.{Inserted}
use Rattle.tuple_state.proofs.Dropping.{row_there}
use Rattle.tuple_state.proofs.Layers.{grounded_is, plain_shapes}
use Rattle.tuple_state.proofs.Linking.{size_of}
use Rattle.tuple_state.proofs.Reaching.{either, hidden_row, is_past, kept_row, next_lower, parents_below, parents_past}
use Rattle.tuple_state.proofs.Walking.{go_on, still, stop}
use Rattle.tuple_state.proofs.at.At.climbs.Goals as goal

same_row_there : (row it : Inserted) → Some row ≡ Some it → row ≡ it
same_row_there row it e = cc

pub returns-then-not-branch : goal.returns-then-not-branch
returns-then-not-branch g c it at =
    let s = c.args.self.now.tables.now in
    let past : ℕ → Bool = λ p. g.A.Ancestors.ancestor c.args.self.now.ancestors.now p c.args.self.now.position in
    let same = same_row_there c.row.result.now it (sym c.row.ensures.row ∙ at) in
    let out : past it.position ≡ false = ap (λ (r : Inserted). past r.position) (sym same) ∙ sym c.in_ok-is_ancestor.ensures ∙ c.if-not-branch.true in
    sym (hidden_row s.shapes s.inserted past (done_then s past).deleted c.args.self.now.founded c.args.self.now.layered (sym (grounded_is (rules_of_state s) _) ∙ c.args.self.now.grounded) c.args.place it at (ap (λ b. b && not (is_deleted (done_then s past) it.name)) out))

pub returns-then-branch : goal.returns-then-branch
returns-then-branch g c it at =
    let s = c.args.self.now.tables.now in
    let past : ℕ → Bool = λ p. g.A.Ancestors.ancestor c.args.self.now.ancestors.now p c.args.self.now.position in
    let t = row_visible_at (g.A.Ancestors.ancestor c.args.self.now.ancestors.now) s c.args.self.now.position in
    let keys = c.loop-next.pending.keys in
    let place = c.in-Some.place in
    let there = (and_parts (nat_lt place (length s.inserted)) _ (sym (ap (λ o. list_all (λ k. nat_lt k (length s.inserted)) (option_to_list o ++ keys)) c.in-Some.is) ∙ c.loop-next.invariant.there)).0 in
    let below : place < length s.inserted = grind (arith, nat_tests) in
    let row = row_there s.inserted place below in
    let gone = sym (c.in_ok-is_deleted_at.ensures row.0 row.1) ∙ c.if-branch.true in
    stop t keys place _ _ (c.loop-next.invariant.same it at ∙ ap (λ o. list_all t (option_to_list o ++ keys)) c.in-Some.is)
    (ap (passes_row (visible_at (g.A.Ancestors.ancestor c.args.self.now.ancestors.now) s c.args.self.now.position)) row.1)
    (hidden_row s.shapes s.inserted past (done_then s past).deleted c.args.self.now.founded c.args.self.now.layered (sym (grounded_is (rules_of_state s) _) ∙ c.args.self.now.grounded) place row.0 row.1 (and_right (past row.0.position) _ (ap not gone)))

pub loop-next-smaller : goal.loop-next-smaller
loop-next-smaller g c =
    let s = c.args.self.now.tables.now in
    let past : ℕ → Bool = λ p. g.A.Ancestors.ancestor c.args.self.now.ancestors.now p c.args.self.now.position in
    let keys = c.loop-next.pending.keys in
    let place = c.in-Some.place in
    let there = (and_parts (nat_lt place (length s.inserted)) _ (sym (ap (λ o. list_all (λ k. nat_lt k (length s.inserted)) (option_to_list o ++ keys)) c.in-Some.is) ∙ c.loop-next.invariant.there)).0 in
    let below : place < length s.inserted = grind (arith, nat_tests) in
    let row = row_there s.inserted place below in
    let before = subst (λ o. IfSome o (λ k. list_all (λ q. nat_lt q k) keys ≡ true)) c.in-Some.is c.loop-next.invariant.last in
    let lower = still _ _ _ _ before (parents_below s.shapes s.inserted past (done_then s past).deleted c.args.self.now.founded c.args.self.now.layered (sym (grounded_is (rules_of_state s) _) ∙ c.args.self.now.grounded) place row.0 row.1) (c.in_ok-next.ensures.each row.0 row.1 (λ k. nat_lt k place)) in
    let less = next_lower c.in_ok-next.next c.climb.new.pending.keys place lower in
    let size = ap size_of c.in-Some.is in
    omega (arith, less, size)

pub loop-next-preserved : goal.loop-next-preserved
loop-next-preserved g c =
    let s = c.args.self.now.tables.now in
    let past : ℕ → Bool = λ p. g.A.Ancestors.ancestor c.args.self.now.ancestors.now p c.args.self.now.position in
    let vis = visible_at (g.A.Ancestors.ancestor c.args.self.now.ancestors.now) s c.args.self.now.position in
    let t = row_visible_at (g.A.Ancestors.ancestor c.args.self.now.ancestors.now) s c.args.self.now.position in
    let in_past : ℕ → Bool = λ k. is_past past (slice_get s.inserted k) in
    let keys = c.loop-next.pending.keys in
    let left = option_to_list c.in_ok-next.next ++ c.climb.new.pending.keys in
    let place = c.in-Some.place in
    let there = (and_parts (nat_lt place (length s.inserted)) _ (sym (ap (λ o. list_all (λ k. nat_lt k (length s.inserted)) (option_to_list o ++ keys)) c.in-Some.is) ∙ c.loop-next.invariant.there)).0 in
    let below : place < length s.inserted = grind (arith, nat_tests) in
    let row = row_there s.inserted place below in
    let inside = and_parts (in_past place) (list_all in_past keys) (sym (ap (λ o. list_all in_past (option_to_list o ++ keys)) c.in-Some.is) ∙ c.loop-next.invariant.inside) in
    let here : past row.0.position ≡ true = sym (ap (is_past past) row.1) ∙ inside.0 in
    let before = subst (λ o. IfSome o (λ k. list_all (λ q. nat_lt q k) keys ≡ true)) c.in-Some.is c.loop-next.invariant.last in
    let each = c.in_ok-next.ensures.each row.0 row.1 in
    let lower : list_all (λ k. nat_lt k place) left ≡ true =
    still _ _ _ _ before (parents_below s.shapes s.inserted past (done_then s past).deleted c.args.self.now.founded c.args.self.now.layered (sym (grounded_is (rules_of_state s) _) ∙ c.args.self.now.grounded) place row.0 row.1) (each (λ k. nat_lt k place)) in
    let kept = sym (c.in_ok-is_deleted_at.ensures row.0 row.1) ∙ c.if-branch.false in
    let shown = either (is_visible (rules_of_state s) (done_in s) row.0.name) (vis row.0.name) _ (c.args.self.now.lasting c.requires.plain place row.0 row.1 here)
    (kept_row s.shapes s.inserted past (done_then s past).deleted c.args.self.now.founded c.args.self.now.layered (sym (grounded_is (rules_of_state s) _) ∙ c.args.self.now.grounded) place row.0 row.1 (plain_shapes s.shapes c.requires.plain row.0.entry.table) (and_from _ _ here (ap not kept))) in
    record {
      there = all_weaker (λ k. nat_lt k place) (λ k. nat_lt k (length s.inserted)) (λ k e. grind (arith, nat_tests)) left lower;
      inside = still _ _ _ _ inside.1 (parents_past s.shapes s.inserted past (done_then s past).deleted c.args.self.now.founded c.args.self.now.layered (sym (grounded_is (rules_of_state s) _) ∙ c.args.self.now.grounded) place row.0 row.1 here) (each in_past);
      last = c.in_ok-next.ensures.last;
      done = c.in_ok-next.ensures.done;
      same = λ it at.
          go_on t keys place _ _ (c.loop-next.invariant.same it at ∙ ap (λ o. list_all t (option_to_list o ++ keys)) c.in-Some.is) (ap (passes_row vis) row.1) _ _ shown (each t);
    }
