use Rattle.std.proofs.Common.{sym, ℕ, ◌<◌, ◌≤◌, Bool, subst, ◌∙◌, ◌&&◌}
use Rattle.row_check.specs.declared.cmp.Cmp.TheVariants.{Eq}
use Rattle.row_check.specs.Comparisons.{compares}
use Rattle.row_check.specs.Meaning.{value_at}
use Rattle.table_model.specs.Verdicts.{in_table}
use Rattle.tuple_state.proofs.Counting.{all_counted, no_more, one_more}
use Rattle.tuple_state.proofs.Dropping.{row_there}
use Rattle.tuple_state.specs.State.{rules_of_state}
use Rattle.tuple_state.proofs.Layers.{grounded_is}
use Rattle.tuple_state.proofs.at.At.count_equal.Goals as goal
use Rattle.tuple_state.proofs.at.At.count_equal.Goals.{then-branch, else-branch}

pub loop-place-preserved : goal.loop-place-preserved
loop-place-preserved g c =
    let s = c.args.self.now.tables.now in
    let past : ℕ → Bool = λ p. g.A.Ancestors.ancestor c.args.self.now.ancestors.now p c.args.self.now.position in
    let below = subst (λ n. c.loop-place.place < n) c.row_len-place-end.ensures.len c.loop-place-test.true in
    let row = row_there s.inserted c.loop-place.place below in
    elim c.if-branch.branch [
      | then-branch w ↦ w.count-is
          ∙ one_more s past (λ row. in_table c.args.table row && compares Eq (value_at row.values c.args.column) c.args.value.now) c.args.self.now.founded c.args.self.now.layered (sym (grounded_is (rules_of_state c.args.self.now.tables.now) _) ∙ c.args.self.now.grounded) c.loop-place.place row.0 _ c.loop-place.count row.1 below (c.in_ok-equals_in.ensures row.0 row.1) w.if-branch.true c.loop-place.invariant
      | else-branch w ↦ w.count-is
          ∙ no_more s past (λ row. in_table c.args.table row && compares Eq (value_at row.values c.args.column) c.args.value.now) c.args.self.now.founded c.args.self.now.layered (sym (grounded_is (rules_of_state c.args.self.now.tables.now) _) ∙ c.args.self.now.grounded) c.loop-place.place row.0 _ c.loop-place.count row.1 below (c.in_ok-equals_in.ensures row.0 row.1) w.if-branch.false c.loop-place.invariant
    ]

pub returns : goal.returns
returns g c =
    let s = c.args.self.now.tables.now in
    let past : ℕ → Bool = λ p. g.A.Ancestors.ancestor c.args.self.now.ancestors.now p c.args.self.now.position in
    all_counted s past (λ row. in_table c.args.table row && compares Eq (value_at row.values c.args.column) c.args.value.now) c.loop-place.place c.loop-place.count (subst (λ n. n ≤ c.loop-place.place) c.row_len-place-end.ensures.len c.loop-place-test.false) c.loop-place.invariant
