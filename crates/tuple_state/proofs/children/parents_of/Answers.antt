use Rattle.std.proofs.Common.{◌≡◌, ◌≤◌, ◌+◌, ◌++◌, [], ap, arith, length, take, refl, subst, sym, ◌∙◌}
use Rattle.std.proofs.lemmas.List.{append-nil}
use Rattle.tuple_state.specs.Causes.{ends_from, parents_from}
use Rattle.tuple_state.specs.Parents.{names_in}
use Rattle.tuple_state.specs.State.{rules_over}
use Rattle.tuple_state.specs.declared.inserted.Inserted.{Inserted}
use Rattle.tuple_state.proofs.Adding.{parents_step}
use Rattle.tuple_state.proofs.Dropping.{columns_found}
use Rattle.tuple_state.proofs.Marking.{columns_past}
use Rattle.tuple_state.proofs.Spans.{ends_step}
use Rattle.tuple_state.proofs.children.parents_of.Goals as goal
use Rattle.tuple_state.proofs.children.parents_of.Goals.{in-Some+in_ok-push_names, in_default}

pub loop-number-init : goal.loop-number-init
unfolding ends_from parents_from
loop-number-init c = record { names = c.new-names.ensures.items; ends = c.in_ok-ends.ensures.items; len = c.in_ok-ends.ensures.len; room = omega (arith, c.in_ok-ends.ensures.capacity) }

pub loop-number-preserved : goal.loop-number-preserved
loop-number-preserved c =
    let rules = rules_over c.args.shapes.now in
    let rows = c.args.rows.now in
    let n = c.loop-number.number in
    let it = c.index-rows-number.result in
    let table = c.from.ensures ∙ ap (λ (x : Inserted). x.entry.table) (sym c.index-rows-number.is) in
    let names : c.match-get.names.items ≡ parents_from rules c.args.first (take (n + 1) rows) = elim c.match-get.branch [
      | in-Some+in_ok-push_names w ↦
          let list = columns_found c.args.shapes.now c.args.shapes.now c.from.result it.entry.table w.in-Some.shape.now refl table w.in-Some.ensures.lookup.3.0 w.in-Some.ensures.lookup.1 in
          let values : w.as_slice-in-Some.result.now ≡ it.entry.values = w.as_slice-in-Some.ensures ∙ ap (λ (x : Inserted). x.entry.values) (sym c.index-rows-number.is) in
          ap (λ v. v.items) w.names-is ∙ w.in_ok-push_names.ensures
          ∙ (λ i. c.loop-number.names.items ++ names_in (c.args.first + n) (w.as_slice.ensures i) (values i))
          ∙ parents_step c.args.shapes.now c.args.first rows n it c.loop-number.names.items w.in-Some.shape.now.columns c.loop-number-test.true c.index-rows-number.is c.loop-number.invariant.names list
      | in_default w ↦
          let past = columns_past c.args.shapes.now it.entry.table (subst (λ n. length c.args.shapes.now ≤ n) table w.in_default.ensures.lookup.3) in
          ap (λ v. v.items) w.names-is ∙ sym (append-nil c.loop-number.names.items)
          ∙ parents_step c.args.shapes.now c.args.first rows n it c.loop-number.names.items [] c.loop-number-test.true c.index-rows-number.is c.loop-number.invariant.names past
    ] in
    let count = ap length names in
    let end : c.args.from + c.len.result ≡ c.args.from + length (parents_from rules c.args.first (take (n + 1) rows)) = omega (arith, count, c.len.ensures) in
    record {
      names = names;
      ends = c.push_reserved.ensures.items ∙ ends_step rules c.args.first c.args.from rows n it c.loop-number.ends.items (c.args.from + c.len.result) c.loop-number-test.true c.index-rows-number.is c.loop-number.invariant.ends end;
      len = omega (arith, c.push_reserved.ensures.len);
      room = omega (arith, c.push_reserved.ensures.capacity);
    }
