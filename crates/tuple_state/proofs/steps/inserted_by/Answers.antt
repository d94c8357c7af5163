use Rattle.std.proofs.Common.{◌≡◌, ◌++◌, [], ◌∷◌, List, length, append_assoc, length-append, ap, sym, ◌∙◌, arith}
use Rattle.std.specs.Vec.Iter.{into_iter_items}
use Rattle.std.proofs.lemmas.List.{append-nil, nil_from_length}
use Rattle.update_model.specs.Node.{NodeData}
use Rattle.update_model.specs.declared.op.Op.{Op}
use Rattle.tuple_state.specs.declared.inserted.Inserted.{Inserted}
use Rattle.tuple_state.specs.Steps.{row_made, rows_by}
use Rattle.tuple_state.proofs.Stepping.{made_of, rows_all, rows_more, rows_same}
use Rattle.tuple_state.proofs.steps.inserted_by.Goals as goal

pub loop-op-init : goal.loop-op-init
unfolding rows_by
loop-op-init c = record {
  rows = c.new-rows.ensures.items;
  count = omega arith;
  whole = c.into_iter-op-iterator.ensures.into_iter_gives.0 ∙ c.into_vec-op-items.ensures;
}

pub overflow_add-number : goal.overflow_add-number
overflow_add-number c =
    let next = c.in-Some.ensures.steps.0 in
    let len = ap length c.loop-op.invariant.whole in
    let rest = ap length next in
    let split = length-append c.loop-op.yielded (into_iter_items c.loop-op.op-iterator) in
    omega (arith, len, rest, split, c.loop-op.invariant.count, c.node.invariant)

pub loop-op-preserved : goal.loop-op-preserved
loop-op-preserved c =
    let so = c.loop-op.invariant in
    let made = made_of c.node.inside.id c.node.inside.author in
    let row : List Inserted → List Inserted = λ l. l ++ row_made c.args.position c.node.inside.id c.node.inside.author c.loop-op.number c.in-Some.op in
    record {
      rows = c.in_ok-add_row.ensures ∙ ap row so.rows
          ∙ ap (λ n. rows_by c.args.position made 0 c.loop-op.yielded ++ row_made c.args.position c.node.inside.id c.node.inside.author n c.in-Some.op) (omega (arith, so.count))
          ∙ sym (rows_more c.args.position made 0 c.loop-op.yielded c.in-Some.op);
      count = let len = length-append c.loop-op.yielded (c.in-Some.op ∷ []) in omega (arith, so.count, len);
      whole = append_assoc c.loop-op.yielded (c.in-Some.op ∷ []) (into_iter_items c.next.new.self) ∙ ap (λ (l : List Op). c.loop-op.yielded ++ l) (sym c.in-Some.ensures.steps.0) ∙ so.whole;
    }

pub returns : goal.returns
returns c =
    let so = c.loop-op.invariant in
    let none = nil_from_length (into_iter_items c.loop-op.op-iterator) (let e = c.in-None.ensures.steps.0 in omega (arith, e)) in
    let all : c.loop-op.yielded ≡ c.args.node.ops =
    sym (append-nil c.loop-op.yielded) ∙ ap (λ (l : List Op). c.loop-op.yielded ++ l) (sym none) ∙ so.whole ∙ ap (λ (n : NodeData). n.ops) c.node.view_is in
    so.rows ∙ ap (λ (l : List Op). rows_by c.args.position (made_of c.node.inside.id c.node.inside.author) 0 l) all
    ∙ rows_same c.args.position (made_of c.node.inside.id c.node.inside.author) c.args.node 0 c.args.node.ops (ap (λ (n : NodeData). n.id) c.node.view_is) (ap (λ (n : NodeData). n.author) c.node.view_is)
    ∙ rows_all c.args.position c.args.node
