use Rattle.std.proofs.Common.{◌+◌, ap, ◌∙◌, ◌<◌, ◌≡◌, ℕ, Some, arith}
use Rattle.std.specs.BTreeMap.{get}
use Rattle.update_model.specs.declared.row_name.RowName.{RowName}
use Rattle.table_model.specs.Tables.{name_cmp}
use Rattle.tuple_state.specs.Links.{are_inside}
use Rattle.tuple_state.proofs.Deleting.{links_inside}
use Rattle.tuple_state.proofs.deleters.grow_links.Goals as goal

pub grow-requires : goal.grow-requires
grow-requires c =
    let size = c.requires.children in
    let inside : (name : RowName) (k : ℕ) → get name_cmp c.args.places.now name ≡ Some k → k < c.args.children.now.size + c.args.more = λ name k at. let lt = c.requires.inside name k at in omega (arith, lt, size) in
    record {
      inside = ap (are_inside (c.args.children.now.size + c.args.more)) c.as_slice.ensures.value
          ∙ links_inside (get name_cmp c.args.places.now) (c.args.children.now.size + c.args.more) c.in_ok-parents.parents.items c.args.parents.now c.in_ok-parents.ensures inside;
    }

pub grow-requires-2 : goal.grow-requires-2
grow-requires-2 c =
    let size = c.requires.deleters in
    let inside : (name : RowName) (k : ℕ) → get name_cmp c.args.places.now name ≡ Some k → k < c.args.deleters.now.size + c.args.more = λ name k at. let lt = c.requires.inside name k at in omega (arith, lt, size) in
    record {
      inside = ap (are_inside (c.args.deleters.now.size + c.args.more)) c.as_slice-2.ensures.value
          ∙ links_inside (get name_cmp c.args.places.now) (c.args.deleters.now.size + c.args.more) c.in_ok-dropped.dropped.items c.args.dropped.now c.in_ok-dropped.ensures inside;
    }
