use Rattle.std.proofs.Common.{◌≡◌, ◌+◌, ℕ, List, Option, cond, get_or, length, sym, subst, ap, ◌∙◌, arith}
use Rattle.std.specs.Prelude.{is_some, slice_get}
use Rattle.table_model.specs.Counts.{one_where}
use Rattle.tuple_state.specs.Causes.{absent_times}
use Rattle.tuple_state.specs.Least.{AreLeast, is_behind, is_in}
use Rattle.tuple_state.specs.declared.inserted.Inserted.{Inserted}
use Rattle.tuple_state.specs.declared.shape.Shape.{Shape}
use Rattle.tuple_state.proofs.Marking.{slice_get_from}
use Rattle.tuple_state.proofs.Settles.{count_more, kept_at, settled_all, settled_few, settled_first, settled_next}
use Rattle.tuple_state.proofs.settling.settle_tables.Goals as goal

pub loop-table-init : goal.loop-table-init
loop-table-init c = settled_first c.args.grounds.now.shapes.now c.args.grounds.now.rows.now c.args.grounds.now.children.now c.requires.rising c.requires.level c.args.causes.now c.requires.each

pub count_in-requires-clause-few : goal.count_in-requires-clause-few
count_in-requires-clause-few c k =
    let few = settled_few c.args.grounds.now.shapes.now c.args.grounds.now.rows.now c.args.grounds.now.children.now c.requires.rising c.requires.level c.args.causes.now c.requires.each c.loop-table.table c.loop-table.causes (c.loop-table.auto.causes ∙ c.requires.each) c.loop-table.invariant k in
    let most = c.requires.few k in
    omega (arith, few, most)

pub count_passed-requires-clause-few : goal.count_passed-requires-clause-few
count_passed-requires-clause-few c k =
    let rows = c.args.grounds.now.rows.now in
    let links = c.args.grounds.now.children.now in
    let few = settled_few c.args.grounds.now.shapes.now rows links c.requires.rising c.requires.level c.args.causes.now c.requires.each c.loop-table.table c.loop-table.causes (c.loop-table.auto.causes ∙ c.requires.each) c.loop-table.invariant k in
    let most = c.requires.few k in
    let more = count_more rows links c.members_of-members.result.table k (get_or c.count_in.new.causes k 0) (get_or c.loop-table.causes k 0) c.count_in.new.causes (c.count_in.ensures k) in
    omega (arith, few, most, more)

pub loop-table-preserved : goal.loop-table-preserved
loop-table-preserved c =
    let shapes = c.args.grounds.now.shapes.now in
    let rows = c.args.grounds.now.rows.now in
    let links = c.args.grounds.now.children.now in
    let groups = c.args.groups.now in
    let table = c.loop-table.table in
    let counted = c.count_in.new.causes in
    let least = c.count_passed.new.least in
    let shape = c.index-grounds-table.result in
    let kept = kept_at shapes table shape (slice_get_from shapes table shape c.loop-table-test.true c.index-grounds-table.is) in
    let own = c.members_of-members.ensures.table in
    let all = c.members_of-members.ensures.rows in
    settled_next shapes rows links c.requires.rising c.requires.level c.args.causes.now c.requires.each table c.loop-table.causes counted c.loop-table.invariant
    (λ k. c.count_in.ensures k ∙ ap (λ (t : ℕ). get_or c.loop-table.causes k 0 + cond (is_in t (slice_get rows k)) (absent_times links counted k) 0) own)
    groups least c.count_passed.new.causes c.requires.grouped c.requires.all shape.kept kept c.is_some-keeps.result (c.is_some-keeps.ensures ∙ ap (λ (x : Shape). is_some x.kept) (sym c.index-grounds-table.is))
    (λ keeps. least_same c.members_of-members.result.rows.now rows counted groups c.members_of-members.result.table table least own all (c.count_passed.ensures.least keeps))
    (λ keeps k. c.count_passed.ensures.behind keeps k ∙ (λ i. get_or counted k 0 + one_where (is_behind (all i) groups least (own i) k (slice_get (all i) k))))
    c.count_passed.ensures.plain
  where
    least_same : (rows others : List Inserted) (causes groups : List ℕ) (table number : ℕ) (least : List (Option ℕ)) → table ≡ number → rows ≡ others → AreLeast rows causes groups table (length rows) least → AreLeast others causes groups number (length others) least
    least_same rows others causes groups table number least is are h =
        subst (λ (l : List Inserted). AreLeast l causes groups number (length l) least) are (subst (λ (t : ℕ). AreLeast rows causes groups t (length rows) least) is h)

pub returns : goal.returns
returns c =
    settled_all c.args.grounds.now.shapes.now c.args.grounds.now.rows.now c.args.grounds.now.children.now c.requires.rising c.requires.level c.args.causes.now c.requires.each c.loop-table.table c.loop-table.causes (c.loop-table.auto.causes ∙ c.requires.each) c.loop-table-test.false c.loop-table.invariant
