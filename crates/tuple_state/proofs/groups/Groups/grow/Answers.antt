use Rattle.std.proofs.Common.{◌≡◌, ℕ, ◌+◌, ◌++◌, ◌∷◌, true, List, [], Option, None, length, take, refl, sym, ap, ◌∙◌, length-append, arith}
use Rattle.std.proofs.lemmas.List.{append-nil, take_all}
use Rattle.std.proofs.lemmas.Result.{err_from_is_err_and}
use Rattle.tuple_state.specs.Grouped.{group_at}
use Rattle.tuple_state.specs.State.{keep_any}
use Rattle.tuple_state.specs.Values.{first_of}
use Rattle.tuple_state.proofs.Gathering.{first_there, groups_at, groups_more, groups_moved, groups_plain, length_so_far, one_further, take_before}
use Rattle.tuple_state.proofs.groups.Groups.grow.Goals as goal

pub returns-then-not-keep_any : goal.returns-then-not-keep_any
returns-then-not-keep_any c = groups_plain c.requires.groups c.args.inserted.now (sym c.keep_any.ensures ∙ c.if-not-keep_any.true)

pub returns-in_err-reserve : goal.returns-in_err-reserve
returns-in_err-reserve c =
    let p = err_from_is_err_and c.from_residual.result c.from_residual.ensures.1 in
    rw p.1
    (groups_moved c.requires.groups c.reserve.new.self (λ key. ap (λ v. first_of v key) c.reserve.ensures.values) c.reserve.ensures.numbers (ap length c.reserve.ensures.least) (ap length c.reserve.ensures.nexts))

pub loop-number-init : goal.loop-number-init
loop-number-init c =
    let keeps : keep_any c.args.shapes.now ≡ true = sym c.keep_any.ensures ∙ c.if-not-keep_any.false in
    let sized = c.requires.groups.sized keeps in
    let spare = c.requires.groups.spare in
    let threaded = c.requires.groups.threaded in
    let a = ap length c.reserve.ensures.numbers in
    let b = ap length c.reserve.ensures.least in
    let d = ap length c.reserve.ensures.nexts in
    record {
      groups = groups_at refl (sym (append-nil c.args.rows.now)) (groups_moved c.requires.groups c.reserve.new.self (λ key. ap (λ v. first_of v key) c.reserve.ensures.values) c.reserve.ensures.numbers b d);
      most = omega arith;
      numbers = omega (arith, a, sized);
      least = omega (arith, b, spare, sized);
      nexts = omega (arith, d, threaded, sized);
      room = omega (arith, c.in_ok-reserve.ensures.room, sized);
      space = omega (arith, c.in_ok-reserve.ensures.space, spare, sized);
      way = omega (arith, c.in_ok-reserve.ensures.way, threaded, sized);
    }

pub group_at-group-requires : goal.group_at-group-requires
group_at-group-requires c =
    let keeps : keep_any c.args.shapes.now ≡ true = sym c.keep_any.ensures ∙ c.if-not-keep_any.false in
    let are = c.loop-number.invariant.groups in
    rw c.as_slice.ensures.value (first_there are keeps c.index-inserted-number.result c.in-Ok.first (c.in-Ok.ensures.first (c.args.rows.now ++ take c.loop-number.number c.args.inserted.now) (are.firsts keeps)))

pub loop-number-preserved : goal.loop-number-preserved
loop-number-preserved c =
    let keeps : keep_any c.args.shapes.now ≡ true = sym c.keep_any.ensures ∙ c.if-not-keep_any.false in
    let rows = c.args.rows.now in
    let inserted = c.args.inserted.now in
    let n = c.loop-number.number in
    let low = c.loop-number-test.true in
    let row = c.index-inserted-number.result in
    let so_far = rows ++ take n inserted in
    let are = c.loop-number.invariant.groups in
    let long = length_so_far rows inserted n (omega (arith, low)) in
    let at : length rows + n ≡ length so_far = omega (arith, long) in
    let a = ap length c.push_reserved.ensures.items ∙ length-append c.loop-number.self.numbers.items (c.group_at-group.result ∷ []) in
    let b = ap length c.push_reserved-in-Ok.ensures.items ∙ length-append {A = Option ℕ} c.loop-number.self.least.items (None ∷ []) in
    let d = ap length c.push_reserved-in-Ok-2.ensures.items ∙ length-append {A = ℕ} c.loop-number.self.nexts.items (0 ∷ []) in
    record {
      groups = groups_at refl (one_further rows inserted n row (omega (arith, low)) c.index-inserted-number.is)
          (groups_more are keeps row c.in-Ok.first (c.in-Ok.ensures.first so_far (are.firsts keeps)) _ c.group_at-group.result (length rows + n) (c.in-Ok.ensures.known so_far (sym at) (are.firsts keeps)) at
          (c.group_at-group.ensures ∙ ap (λ (l : List ℕ). group_at l c.in-Ok.first (length rows + n)) c.as_slice.ensures.value) c.push_reserved.ensures.items b d);
      most = omega (arith, low);
      numbers = omega (arith, a, c.loop-number.invariant.numbers);
      least = omega (arith, b, c.loop-number.invariant.least);
      nexts = omega (arith, d, c.loop-number.invariant.nexts);
      room = omega (arith, c.push_reserved.ensures.capacity, c.loop-number.invariant.room);
      space = omega (arith, c.push_reserved-in-Ok.ensures.capacity, c.loop-number.invariant.space);
      way = omega (arith, c.push_reserved-in-Ok-2.ensures.capacity, c.loop-number.invariant.way);
    }

pub returns-in-Err : goal.returns-in-Err
returns-in-Err c =
    let rows = c.args.rows.now in
    let front = take c.loop-number.number c.args.inserted.now in
    groups_at refl (take_before rows front)
    (c.cut.ensures c.args.shapes.now (rows ++ front) (groups_moved c.loop-number.invariant.groups _ c.in-Err.ensures.same refl refl refl))

pub returns : goal.returns
returns c =
    groups_at refl (ap (λ (l : List _). c.args.rows.now ++ l) (take_all c.loop-number.number c.args.inserted.now (omega (arith, c.loop-number-test.false)))) c.loop-number.invariant.groups
