use Rattle.std.proofs.Common.{◌≡◌, ◌+◌, ◌≤◌, ℕ, List, [], ap, length, true, subst, sym, ◌∙◌, inl, inr, arith}
use Rattle.std.proofs.lemmas.List.{nil_from_length}
use Rattle.std.specs.Prelude.{count_by, slice_index_or, ◌==◌}
use Rattle.std.specs.Vec.{vec_capacity, vec_len}
use Rattle.std.proofs.lemmas.Bool.{both_ways, eq-eqb, eqb-true}
use Rattle.std.proofs.lemmas.List.Sums.{count_by-le-length}
use Rattle.tuple_state.specs.Causes.{Raised, absent_times, are_below, pending_times}
use Rattle.tuple_state.specs.Links.{is_of}
use Rattle.tuple_state.specs.declared.links.Link.{Link}
use Rattle.tuple_state.proofs.Adding.{nothing_deleted, spread_out}
use Rattle.tuple_state.proofs.Raising.{absent_fewer}
use Rattle.tuple_state.proofs.causes.add_causes.Goals as goal

pub raise_all-requires-clause-few : goal.raise_all-requires-clause-few
raise_all-requires-clause-few c k =
    let more = c.count_numbers.ensures k in
    let fewer = absent_fewer c.as_slice.result.now c.count_numbers.new.causes k in
    let few = c.requires.few k in
    let refs = ap (λ (l : List Link). count_by (λ link. link.number == k) l) c.as_slice.ensures.value in
    let names = ap (λ (l : List Link). count_by (is_of k) l) c.as_slice-then-not-is_empty.ensures.value in
    omega (arith, more, fewer, few, refs, names)

pub spread-requires-clause-inside : goal.spread-requires-clause-inside
spread-requires-clause-inside c =
    let grew = c.raise_all.ensures.raised [] in
    let none : are_below (length c.count_numbers.new.causes) c.args.pending.now.items ≡ true = ap (are_below (length c.count_numbers.new.causes)) c.requires.idle in
    subst (λ n. are_below n c.raise_all.new.pending.items ≡ true) (sym grew.each) (grew.inside none)

pub spread-requires-clause-few : goal.spread-requires-clause-few
spread-requires-clause-few c k =
    let links = c.args.children.now.links in
    let grew = c.raise_all.ensures.raised links in
    let count = grew.count k in
    let owes = grew.owes k in
    let none : pending_times links c.args.pending.now.items k ≡ 0 = ap (λ (l : List ℕ). pending_times links l k) c.requires.idle in
    let absent = absent_fewer links c.raise_all.new.causes k in
    let more = c.count_numbers.ensures k in
    let fewer = absent_fewer c.as_slice.result.now c.count_numbers.new.causes k in
    let few = c.requires.few k in
    let refs = ap (λ (l : List Link). count_by (λ link. link.number == k) l) c.as_slice.ensures.value in
    let names = ap (λ (l : List Link). count_by (is_of k) l) c.as_slice-then-not-is_empty.ensures.value in
    omega (arith, count, owes, none, absent, more, fewer, few, refs, names)

pub spread-requires-clause-room : goal.spread-requires-clause-room
spread-requires-clause-room c =
    let grew = c.raise_all.ensures.raised [] in
    let few = count_by-le-length (λ n. n == 0) c.count_numbers.new.causes in
    let idle : length c.args.pending.now.items ≡ 0 = ap length c.requires.idle in
    let room : length c.args.causes.now ≤ vec_capacity c.args.pending.now = elim c.requires.room [ inl none ↦ absurd (let l = ap length none in let z : vec_len c.args.added.now.dropped ≡ 0 = omega (arith, l) in both_ways _ (sym c.is_empty.ensures ∙ c.if-not-is_empty.true) (eq-eqb _ _ z)) | inr r ↦ r ] in
    omega (arith, grew.work, few, idle, room, c.count_numbers.auto.causes, c.raise_all.ensures.room)

pub returns-then-not-is_empty : goal.returns-then-not-is_empty
returns-then-not-is_empty c known old deleted is rise inside kept =
    let names = c.as_slice-then-not-is_empty.ensures.value in
    let grew = subst (λ (l : List Link). Raised c.args.children.now.links (λ k. count_by (is_of k) l) c.count_numbers.new.causes c.args.pending.now.items c.raise_all.new.causes c.raise_all.new.pending.items) names
    (c.raise_all.ensures.raised c.args.children.now.links) in
    spread_out c.args.children.now.links old c.args.added.now.parents.items deleted c.args.added.now.dropped.items known (length c.args.causes.now) c.args.causes.now c.count_numbers.new.causes is rise inside kept
    (λ k. c.count_numbers.ensures k ∙ ap (λ (l : List Link). slice_index_or c.args.causes.now k 0 + absent_times l c.count_numbers.new.causes k) c.as_slice.ensures.value)
    c.args.pending.now.items c.raise_all.new.pending.items c.raise_all.new.causes c.spread.new.causes c.requires.idle grew c.spread.ensures

pub returns-else-not-is_empty : goal.returns-else-not-is_empty
returns-else-not-is_empty c known old deleted is rise inside kept =
    nothing_deleted c.args.children.now.links old c.args.added.now.parents.items deleted c.args.added.now.dropped.items known (length c.args.causes.now) c.args.causes.now c.count_numbers.new.causes is rise inside kept
    (λ k. c.count_numbers.ensures k ∙ ap (λ (l : List Link). slice_index_or c.args.causes.now k 0 + absent_times l c.count_numbers.new.causes k) c.as_slice.ensures.value)
    (nil_from_length c.args.added.now.dropped.items (let none = sym c.is_empty.ensures ∙ c.if-not-is_empty.false in let z = eqb-true _ _ none in omega (arith, z)))
