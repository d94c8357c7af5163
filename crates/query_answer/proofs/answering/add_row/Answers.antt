use Rattle.std.proofs.Common.{◌≡◌, ◌∙◌, Bool, true, cond, List, [], ◌∷◌, ◌++◌, ap, map, subst, sym}
use Rattle.update_model.specs.declared.value.Value.{Value}
use Rattle.query.specs.declared.item.Key.{Key}
use Rattle.query_answer.specs.Answers.{LineData, keyed, keys_of}
use Rattle.query_answer.specs.Fronts.{AreApart, Holds, asked_lines}
use Rattle.query_answer.specs.Rows.{row_at, shown_row, told}
use Rattle.query_answer.specs.Values.{is_asked}
use Rattle.query_answer.proofs.answering.add_row.Goals as goal

pub returns-in_ok-add-in-Some : goal.returns-in_ok-add-in-Some
returns-in_ok-add-in-Some g c = λ lists limit all are apart held.
    let query = c.args.query.now in
    let keys = query.keys.items in
    let asked = is_asked g.L.Relation.answer lists query.condition in
    let row = shown_row c.in-Some.row in
    let here = row_at c.args.rows query.table c.args.place in
    let values = c.in_ok-values-in-Some.values.items in
    let found : row ∷ [] ≡ here = c.in-Some.ensures in
    let yes : asked row ≡ true = sym (c.in_ok-is_asked-in-Some.ensures lists are) ∙ c.if-branch.true in
    let same : c.as_slice-keys.result.now ≡ keys = c.as_slice-keys.ensures.value in
    let kept : map told values ≡ keys_of lists keys row = c.in_ok-values-in-Some.ensures lists are ∙ ap (λ (ks : List Key). keys_of lists ks row) same in
    let line : LineData = (row, map told values) in
    let one : asked_lines lists keys asked here ≡ line ∷ [] =
    ap (asked_lines lists keys asked) (sym found)
    ∙ ap (λ (b : Bool). map (keyed lists keys) (cond b (row ∷ []) [])) yes
    ∙ ap (λ (vs : List Value). (row, vs) ∷ []) (sym kept) in
    subst (λ (xs : List LineData). Holds keys limit c.add.new.self (all ++ xs)) (sym one)
    (subst (λ (ks : List Key). Holds ks limit c.add.new.self (all ++ line ∷ [])) same
    (c.in_ok-add-in-Some.ensures limit all
    (subst (λ (ks : List Key). AreApart ks (all ++ line ∷ [])) (sym same) (subst (λ (xs : List LineData). AreApart keys (all ++ xs)) one apart))
    (subst (λ (ks : List Key). Holds ks limit c.args.front.now all) (sym same) held)))
