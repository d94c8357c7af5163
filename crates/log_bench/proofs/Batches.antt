-- The batches of a list of members.
use Rattle.std.proofs.Common.{◌≡◌, ◌∙◌, ℕ, ◌+◌, true, List, ◌++◌, map, take, drop, sym, ap, subst, All, arith}
use Rattle.std.proofs.lemmas.List.{drop-take, take-append-drop, take-take}
use Rattle.update_model.specs.Graph.{IsClosed, is_within}
use Rattle.update_model.specs.Rule.{RuleData}
use Rattle.update_codec.specs.Parts.{entry_of}
use Rattle.update_check.specs.Members.{AreMembers}
use Rattle.update_check.specs.Signed.{IsChecked}
use Rattle.update_check.proofs.Fronts.{members_front}
use Rattle.update_log.specs.Log.{LogState, IsLogOf, IsNextBatch}

-- a front, and what stands next
pub front_and_next : {X : Type 0} (n m : ℕ) (xs : List X) → take n xs ++ take m (drop n xs) ≡ take (n + m) xs
front_and_next {X} n m xs =
    ap (λ (l : List X). take n xs ++ l) (sym (drop-take n m xs)) ∙ ap (λ (l : List X). l ++ drop n (take (n + m) xs)) (sym (take-take n (n + m) xs (omega arith)))
    ∙ take-append-drop n (take (n + m) xs)

-- what stands next behind the acknowledged members can be appended
pub next_of : (rule : RuleData) (members : List (List ℕ)) (log : LogState) (held count : ℕ) → All (IsChecked rule) members → IsClosed (map entry_of members)
    → is_within (map entry_of members) ≡ true → IsLogOf (take held members) log → IsNextBatch log (take count (drop held members))
next_of rule members log held count checked closed within is_log =
    let all : AreMembers rule members = record { checked = checked; closed = closed; within = within } in
    let parts : take (held + count) members ++ drop (held + count) members ≡ members = take-append-drop (held + count) members in
    let front = members_front rule (take (held + count) members) (drop (held + count) members) (subst (AreMembers rule) (sym parts) all) in
    (rule, (take held members, is_log, subst (AreMembers rule) (sym (front_and_next held count members)) front))
