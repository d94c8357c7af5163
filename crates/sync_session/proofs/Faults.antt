-- Faults of an Item.
use Rattle.std.proofs.Common.{◌≡◌, ℕ, ◌<◌, Bool, if◌then◌else◌, List, [], ◌∷◌, length, get_or, Some, None, sym, ap, subst, ◌∙◌, arith, lt-ltb, bytes_eq}
use Rattle.std.proofs.lemmas.Map.Text.{is_eq-slice_cmp}
use Rattle.update_model.specs.declared.update_id.UpdateId.{UpdateId}
use Rattle.update_model.specs.Entry.{same_id}
use Rattle.session_rules.specs.declared.peer_fault.PeerFault.TheVariants.{OutOfTurn, Unanswered}
use Rattle.session_rules.specs.declared.limits.TheConstants.{MAX_ITEMS}
use Rattle.session_rules.specs.State.{Answers}
use Rattle.session_rules.specs.Steps.{takes_item, answer_fault}

-- where an update has to come
pub due_fault_is : (ids : List UpdateId) (items : ℕ) (id first : UpdateId) (same : Bool) → 0 < length ids → first ≡ get_or ids 0 first → items < MAX_ITEMS → same_id first id ≡ same
    → (if takes_item (Answers ids) items then answer_fault (Answers ids) id else Some OutOfTurn) ≡ (if same then None else Some (Unanswered first))
due_fault_is [] items id first same some is few e = absurd (omega arith)
due_fault_is (x ∷ xs) items id first same some is few e =
    let test : same_id x id ≡ same = subst (λ (y : UpdateId). same_id y id ≡ same) is e in
    rw (lt-ltb items MAX_ITEMS few, test) (ap (λ (y : UpdateId). if same then None else Some (Unanswered y)) (sym is))

-- the derived comparison of ids is that of their bytes
pub same_from_eq : (a b : UpdateId) (r t : Bool) → r ≡ bytes_eq a.0 b.0 → r ≡ t → same_id a b ≡ t
same_from_eq a b r t e f = is_eq-slice_cmp a.0 b.0 ∙ sym e ∙ f
