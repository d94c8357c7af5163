-- The front of a list of members.
use Rattle.std.proofs.Common.{◌≡◌, ℕ, true, List, [], ◌∷◌, ◌++◌, length, map, subst, ◌∙◌, sym, ap, All, length-append, arith}
use Rattle.std.proofs.lemmas.List.{map-append}
use Rattle.std.proofs.lemmas.List.Elements.{All-cons, All-head, All-nil, All-tail}
use Rattle.std.proofs.lemmas.List.Sums.{sum_by-append}
use Rattle.std.proofs.lemmas.Bool.Decides.{nat_tests}
use Rattle.update_model.specs.Entry.{Entry}
use Rattle.update_model.specs.Graph.{IsClosed, is_within}
use Rattle.update_model.specs.Rule.{RuleData}
use Rattle.update_model.proofs.Closed.{Follows-front}
use Rattle.update_codec.specs.Parts.{entry_of}
use Rattle.update_check.specs.Members.{AreMembers}
use Rattle.update_check.specs.Signed.{IsChecked}

-- a front of what is within the limits is within them
pub is_within-front : (front back : List Entry) → is_within (front ++ back) ≡ true → is_within front ≡ true
is_within-front front back e = let lengths = length-append front back in let bytes = sum_by-append (λ m. length m.bytes) front back in grind (arith, nat_tests)

All-front : {X : Type 0} (P : X → Type 0) (xs ys : List X) → All P (xs ++ ys) → All P xs
All-front P [] ys a = All-nil P
All-front P (x ∷ xs) ys a = All-cons P x xs (All-head P x (xs ++ ys) a) (All-front P xs ys (All-tail P x (xs ++ ys) a))

pub members_front : (rule : RuleData) (front back : List (List ℕ)) → AreMembers rule (front ++ back) → AreMembers rule front
members_front rule front back members =
    let parts = map-append entry_of front back in record {
      checked = All-front (IsChecked rule) front back members.checked;
      closed = Follows-front [] (map entry_of front) (map entry_of back) (subst IsClosed parts members.closed);
      within = is_within-front (map entry_of front) (map entry_of back) (ap is_within (sym parts) ∙ members.within);
    }
