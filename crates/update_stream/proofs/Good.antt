-- Good records, and one more of them.
use Rattle.std.proofs.Common.{◌≡◌, ℕ, Bool, true, false, ◌<◌, List, [], ◌∷◌, ◌++◌, length, refl, sym, ap, subst, ◌∙◌, length-append, map, All, Option, Some, None, arith}
use Rattle.std.proofs.lemmas.List.Elements.{All-push, All-cons, All-nil, All-from_recursion, recursion_from_All}
use Rattle.std.proofs.lemmas.List.{map-append}
use Rattle.update_model.specs.Rule.{RuleData}
use Rattle.update_model.specs.Graph.{holds, IsNext, IsClosed, is_within}
use Rattle.update_model.proofs.Closed.{Follows-push}
use Rattle.update_codec.specs.Parts.{id_of, entry_of}
use Rattle.std.specs.List.{AllByRecursion}
use Rattle.update_check.specs.Members.{AreMembers}
use Rattle.update_check.specs.Signed.{IsChecked}
use Rattle.update_stream.specs.declared.stream.TheConstants.{MAX_RECORDS}
use Rattle.update_stream.specs.Stream.{firsts, firsts_after, has_id, graph_of, rule_of, AreGood, IsWhole}
use Rattle.update_stream.proofs.Firsts.{firsts-held, firsts-new}

pub AreGood-none : (given : Option RuleData) → AreGood given []
AreGood-none given = record { accepted = All-nil (IsChecked (rule_of given [])); closed = tt; within = refl; few = omega arith }

-- what comes after a record does not change its rule
pub rule_of-longer : (given : Option RuleData) (records : List (List ℕ)) (r : List ℕ) (more : List (List ℕ)) → rule_of given (records ++ r ∷ more) ≡ rule_of given (records ++ r ∷ [])
rule_of-longer (Some rule) records r more = refl
rule_of-longer None [] r more = refl
rule_of-longer None (x ∷ xs) r more = refl

-- Records that are accepted, and one more.
accepted-push : (given : Option RuleData) (records : List (List ℕ)) (r : List ℕ) → All (IsChecked (rule_of given records)) records
    → IsChecked (rule_of given (records ++ r ∷ [])) r → All (IsChecked (rule_of given (records ++ r ∷ []))) (records ++ r ∷ [])
accepted-push (Some rule) records r all next = All-push (IsChecked rule) records r all next
accepted-push None [] r all next = All-cons (IsChecked (rule_of None (r ∷ []))) r [] next (All-nil (IsChecked (rule_of None (r ∷ []))))
accepted-push None (x ∷ xs) r all next = All-push (IsChecked (rule_of None (x ∷ xs))) (x ∷ xs) r all next

pub AreGood-held : (given : Option RuleData) (records : List (List ℕ)) (r : List ℕ) → AreGood given records → IsChecked (rule_of given (records ++ r ∷ [])) r → length records < MAX_RECORDS
    → holds (graph_of records) (id_of r) ≡ true → AreGood given (records ++ r ∷ [])
AreGood-held given records r good accepted few held =
    let same = ap (λ (rs : List (List ℕ)). map entry_of rs) (firsts-held records r held) in
    record {
      accepted = accepted-push given records r good.accepted accepted;
      closed = subst IsClosed (sym same) good.closed;
      within = ap is_within same ∙ good.within;
      few = omega (arith, length-append records (r ∷ []));
    }

pub AreGood-new : (given : Option RuleData) (records : List (List ℕ)) (r : List ℕ) → AreGood given records → IsChecked (rule_of given (records ++ r ∷ [])) r → length records < MAX_RECORDS
    → IsNext (graph_of records) (entry_of r) → is_within (graph_of records ++ entry_of r ∷ []) ≡ true → AreGood given (records ++ r ∷ [])
AreGood-new given records r good accepted few next within =
    let same : graph_of (records ++ r ∷ []) ≡ graph_of records ++ entry_of r ∷ [] =
    ap (λ (rs : List (List ℕ)). map entry_of rs) (firsts-new records r next.new) ∙ map-append entry_of (firsts records) (r ∷ []) in
    record {
      accepted = accepted-push given records r good.accepted accepted;
      closed = subst IsClosed (sym same) (Follows-push [] (graph_of records) (entry_of r) good.closed next);
      within = ap is_within same ∙ within;
      few = omega (arith, length-append records (r ∷ []));
    }

-- whatever holds of each record holds of each member
firsts_each : (P : List ℕ → Type 0) (before records : List (List ℕ)) → AllByRecursion P records → AllByRecursion P (firsts_after before records)
firsts_each P before [] each = tt
firsts_each P before (r ∷ rs) each = by_case (firsts_each P (before ++ r ∷ []) rs each.1) (has_id before r) refl
  where
    by_case : AllByRecursion P (firsts_after (before ++ r ∷ []) rs) → (b : Bool) → has_id before r ≡ b → AllByRecursion P (firsts_after before (r ∷ rs))
    by_case rest true e = rw e rest
    by_case rest false e = rw e (each.0, rest)

pub members_of : (rule : RuleData) (input : List ℕ) (members : List (List ℕ)) → IsWhole (Some rule) input members → AreMembers rule members
members_of rule input members whole =
    let records = whole.0 in
    let good = whole.1 in
    let P : List (List ℕ) → Type 0 = AreMembers rule in
    subst P (sym whole.3) (record {
      checked = All-from_recursion (IsChecked rule) (firsts records) (firsts_each (IsChecked rule) [] records (recursion_from_All (IsChecked rule) records good.accepted));
      closed = good.closed;
      within = good.within;
    })
