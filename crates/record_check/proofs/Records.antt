-- What the check says of records, in two parts and up to the first that is refused.
use Rattle.std.proofs.Common.{◌≡◌, ℕ, List, [], ◌∷◌, ◌++◌, length, map, take, drop, Result, Ok, Err, refl, sym, ap, subst, ◌∙◌, Vec}
use Rattle.std.specs.declared.alloc.Global.{Global}
use Rattle.std.proofs.lemmas.List.{map-append, take-append-drop}
use Rattle.std.proofs.lemmas.List.Elements.{All-cons, All-nil}
use Rattle.update_model.specs.Rule.{RuleData}
use Rattle.std.specs.Prelude.{IfErr, IfOk}
use Rattle.update_check.specs.Causes.{HasCause, IsCause}
use Rattle.update_check.specs.declared.check_error.CheckError.{CheckError}
use Rattle.update_check.specs.declared.check_error.CheckError.TheVariants.{Fault, Memory}
use Rattle.update_check.specs.Signed.{IsChecked}
use Rattle.update_check.specs.declared.check_error.CheckFault.{CheckFault}
use Rattle.record_check.specs.Records.{AreAnswers, IsAnswer, IsCheckedFront, answer_of, bytes_of}

-- what the check says of a record
abbrev pub Said : Type 0
Said = Result (List ℕ) CheckFault

answers_append : (rule : RuleData) (xs ys : List (List ℕ)) (a b : List Said) → AreAnswers rule xs a → AreAnswers rule ys b → AreAnswers rule (xs ++ ys) (a ++ b)
answers_append rule [] ys [] b first next = next
answers_append rule [] ys (x ∷ a) b first next = absurd first
answers_append rule (x ∷ xs) ys [] b first next = absurd first
answers_append rule (x ∷ xs) ys (y ∷ a) b first next = (first.0, answers_append rule xs ys a b first.1 next)

pub bytes_of-append : (xs ys : List (Vec ℕ Global)) → bytes_of (xs ++ ys) ≡ bytes_of xs ++ bytes_of ys
bytes_of-append xs ys = map-append (λ (r : Vec ℕ Global). r.items) xs ys

-- the parts were checked, and the answers of the first stand in front
pub answers_joined : (rule : RuleData) (records low high : List (Vec ℕ Global)) (count : ℕ) (front behind all : List Said) → low ≡ take count records → high ≡ drop count records
    → AreAnswers rule (bytes_of low) front → AreAnswers rule (bytes_of high) behind → all ≡ front ++ behind → AreAnswers rule (bytes_of records) all
answers_joined rule records low high count front behind all is_low is_high first next same =
    subst (AreAnswers rule (bytes_of records)) (sym same)
    (subst (λ (l : List (List ℕ)). AreAnswers rule l (front ++ behind)) (sym two) (answers_append rule (bytes_of low) (bytes_of high) front behind first next))
  where
    two : bytes_of records ≡ bytes_of low ++ bytes_of high
    two = ap bytes_of (sym (take-append-drop count records)) ∙ bytes_of-append (take count records) (drop count records)
        ∙ ap (λ (l : List (Vec ℕ Global)). bytes_of l ++ bytes_of (drop count records)) (sym is_low) ∙ ap (λ (l : List (Vec ℕ Global)). bytes_of low ++ bytes_of l) (sym is_high)

-- one more record, and what the check says of it
pub answers_push : (rule : RuleData) (before : List (Vec ℕ Global)) (r : Vec ℕ Global) (answers all : List Said) (said : Said) → AreAnswers rule (bytes_of before) answers
    → AreAnswers rule (r.items ∷ []) (said ∷ []) → all ≡ answers ++ said ∷ [] → AreAnswers rule (bytes_of (before ++ r ∷ [])) all
answers_push rule before r answers all said first next same =
    subst (AreAnswers rule (bytes_of (before ++ r ∷ []))) (sym same)
    (subst (λ (l : List (List ℕ)). AreAnswers rule l (answers ++ said ∷ [])) (sym (bytes_of-append before (r ∷ []))) (answers_append rule (bytes_of before) (r.items ∷ []) answers (said ∷ []) first next))

-- what a check comes to as an answer is what it says of the record
pub answer_told : (rule : RuleData) (bytes : List ℕ) (checked : Result (List ℕ) CheckError) → IfOk checked (IsChecked rule) → IfOk checked (λ update. update ≡ bytes) → IfErr checked (HasCause rule bytes)
    → IfOk (answer_of checked) (IsAnswer rule bytes)
answer_told rule bytes (Ok update) found same cause = (subst (IsChecked rule) same found, same)
answer_told rule bytes (Err (Fault fault)) found same cause = cause
answer_told rule bytes (Err Memory) found same cause = tt

-- whether a refusal stands first, or nothing
abbrev pub Stops : List Said → Type 0
Stops [] = Unit {0}
Stops (Ok checked ∷ more) = ⊥
Stops (Err fault ∷ more) = Unit {0}

module _ (rule : RuleData) (no_cause : (bytes : List ℕ) (fault : CheckFault) → IsCause rule bytes fault → IsChecked rule bytes → ⊥) where
  refused_at : (records : List (List ℕ)) (rest : List Said) → AreAnswers rule records rest → Stops rest → (r : List ℕ) (more : List (List ℕ)) → records ≡ r ∷ more → IsChecked rule r → ⊥
  refused_at [] rest said stops r more e it = absurd cc
  refused_at (x ∷ records) [] said stops r more e it = said
  refused_at (x ∷ records) (Ok checked ∷ rest) said stops r more e it = stops
  refused_at (x ∷ records) (Err fault ∷ rest) said stops r more e it = no_cause x fault said.0 (subst (IsChecked rule) (sym (ap first_of e)) it)
    where
      first_of : List (List ℕ) → List ℕ
      first_of [] = []
      first_of (l ∷ ls) = l

  -- all answers in front are updates, and then a refusal stands, or nothing
  pub front_of_answers : (records front : List (List ℕ)) (rest : List Said) → AreAnswers rule records (map Ok front ++ rest) → Stops rest → IsCheckedFront rule records front
  front_of_answers records [] rest said stops = record { rest = records; parts = refl; checked = All-nil (IsChecked rule); refused = refused_at records rest said stops }
  front_of_answers [] (x ∷ front) rest said stops = absurd said
  front_of_answers (r ∷ records) (x ∷ front) rest said stops =
      let next = front_of_answers records front rest said.1 stops in
      record {
        rest = next.rest;
        parts = ap (λ (l : List ℕ). l ∷ records) (sym said.0.1) ∙ ap (λ (l : List (List ℕ)). x ∷ l) next.parts;
        checked = All-cons (IsChecked rule) x front (subst (IsChecked rule) (sym said.0.1) said.0.0) next.checked;
        refused = next.refused;
      }
