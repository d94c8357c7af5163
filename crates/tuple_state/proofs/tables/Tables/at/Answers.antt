use Rattle.std.proofs.Common.{ℕ, Bool, sym, subst}
use Rattle.std.specs.Prelude.{Result, Ok, Err, IfOk}
use Rattle.tuple_state.specs.Past.{IsPastOf}
use Rattle.tuple_state.specs.State.{IsStateOf, State}
use Rattle.tuple_state.proofs.Answering.{answers_then}
use Rattle.tuple_state.proofs.tables.Tables.at.Goals as goal

-- what follows of three facts of a value, where there is one
of_three : {T E : Type 0} (r : Result T E) (P Q R S : T → Type 0) → ((x : T) → P x → Q x → R x → S x) → IfOk r P → IfOk r Q → IfOk r R → IfOk r S
of_three (Ok x) P Q R S f p q h = f x p q h
of_three (Err e) P Q R S f p q h = tt

pub returns : goal.returns
returns g c = record {
  answers = of_three c.new.result _ _ _ _
      (λ at same ancestors position rules nodes node held of.
      answers_then rules nodes node at.tables.now (λ p. g.A.Ancestors.ancestor at.ancestors.now p at.position)
      (subst (λ (s : State). IsStateOf rules nodes s) (sym same) held)
      (subst (λ (q : ℕ → Bool). IsPastOf rules nodes node q) (λ i p. g.A.Ancestors.ancestor (sym ancestors i) p (sym position i)) of))
      c.new.ensures.tables c.new.ensures.ancestors c.new.ensures.position;
}
