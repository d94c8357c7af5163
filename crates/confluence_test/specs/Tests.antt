-- What the confluence test says of a schema.
use Rattle.std.specs.Prelude.{◌≡◌, false, List, ◌∷◌, ◌++◌, IsTrue}
use Rattle.table_model.specs.declared.counterexample.Counterexample.{Counterexample}
use Rattle.table_model.specs.declared.invariant.Invariant.{Invariant}
use Rattle.table_model.specs.Visible.{Rules}
use Rattle.table_model.specs.Invariants.{Declared, invariants_of}
use Rattle.confluence_laws.specs.Confluence.{accepts, are_accepted}
use Rattle.confluence_laws.specs.Examples.{example_of}
use Rattle.confluence_test.specs.declared.tested.Tested.{Tested}
use Rattle.confluence_test.specs.declared.tested.Tested.TheVariants.{Accepted, Refused}

-- An invariant is the first one that the rule does not accept: all that are declared earlier are accepted.
pub record IsFirstRefused (rules : Rules) (earlier : List Declared) (declared : Declared) : Type 0 where
  pub later : List Declared
  pub split : invariants_of rules ≡ earlier ++ declared ∷ later
  pub accepted : IsTrue (are_accepted rules earlier)
  pub refused : accepts rules declared.claim ≡ false

-- The first one that is not accepted stands in this place, and this is the counterexample that is built for it.
pub record IsRefused (rules : Rules) (which : Invariant) (example : Counterexample) : Type 0 where
  pub earlier : List Declared
  pub declared : Declared
  pub first : IsFirstRefused rules earlier declared
  pub place : which ≡ declared.which
  pub built : example ≡ example_of rules declared.claim

-- A schema is accepted where the rule accepts every invariant, and else its first one that is not accepted is refused.
abbrev pub IsTested : Rules → Tested → Type 0
IsTested rules Accepted = IsTrue (are_accepted rules (invariants_of rules))
IsTested rules (Refused which example) = IsRefused rules which example
