-- What contracts see of a seat, and what ties its numbers to what it knows.
use Rattle.std.specs.Prelude.{◌≡◌, ℕ, ◌+◌, ◌^◌, ◌<◌, List, [], ◌∷◌, ◌++◌, Option, Some, None}
use Rattle.atomic_table.specs.Table.{Me}
use Rattle.atomic_table.specs.Seated.{TableId}
use Rattle.turn_lock.specs.Numbers.{number_in}
use Rattle.turn_lock.specs.declared.view.View.{View}
use Rattle.turn_lock.specs.declared.view.Stage.TheVariants.{Idle, Holding}

-- a seat between two turns: its lock, the beginning of the list that it has seen, its number, how many acts it has made, and the numbers of the seats that it has met
pub record Known (E : Type 0) : Type 0 where
  pub lock : TableId
  pub seen : List E
  pub number : Option ℕ
  pub acts : ℕ
  pub others : List ℕ

-- the numbers of a seat and of those that it has met
abbrev pub numbers_of : {E : Type 0} → Known E → List ℕ
numbers_of s = number_in s.number ++ s.others

-- a seat in its turn: the list as it was taken, the seat's number, the number of this act, and the numbers of the seats that it has met
pub record Turning (E : Type 0) : Type 0 where
  pub lock : TableId
  pub taken : List E
  pub seat : ℕ
  pub act : ℕ
  pub others : List ℕ

module _ {T E : Type 0} where
  -- between two turns, with nothing in hand
  pub record IsResting (me : Me (Option T) (View E)) (number : Option ℕ) (acts : ℕ) : Type 0 where
    pub hand_is : me.1 ≡ []
    pub stage_is : me.0.stage ≡ Idle
    pub also_is : me.0.also ≡ []
    pub number_is : me.0.number ≡ number
    pub acts_is : me.0.acts ≡ acts

  -- in its turn, with the empty slot in hand
  pub record IsHolding (me : Me (Option T) (View E)) (number act ticket : ℕ) : Type 0 where
    pub hand_is : me.1 ≡ (0, None) ∷ []
    pub stage_is : me.0.stage ≡ Holding
    pub also_is : me.0.also ≡ []
    pub number_is : me.0.number ≡ Some number
    pub act_is : me.0.acts + 1 ≡ act
    pub ticket_is : me.0.ticket ≡ ticket
    pub ticket_below : ticket < 2 ^ 63
