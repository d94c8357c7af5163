-- The rule of the turns, and what each step tells its seat.
-- Word 0 is the next ticket, word 1 the ticket that is served, and word 2 the number of entries. The slot has the value, unless the seat whose ticket is served has taken it.
use Rattle.std.specs.Prelude.{◌≡◌, ◌≢◌, ℕ, ◌+◌, ◌<◌, ◌≤◌, List, [], ◌∷◌, ◌++◌, length, drop, Bool, true, false, Option, Some, None, All}
use Rattle.std.specs.Option.{unwrap_or}
use mathlib.Core.List.{IsPrefix}
use mathlib.Core.Option as maybe
use lib.ListN.{get_elem?}
use Rattle.atomic_table.specs.Table.{State, Me, Step, rest}
use Rattle.turn_lock.specs.Numbers.{AreApart, number_in}
use Rattle.turn_lock.specs.declared.view.View.{View}
use Rattle.turn_lock.specs.declared.view.Stage.{Stage}
use Rattle.turn_lock.specs.declared.view.Stage.TheVariants.{Idle, Waiting, Turn, Holding, Stored, Spent}

module _ {E : Type 0} (maker : E → Option (ℕ × ℕ)) where
  -- every seat number in the list is below n
  abbrev pub MadeBelow : ℕ → List E → Type 0
  MadeBelow n log = All (λ e. (seat act : ℕ) → maker e ≡ Some (seat, act) → seat < n) log

  -- no entry of this seat has a later act
  abbrev pub ActsUpTo : ℕ → ℕ → List E → Type 0
  ActsUpTo seat acts log = All (λ e. (act : ℕ) → maker e ≡ Some (seat, act) → act ≤ acts) log

  -- behind this beginning of the list, no entry is of this seat
  abbrev pub NoneBehind : ℕ → List E → List E → Type 0
  NoneBehind seat seen log = All (λ e. (act : ℕ) → maker e ≢ Some (seat, act)) (drop (length seen) log)

  -- each entry was added by this act of this seat
  abbrev pub MadeBy : ℕ → ℕ → List E → Type 0
  MadeBy seat act new = All (λ e. maker e ≡ Some (seat, act)) new

-- What the rule knows of the seat j. A ticket from `served` up to `next` is of its owner alone, and a number of its bearer.
module _ {E : Type 0} (maker : E → Option (ℕ × ℕ)) (next served : ℕ) (log : List E) (taken : Bool) (owner bearer : ℕ → ℕ) (j : ℕ) where
  abbrev pub HasTicket : View E → Type 0
  HasTicket v = (owner v.ticket ≡ j) × (served ≤ v.ticket) × (v.ticket < next)

  abbrev pub AtStage : View E → Stage → Type 0
  AtStage v Idle = v.acts ≤ served
  AtStage v Waiting = (v.acts ≤ served) × HasTicket v × (v.ticket ≡ served → taken ≡ false)
  AtStage v Turn = (v.acts ≤ served) × HasTicket v × (v.ticket ≡ served) × (taken ≡ false)
  AtStage v Holding = (v.acts ≤ served) × HasTicket v × (v.ticket ≡ served) × (taken ≡ true) × (v.seen ≡ log)
  AtStage v Stored = (v.acts ≤ served + 1) × HasTicket v × (v.ticket ≡ served) × (taken ≡ true) × (v.seen ≡ log)
  AtStage v Spent = Unit {0}

  -- a seat with no number has made no act
  abbrev pub Named : ℕ → Option ℕ → Type 0
  Named acts None = acts ≡ 0
  Named acts (Some n) = (bearer n ≡ j) × (n < next) × ActsUpTo maker n acts log

  pub record Knows (v : View E) : Type 0 where
    pub seen : IsPrefix v.seen log
    pub also : IsPrefix v.also log
    pub named : Named v.acts v.number
    pub own : (seat : ℕ) → v.number ≡ Some seat → NoneBehind maker seat v.seen log
    pub others : All (λ n. (bearer n ≡ j) × (n < next)) v.others
    pub apart : AreApart (number_in v.number ++ v.others)
    pub stage : AtStage v v.stage

-- the seat has drawn a ticket, and has not passed its turn on yet
abbrev pub has_drawn : Stage → Bool
has_drawn Idle = false
has_drawn Waiting = true
has_drawn Turn = true
has_drawn Holding = true
has_drawn Stored = true
has_drawn Spent = false

-- each ticket that is out is with the seat that owns it
abbrev pub AreOwned : {E : Type 0} → ℕ → ℕ → (ℕ → ℕ) → List (View E) → Type 0
AreOwned {E} next served owner views = (t : ℕ) → served ≤ t → t < next → (v : View E) × (get_elem? views (owner t) ≡ maybe.some v) × (has_drawn v.stage ≡ true) × (v.ticket ≡ t)

-- the value lies in the slot, and has the list, or the slot is taken
abbrev pub InPlace : {T E : Type 0} → (T → List E) → List E → List (maybe.Option (Option T)) → Bool → Type 0
InPlace {T} list log homes false = (x : T) × (homes ≡ maybe.some (Some x) ∷ []) × (list x ≡ log)
InPlace {T} list log homes true = homes ≡ maybe.none ∷ []

pub record IsInTurn {T E : Type 0} (list : T → List E) (maker : E → Option (ℕ × ℕ)) (s : State (Option T) (View E)) : Type 0 where
  pub next : ℕ
  pub served : ℕ
  pub log : List E
  pub taken : Bool
  pub owner : ℕ → ℕ
  pub bearer : ℕ → ℕ
  pub words : s.words ≡ next ∷ served ∷ length log ∷ []
  pub order : served ≤ next
  pub busy : taken ≡ true → served < next
  pub place : InPlace list log s.homes taken
  pub makers : MadeBelow maker next log
  pub owned : AreOwned next served owner s.views
  pub each : (j : ℕ) (v : View E) → get_elem? s.views j ≡ maybe.some v → Knows maker next served log taken owner bearer j v

module _ {E : Type 0} where
  abbrev pub newcomer : List E → View E
  newcomer log = record { stage = Idle; ticket = 0; number = None; acts = 0; seen = log; also = []; others = [] }

  abbrev pub spent : View E
  spent = record { stage = Spent; ticket = 0; number = None; acts = 0; seen = []; also = []; others = [] }

  abbrev pub at_stage : Stage → View E → View E
  at_stage stage v = record { stage = stage; ticket = v.ticket; number = v.number; acts = v.acts; seen = v.seen; also = v.also; others = v.others }

  -- the seat draws the ticket n, which is its number where it has none
  abbrev pub drawing : View E → ℕ → View E
  drawing v n = record { stage = Waiting; ticket = n; number = Some (unwrap_or v.number n); acts = v.acts; seen = v.seen; also = v.also; others = v.others }

  abbrev pub holding : View E → List E → View E
  holding v log = record { stage = Holding; ticket = v.ticket; number = v.number; acts = v.acts; seen = log; also = v.also; others = v.others }

  abbrev pub storing : View E → List E → View E
  storing v log = record { stage = Stored; ticket = v.ticket; number = v.number; acts = v.acts + 1; seen = log; also = v.also; others = v.others }

  -- the seat has seen what the other had seen, and has its numbers
  abbrev pub joining : View E → View E → View E
  joining v w = record { stage = v.stage; ticket = v.ticket; number = v.number; acts = v.acts; seen = v.seen; also = w.seen; others = v.others ++ (number_in w.number ++ w.others) }

  abbrev pub longer_by : List E → List E → Bool → List E
  longer_by xs ys true = ys
  longer_by xs ys false = xs

  abbrev pub meeting : View E → Bool → View E
  meeting v b = record { stage = v.stage; ticket = v.ticket; number = v.number; acts = v.acts; seen = longer_by v.seen v.also b; also = []; others = v.others }

abbrev pub Sat : Type 0 → Type 0 → Type 0
Sat S E = Me S (View E)

module _ {S E : Type 0} where
  abbrev pub drew : Step S → Sat S E → ℕ → Sat S E → Type 0
  drew st m r m' = (r ≡ st.first → m' ≡ (drawing m.0 r, m.1)) × (r ≢ st.first → m' ≡ m)

  abbrev pub looked : Step S → Sat S E → ℕ → Sat S E → Type 0
  looked st m r m' = (r ≡ m.0.ticket → (m' ≡ (at_stage Turn m.0, m.1)) × (m.0.acts ≤ r)) × (r ≢ m.0.ticket → m' ≡ m)

  abbrev pub passed : Step S → Sat S E → ℕ → Sat S E → Type 0
  passed st m r m' = m' ≡ (at_stage Idle m.0, rest m.1)

  -- one of the two lists begins the other, and the longer one is kept; the seat's numbers are different ones
  abbrev pub met : Step S → Sat S E → ℕ → Sat S E → Type 0
  met st m r m' = (b : Bool) × (m' ≡ (meeting m.0 b, m.1)) × IsPrefix m.0.seen (longer_by m.0.seen m.0.also b) × IsPrefix m.0.also (longer_by m.0.seen m.0.also b)
      × AreApart (number_in m.0.number ++ m.0.others)

module _ {T E : Type 0} (list : T → List E) where
  abbrev list_of : Option T → List E
  list_of None = []
  list_of (Some x) = list x

  -- the list of the value that lies in the slot that was taken last
  abbrev pub in_hand : List (ℕ × Option T) → List E
  in_hand [] = []
  in_hand (x ∷ xs) = list_of x.1

  -- the value of the slot has a list that begins with what was seen, in which no entry is of a later act of this seat, and behind it none is of this seat
  abbrev pub took : (E → Option (ℕ × ℕ)) → Step (Option T) → Sat (Option T) E → ℕ → Sat (Option T) E → Type 0
  took maker st m r m' = (x : T) × (m' ≡ (holding m.0 (list x), (0, Some x) ∷ m.1)) × IsPrefix m.0.seen (list x)
      × ((seat : ℕ) → m.0.number ≡ Some seat → ActsUpTo maker seat m.0.acts (list x)) × ((seat : ℕ) → m.0.number ≡ Some seat → NoneBehind maker seat m.0.seen (list x))

  -- the seat has seen the list of the value that is to go back into the slot
  abbrev pub stored : Step (Option T) → Sat (Option T) E → ℕ → Sat (Option T) E → Type 0
  stored st m r m' = m' ≡ (storing m.0 (in_hand m.1), m.1)
