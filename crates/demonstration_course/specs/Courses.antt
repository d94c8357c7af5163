-- The course of a demonstration: which updates each of four authors made, and which of them each one's replica holds.
use Rattle.std.specs.Prelude.{◌≡◌, ℕ, ◌+◌, ◌-◌, ◌%◌, ◌/◌, ◌<◌, ◌≤◌, false, List, [], ◌∷◌, ◌++◌, length, map, Contains}
use Rattle.update_check.specs.Signed.{node_of}
use Rattle.update_codec.specs.Parts.{entry_of, id_of, preds_of}
use Rattle.update_model.specs.Graph.{AreHeads, Follows, names}
use Rattle.demonstration_laws.specs.Chains.{IsChain}

-- how many updates an author makes in so many steps of four authors by turns
abbrev pub turns_of : ℕ → ℕ → ℕ
turns_of count author = (count + 3 - author) / 4

-- No two of these updates share an id.
abbrev pub AreApart : List (List ℕ) → Type 0
AreApart made = (m n : List ℕ) → Contains made m → Contains made n → id_of m ≡ id_of n → m ≡ n

-- This is the end of a list.
abbrev pub EndsIn : List (List ℕ) → List (List ℕ) → Type 0
EndsIn all some = (front : List (List ℕ)) × (all ≡ front ++ some)

-- The update is one of those of four authors.
abbrev pub IsAmong : (ℕ → List (List ℕ)) → List ℕ → Type 0
IsAmong chains bytes = (author : ℕ) × (author < 4) × Contains (chains author) bytes

-- all updates of four authors
abbrev pub all_four : (ℕ → List (List ℕ)) → List (List ℕ)
all_four chains = chains 0 ++ (chains 1 ++ (chains 2 ++ chains 3))

-- An author's replica holds all that the author made, and of each other one's updates, which are newest first, the oldest.
pub record HoldsOldest (chains : ℕ → List (List ℕ)) (author : ℕ) (members : List (List ℕ)) : Type 0 where
  pub held : ℕ → List (List ℕ)
  pub oldest : (b : ℕ) → b < 4 → EndsIn (chains b) (held b)
  pub own : held author ≡ chains author
  pub each : (m : List ℕ) → Contains members m → IsAmong held m
  pub all : (m : List ℕ) → IsAmong held m → Contains members m
  pub closed : Follows [] (map entry_of members)

-- An update was made after all that its author's replica held then, its author's older ones among it. Each replica that holds it holds that too.
pub record IsMadeAfter (members : ℕ → List (List ℕ)) (older : List (List ℕ)) (bytes : List ℕ) : Type 0 where
  pub known : List (List ℕ)
  pub heads : AreHeads (map entry_of known) (preds_of bytes)
  pub own : (m : List ℕ) → Contains older m → Contains known m
  pub everywhere : (x : ℕ) → x < 4 → Contains (members x) bytes → (m : List ℕ) → Contains known m → Contains (members x) m

-- After so many steps these are the updates that each author made, newest first, and these the members of each one's replica.
pub record AreInStep (made : List (List ℕ)) (count : ℕ) (chains members : ℕ → List (List ℕ)) : Type 0 where
  pub of : (b : ℕ) → b < 4 → (m : List ℕ) → Contains (chains b) m → Contains made m
  pub long : (b : ℕ) → b < 4 → length (chains b) ≡ turns_of count b
  pub chain : (b : ℕ) → b < 4 → IsChain b (map node_of (chains b))
  pub holds : (x : ℕ) → x < 4 → HoldsOldest chains x (members x)
  pub after : (b : ℕ) → b < 4 → (newer older : List (List ℕ)) (m : List ℕ) → chains b ≡ newer ++ m ∷ older → IsMadeAfter members older m

-- No replica has a member that names the update that its author made last, if that was in one of these steps; and none but its author's holds it, if nobody has met
-- since.
pub record AreApartSince (first met count : ℕ) (chains members : ℕ → List (List ℕ)) : Type 0 where
  pub unnamed : (k : ℕ) → first ≤ k → k < count → (m : List ℕ) (older : List (List ℕ)) → chains (k % 4) ≡ m ∷ older → (x : ℕ) → x < 4 → names (map entry_of (members x)) (id_of m) ≡ false
  pub alone : (k : ℕ) → met ≤ k → k < count → (m : List ℕ) (older : List (List ℕ)) → chains (k % 4) ≡ m ∷ older → (x : ℕ) → x < 4 → Contains (members x) m → x ≡ k % 4

-- The list has all updates of so many authors.
abbrev pub HasAll : (ℕ → List (List ℕ)) → List (List ℕ) → ℕ → Type 0
HasAll chains members reach = (b : ℕ) → b < reach → (m : List ℕ) → Contains (chains b) m → Contains members m
