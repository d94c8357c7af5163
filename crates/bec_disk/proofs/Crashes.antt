-- What a crash leaves of the entries of a shelf in memory.
use Rattle.std.proofs.Common.{◌≡◌, ℕ, ◌+◌, ◌<◌, Bool, true, false, List, [], ◌∷◌, ◌++◌, length, take, get_or, refl, sym, ap, subst, Option, Some, cond}
use Rattle.std.proofs.lemmas.List.{take_more}
use Rattle.bec_disk.specs.Left.{AreLeft, IsDiskLeft, IsEntryLeft, IsPartLeft}
use Rattle.bec_disk.specs.Replay.{MemDiskState}
use Rattle.bec_disk.specs.Shelved.{entry_at, is_at}
use Rattle.bec_disk.specs.Slot.{Slot, same_slot}
use Rattle.bec_disk.specs.declared.shelved.Shelved.{Shelved}

-- one entry more
one_more_left : (choice : ℕ) (entries lefts : List Shelved) (entry left : Shelved) → AreLeft choice entries lefts → IsEntryLeft choice entry left → AreLeft choice (entries ++ entry ∷ []) (lefts ++ left ∷ [])
one_more_left choice [] lefts entry left are is = subst (λ (l : List Shelved). AreLeft choice (entry ∷ []) (l ++ left ∷ [])) (sym are) (is, refl)
one_more_left choice (first ∷ entries) [] entry left are is = absurd are
one_more_left choice (first ∷ entries) (other ∷ lefts) entry left are is = (are.0, one_more_left choice entries lefts entry left are.1 is)

-- the next entry
pub next_left : (choice : ℕ) (entries lefts : List Shelved) (i : ℕ) (entry left : Shelved) → i < length entries → entry ≡ get_or entries i entry → AreLeft choice (take i entries) lefts → IsEntryLeft choice entry left
    → AreLeft choice (take (i + 1) entries) (lefts ++ left ∷ [])
next_left choice entries lefts i entry left lt is are one =
    subst (λ (l : List Shelved). AreLeft choice l (lefts ++ left ∷ [])) (sym (take_more entries i entry lt))
    (one_more_left choice (take i entries) lefts (get_or entries i entry) left are (subst (λ (e : Shelved). IsEntryLeft choice e left) is one))

-- the part in a place
pub part_left : (choice : ℕ) (entries lefts : List Shelved) (place : Slot) → AreLeft choice entries lefts → IsPartLeft choice (entry_at entries place) (entry_at lefts place)
part_left choice [] lefts place are = ap (λ (l : List Shelved). entry_at l place) are
part_left choice (entry ∷ entries) [] place are = absurd are
part_left choice (entry ∷ entries) (left ∷ lefts) place are =
    by_test (is_at place entry) (is_at place left) (ap (λ (p : Slot). same_slot p place) are.0.place) (part_left choice entries lefts place are.1)
  where
    by_test : (b b' : Bool) → b' ≡ b → IsPartLeft choice (entry_at entries place) (entry_at lefts place) → IsPartLeft choice (cond b (Some entry) (entry_at entries place)) (cond b' (Some left) (entry_at lefts place))
    by_test true b' e rest = subst (λ (x : Bool). IsPartLeft choice (Some entry) (cond x (Some left) (entry_at lefts place))) (sym e) are.0
    by_test false b' e rest = subst (λ (x : Bool). IsPartLeft choice (entry_at entries place) (cond x (Some left) (entry_at lefts place))) (sym e) rest

-- an entry by its parts
pub entry_left : (choice : ℕ) (old : Shelved) (place : Slot) (disk : Option MemDiskState) → place ≡ old.place → IsDiskLeft choice old.disk disk → IsEntryLeft choice old (record { place = place; disk = disk })
entry_left choice old place disk same left = record { place = same; disk = left }
