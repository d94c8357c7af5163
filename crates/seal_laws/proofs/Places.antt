-- One directory and the others.
use Rattle.std.proofs.Common.{◌≡◌, ◌⊎◌, inl, inr, ℕ, List, [], ◌∷◌, sym, subst}
use Rattle.std.specs.Prelude.{◌≢◌}
use Rattle.bec_disk.specs.declared.part.Part.TheVariants.{Key, Used}
use Rattle.bec_disk.specs.Shelf.{ShelfState}
use Rattle.key_directory.specs.Parts.{KeepsAllBut, part_in}
use Rattle.hss_directory.proofs.Places.{else_at, else_key, this_or}

-- what holds of a directory and of each other one holds of all
pub at_each : (here : List ℕ) (P : List ℕ → Type 0) → P here → ((dir : List ℕ) → dir ≢ here → P dir) → (dir : List ℕ) → P dir
at_each here P this others dir = by (this_or here dir)
  where
    by : (here ≡ dir) ⊎ (here ≢ dir) → P dir
    by (inl is) = subst P is this
    by (inr ne) = others dir (λ is. ne (sym is))

-- what is done to the key of a directory leaves those of others alone
pub keys_alone : (before after : ShelfState) (here dir : List ℕ) → KeepsAllBut (Key ∷ Used ∷ []) here before after → dir ≢ here
    → (part_in after dir Key ≡ part_in before dir Key) × (part_in after dir Used ≡ part_in before dir Used)
keys_alone before after here dir keeps ne =
    let away : here ≢ dir = λ is. ne (sym is) in
    let same = else_key here before after keeps in
    (else_at here dir before after Key same away, else_at here dir before after Used same away)
