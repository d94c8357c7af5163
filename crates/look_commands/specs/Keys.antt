-- What the key of a directory is, and what asking for it comes to.
use Rattle.std.specs.Prelude.{◌≡◌, ◌⊎◌, ℕ, List, [], ◌∷◌, IsTrue, Ok, Err, Option}
use Rattle.bec_disk.specs.Shelf.{ShelfState}
use Rattle.bec_disk.specs.declared.part.Part.TheVariants.{Key, Used}
use Rattle.key_directory.specs.Keys.{ReadsAsKey}
use Rattle.key_directory.specs.Parts.{IsHome, IsUntouched, KeepsAllBut, part_in, reading}
use Rattle.lms_tree.specs.SecretKey.{SecretData, public_key}
use Rattle.outcomes.specs.Comes.{IsShelfFault}
use Rattle.outcomes.specs.Outcome.{Outcome}
use Rattle.outcomes.specs.StoreAnswers.{RefusesKey}
use Rattle.outcomes.specs.Texts.{key_text}
use Rattle.outcomes.specs.declared.refusal.Refusal.{Refusal}
use Rattle.outcomes.specs.declared.refusal.Refusal.TheVariants.{BadKey, NoKey}
use Rattle.schema_verdict.specs.Verdict.{Prints}

-- The outcome is the line of a secret key's public key.
abbrev pub PrintsKeyOf : SecretData → Outcome → Type 0
PrintsKeyOf secret outcome = Prints outcome (key_text (public_key secret))

-- What is answered, by what the two parts of a key read as: they are of a key, whose public key is printed; or there is none, or it is damaged.
pub data KeyAnswer (key used : Option (List ℕ)) (outcome : Outcome) : Type 0 where
  printed : (secret : SecretData) → ReadsAsKey key used secret → PrintsKeyOf secret outcome → KeyAnswer key used outcome
  refused : (refusal : Refusal) → RefusesKey key used refusal → outcome ≡ Err refusal → KeyAnswer key used outcome

-- The public key of some secret key is printed, or there is no key, or it is damaged.
abbrev pub IsKeyEnd : Outcome → Type 0
IsKeyEnd (Ok text) = (secret : SecretData) × PrintsKeyOf secret (Ok text)
IsKeyEnd (Err NoKey) = Unit {0}
IsKeyEnd (Err BadKey) = Unit {0}
IsKeyEnd outcome = ⊥

-- What asking for the key of a directory comes to over a shelf. Both parts of the key are at most read, whatever the outcome; no other part is touched, and every
-- part is put back. Whether the shelf tells what it has or not, a public key is printed or the key is refused, or a fault came in its place.
pub record ShowsKey (dir : List ℕ) (before after : ShelfState) (old new : ℕ) (outcome : Outcome) : Type 0 where
  pub comes : (IsTrue before.tells → KeyAnswer (reading (part_in before dir Key)) (reading (part_in before dir Used)) outcome) ⊎ IsShelfFault old new outcome
  pub ends : IsKeyEnd outcome ⊎ IsShelfFault old new outcome
  pub key_read : IsTrue before.tells → IsUntouched (part_in before dir Key) (part_in after dir Key)
  pub used_read : IsTrue before.tells → IsUntouched (part_in before dir Used) (part_in after dir Used)
  pub others : IsTrue before.tells → KeepsAllBut (Key ∷ Used ∷ []) dir before after
  pub home : IsTrue before.tells → IsHome after
