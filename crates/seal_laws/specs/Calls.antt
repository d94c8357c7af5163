-- The calls of a two-level key as runs of acts.
use Rattle.std.specs.Prelude.{◌≡◌, ℕ, List, [], ◌∷◌, ◌++◌, Option, Some, None, IfSome, if◌then◌else◌}
use Rattle.std.specs.Str.{bytes_eq}
use Rattle.rand_core.specs.Stream.{Stream}
use Rattle.bec_disk.specs.Shelf.{ShelfState}
use Rattle.update_model.specs.declared.author_key.AuthorKey.{AuthorKey}
use Rattle.lms_tree.specs.SecretKey.{public_key}
use Rattle.key_index.specs.KeyState.{KeyState}
use Rattle.hss_chain.specs.Keys.{key_bytes}
use Rattle.hss_directory.specs.Calls.{RefusesToSign, SealsNone, Signs, not_ready, not_sealed, unjoined, unsigned as seals_unsigned}
use Rattle.hss_directory.specs.Lower.{RefusesLower, VouchesNot, no_memory, no_vouching, refuses_key, top_spent, unsigned, unwritten}
use Rattle.hss_directory.specs.Values.{HssState, IsReadable, IsSpent, LowerState, low_dir}
use Rattle.hss_directory.specs.declared.fault.HssFault.{HssFault}
use Rattle.seal_laws.specs.Acts.{IndexUse}
use Rattle.seal_laws.specs.Worlds.{World}

-- the key of a directory that a lower key is, or another key that is open
abbrev pub held_below : Option LowerState → (List ℕ → Option KeyState) → List ℕ → Option KeyState
held_below None others dir = others dir
held_below (Some lower) others dir = if bytes_eq dir lower.dir then Some lower.key else others dir

-- the key of a directory that a two-level key has, or another key that is open
abbrev pub held_by : Option HssState → (List ℕ → Option KeyState) → List ℕ → Option KeyState
held_by None others dir = others dir
held_by (Some hss) others dir = if bytes_eq dir hss.dir then Some hss.top else held_below hss.lower others dir

-- A shelf, where a two-level key is open or none is, and other keys in other directories.
abbrev pub world_of : ShelfState → Option HssState → (List ℕ → Option KeyState) → World
world_of shelf hss others = record { shelf = shelf; held = held_by hss others }

-- Of these keys none is of the directory or of that of a lower key.
pub record AreElsewhere (others : List ℕ → Option KeyState) (dir : List ℕ) : Type 0 where
  pub top : others dir ≡ None
  pub lowers : (n : ℕ) → others (low_dir dir n) ≡ None

-- A lower key that is spent reads as what a crash might leave of it.
abbrev pub AreSpentReadable : HssState → Type 0
AreSpentReadable hss = IfSome hss.lower (λ lower. IsSpent lower.key → IsReadable lower.key)

-- that an index of the top key signed a lower key
abbrev pub top_use : List ℕ → ℕ → AuthorKey → IndexUse
top_use dir index low = record { dir = dir; index = index; message = key_bytes low }

-- that an index of a lower key signed a message
abbrev pub low_use : LowerState → ℕ → List ℕ → IndexUse
low_use lower index message = record { dir = lower.dir; index = index; message = message }

-- the index of the top key that signed this lower key, where it was made just now
abbrev pub making_uses : Option LowerState → List ℕ → LowerState → List IndexUse
making_uses (Some kept) dir lower = []
making_uses None dir lower = top_use dir lower.index (public_key lower.key.secret) ∷ []

-- the indices by which a seal was signed in this call
abbrev pub sealing_uses : {random left : Stream} {before after : ShelfState} {old new : HssState} {msg seal : List ℕ} → Signs random before old msg seal new after left → List IndexUse
sealing_uses {old = old} {msg = msg} signs = making_uses signs.readies.kept old.dir signs.lower ++ (low_use signs.lower signs.seals.signs.index msg ∷ [])

-- the index of the top key that signed the lower key, although it was not vouched for
abbrev pub unvouched_uses : {random left : Stream} {before after : ShelfState} {dir : List ℕ} {top new : KeyState} {low : AuthorKey} {why : HssFault} → List ℕ
    → VouchesNot random before dir top low why new after left → List IndexUse
unvouched_uses {low = low} dir (unsigned none same) = []
unvouched_uses {low = low} dir (unwritten sig signs why writes) = top_use dir signs.index low ∷ []

-- and where no lower key was made
abbrev pub unmade_uses : {random left : Stream} {before after : ShelfState} {dir : List ℕ} {top new : KeyState} {why : HssFault} → RefusesLower random before dir top why new after left → List IndexUse
unmade_uses (top_spent why spent new after left) = []
unmade_uses (no_memory why new after left) = []
unmade_uses (refuses_key index least opens new) = []
unmade_uses {dir = dir} (no_vouching index key mid done between least takes left vouches puts) = unvouched_uses dir vouches

-- the index of the lower key whose signature is lost
abbrev pub unsealed_uses : {old new : LowerState} {random left : Stream} {msg : List ℕ} {why : HssFault} → SealsNone old random msg why new left → List IndexUse
unsealed_uses (seals_unsigned none now) = []
unsealed_uses {old = old} {msg = msg} (unjoined sig signs is now) = low_use old signs.index msg ∷ []

-- the indices that signed in a call that gave no seal
abbrev pub refused_uses : {random left : Stream} {before after : ShelfState} {old new : HssState} {msg : List ℕ} {why : HssFault} → RefusesToSign random before old msg why new after left → List IndexUse
refused_uses (not_ready refuses) = unmade_uses refuses.refuses
refused_uses {old = old} (not_sealed ready between lower signed readies is_lower seals now) = making_uses readies.kept old.dir lower ++ unsealed_uses seals
