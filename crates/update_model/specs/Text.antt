-- Texts in rows.
use Rattle.std.specs.Prelude.{ℕ, ◌≤◌, List, length, IsUtf8}
use Rattle.update_model.specs.declared.limits.TheConstants.{MAX_TEXT}

-- UTF-8, and not too long
abbrev pub IsText : List ℕ → Type 0
IsText bytes = (length bytes ≤ MAX_TEXT) × IsUtf8 bytes
