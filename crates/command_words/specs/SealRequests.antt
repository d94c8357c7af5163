-- What the words of a command line ask for about seals, by rules.
use Rattle.std.specs.Prelude.{◌≡◌, ℕ, List, [], ◌∷◌, Option, Some, None, if◌then◌else◌, bytes_eq, codes}
use Rattle.std.specs.List.{list_all}
use Rattle.clap.specs.Words.{App, Text}
use Rattle.hex.specs.Hex.{decode_of}
use Rattle.lm_ots.specs.declared.ots_type.OtsType.{OtsType}
use Rattle.lms_tree.specs.declared.lms_type.LmsType.{LmsType}
use Rattle.lms_tree.specs.declared.lms_type.LmsType.TheVariants.{H5, H10}
use Rattle.text_words.specs.Hexadecimal.{block_of_hex, if_decoded, is_lower_digit}
use Rattle.command_words.specs.Requests.{Takes, directory_app, given, width_of}
use Rattle.command_words.specs.Words.{command_app, needed, position, value}

-- a request about seals, with the word that names a directory, or the bytes of a key and of a signature
pub data SealText : Type 0 where
  hsskey : Text → LmsType → OtsType → SealText
  seal : Text → SealText
  unseal : List ℕ → List ℕ → SealText

-- ---- the arguments of each command

-- hsskey DIR [--height H] [--width W]
abbrev pub hsskey_app : App
hsskey_app = command_app (codes "hsskey") (needed (position (codes "DIR")) ∷ value (codes "height") ∷ value (codes "width") ∷ [])

-- unseal KEY SIG
abbrev pub unseal_app : App
unseal_app = command_app (codes "unseal") (needed (position (codes "KEY")) ∷ needed (position (codes "SIG")) ∷ [])

-- the height of a level that a word writes: 10 where there is none
abbrev pub level_height_of : Option Text → Option LmsType
level_height_of None = Some H10
level_height_of (Some word) =
    if bytes_eq word (codes "5") then Some H5
    else if bytes_eq word (codes "10") then Some H10
    else None

-- the bytes that lower-case digits write, two for each byte
abbrev pub hex_bytes : Text → Option (List ℕ)
hex_bytes word = if list_all is_lower_digit word then if_decoded (decode_of word) else None

-- ---- the rules

-- The words ask for this about seals. A key has 60 bytes.
pub data AsksSeal (words : List Text) : SealText → Type 0 where
  for_hsskey : (directory : Text) (height : LmsType) (width : OtsType) → Takes (codes "hsskey") hsskey_app words
      → given hsskey_app words (codes "DIR") ≡ Some directory → level_height_of (given hsskey_app words (codes "height")) ≡ Some height
      → width_of (given hsskey_app words (codes "width")) ≡ Some width → AsksSeal words (hsskey directory height width)
  for_seal : (directory : Text) → Takes (codes "seal") (directory_app (codes "seal")) words
      → given (directory_app (codes "seal")) words (codes "DIR") ≡ Some directory → AsksSeal words (seal directory)
  for_unseal : (key_word signature_word : Text) (key signature : List ℕ) → Takes (codes "unseal") unseal_app words
      → given unseal_app words (codes "KEY") ≡ Some key_word → block_of_hex 60 key_word ≡ Some key
      → given unseal_app words (codes "SIG") ≡ Some signature_word → hex_bytes signature_word ≡ Some signature → AsksSeal words (unseal key signature)
