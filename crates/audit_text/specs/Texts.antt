-- What is printed of one-time keys that signed two messages.
use Rattle.std.specs.Prelude.{ℕ, List, [], ◌∷◌, ◌++◌, codes}
use Rattle.std.specs.List.{flat_map}
use Rattle.std.specs.Fmt.{decimal}
use Rattle.hex.specs.Hex.{encode_lower}
use Rattle.update_model.specs.declared.author_key.AuthorKey.{AuthorKey}
use Rattle.update_codec.specs.Spelling.{author}
use Rattle.key_audit.specs.declared.doubled.Doubled.{Doubled}

-- the line of an entry: the key in lower-case hexadecimal, the index in decimal digits, and the two ids, apart by one
-- blank each
abbrev pub entry_text : Doubled → List ℕ
entry_text entry =
    encode_lower (author entry.key) ++ (codes " " ++ (decimal entry.index ++ (codes " " ++ (encode_lower entry.first.0 ++ (codes " " ++ (encode_lower entry.second.0 ++ 10 ∷ []))))))

-- the entries, one a line
abbrev pub audit_text : List Doubled → List ℕ
audit_text entries = flat_map entry_text entries

-- the line for a key that signed two messages under an index
abbrev pub doubled_text : AuthorKey → ℕ → List ℕ
doubled_text key index = codes "doubled " ++ (encode_lower (author key) ++ (codes " " ++ (decimal index ++ 10 ∷ [])))
