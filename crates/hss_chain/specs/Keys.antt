-- Public keys as bytes.
use Rattle.std.specs.Prelude.{ℕ, List, ◌++◌}
use Rattle.std.specs.Int.{w32, to_be_bytes}
use Rattle.update_model.specs.declared.author_key.AuthorKey.{AuthorKey}

-- the bytes of a key: the LMS type, the LM-OTS type, the 16 bytes that name the key, and the root
unfoldable pub key_bytes : AuthorKey → List ℕ
key_bytes key = to_be_bytes w32 key.lms ++ (to_be_bytes w32 key.ots ++ (key.ident ++ key.root))
