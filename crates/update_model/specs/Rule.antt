-- Whose updates a database takes.
use Rattle.std.specs.Prelude.{◌≡◌, ◌⊎◌, ℕ, List, [], Contains}
use Rattle.update_model.specs.declared.author_key.AuthorKey.{AuthorKey}

-- the id of a database, and the authors whose updates it takes
pub record RuleData : Type 0 where
  pub database : List ℕ
  pub authors : List AuthorKey

-- An empty list lists every author, any other one those whose key it has.
abbrev pub IsListed : List AuthorKey → AuthorKey → Type 0
IsListed authors key = (authors ≡ []) ⊎ Contains authors key
