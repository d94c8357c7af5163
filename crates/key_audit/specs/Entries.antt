-- The list of the one-time keys that signed two messages.
use Rattle.std.specs.Prelude.{◌≡◌, ◌≢◌, ℕ, List, All, Contains}
use Rattle.std.specs.Cmp.Lexicographic.{slice_cmp}
use Rattle.std.specs.List.Sorted.{IsStrictlySortedBy}
use Rattle.std.specs.Ordering.{nat_cmp, ordering_then}
use Rattle.std.specs.declared.cmp.Ordering.{Ordering}
use Rattle.std.specs.declared.cmp.Ordering.TheVariants.{Less}
use Rattle.update_model.specs.declared.author_key.AuthorKey.{AuthorKey}
use Rattle.update_model.specs.Entry.{id_cmp}
use Rattle.update_codec.specs.Parts.{id_of}
use Rattle.update_codec.specs.Spelling.{author}
use Rattle.key_audit.specs.Doubles.{AreDoubled, ArePair, IsUnderIndex, message_of}
use Rattle.key_audit.specs.declared.doubled.Doubled.{Doubled}

-- entries order by the bytes of the key, and then by the index
abbrev pub doubled_cmp : Doubled → Doubled → Ordering
doubled_cmp a b = ordering_then (slice_cmp nat_cmp (author a.key) (author b.key)) (nat_cmp a.index b.index)

-- An update of a set that has P, and of such the one with the least id.
pub record IsLeast (set P : List ℕ → Type 0) (update : List ℕ) : Type 0 where
  pub member : set update
  pub holds : P update
  pub least : (other : List ℕ) → set other → P other → id_cmp (id_of other) (id_of update) ≢ Less

-- what holds of each update
abbrev pub IsAny : List ℕ → Type 0
IsAny update = Unit {0}

-- One of these updates, by this key under this index.
pub record IsMemberUnder (members : List (List ℕ)) (key : AuthorKey) (index : ℕ) (update : List ℕ) : Type 0 where
  pub member : Contains members update
  pub under : IsUnderIndex key index update

-- An entry names two updates that are doubled under its key and index: of the updates there the one with the least
-- id, and of those among them whose message is not that one's, the one with the least id.
pub record IsEntry (members : List (List ℕ)) (entry : Doubled) : Type 0 where
  pub first : List ℕ
  pub second : List ℕ
  pub first_is : IsLeast (IsMemberUnder members entry.key entry.index) IsAny first
  pub second_is : IsLeast (IsMemberUnder members entry.key entry.index) (λ other. message_of other ≢ message_of first) second
  pub first_id : entry.first ≡ id_of first
  pub second_id : entry.second ≡ id_of second
  pub doubled : AreDoubled first second entry.key entry.index

-- Rising entries of these updates: one for each key and index under which two of them have different messages, and no
-- other.
pub record AreFound (members : List (List ℕ)) (doubles : List Doubled) : Type 0 where
  pub rising : IsStrictlySortedBy doubled_cmp doubles
  pub each : All (IsEntry members) doubles
  pub all : (first second : List ℕ) (key : AuthorKey) (index : ℕ) → Contains members first → Contains members second → ArePair first second key index
      → (entry : Doubled) × Contains doubles entry × (entry.key ≡ key) × (entry.index ≡ index)
