-- What a Hello and a Turn say, and how they are spelled.
use Rattle.std.specs.Prelude.{◌≡◌, ◌≤◌, ℕ, Bool, true, false, List, [], ◌∷◌, ◌++◌, length, IsTrue}
use Rattle.std.specs.Int.{Width, w16, w32, to_be_bytes}
use Rattle.std.specs.List.{flat_map, AllByRecursion}
use Rattle.std.specs.List.Sorted.{IsStrictlySortedBy}
use Rattle.update_model.specs.declared.update_id.UpdateId.{UpdateId}
use Rattle.update_model.specs.declared.limits.TheConstants.{MAX_MEMBERS}
use Rattle.update_model.specs.Entry.{id_cmp}
use Rattle.bloom_summary.specs.declared.limits.TheConstants.{MAX_SUMMARY_BYTES}
use Rattle.sync_frames.specs.declared.limits.TheConstants.{MAX_OLD, MAX_NEEDS}

-- how an end greets the other: its database, its node, the heads of what it holds, the heads that it remembers of the
-- other, and the bytes of a summary of what it has had since then
pub record HelloData : Type 0 where
  pub database : List ℕ
  pub node : List ℕ
  pub heads : List UpdateId
  pub old : List UpdateId
  pub filter : List ℕ

-- how a turn ends: whether all heads of the other's Hello are held, and if not, what is asked for
pub record TurnData : Type 0 where
  pub have : Bool
  pub needs : List UpdateId

-- What a Hello keeps: its ids rise, and there are not too many.
pub record IsHello (hello : HelloData) : Type 0 where
  pub few_heads : length hello.heads ≤ MAX_MEMBERS
  pub heads : IsStrictlySortedBy id_cmp hello.heads
  pub few_old : length hello.old ≤ MAX_OLD
  pub old : IsStrictlySortedBy id_cmp hello.old
  pub small : length hello.filter ≤ MAX_SUMMARY_BYTES

-- What a Turn keeps: its ids rise, there are not too many, and there are none where nothing is lacked.
pub record IsTurn (turn : TurnData) : Type 0 where
  pub few : length turn.needs ≤ MAX_NEEDS
  pub rising : IsStrictlySortedBy id_cmp turn.needs
  pub none : IsTrue turn.have → turn.needs ≡ []

-- each id has 32 bytes, as every id has by its type
abbrev pub AreIds : List UpdateId → Type 0
AreIds ids = AllByRecursion (λ id. length id.0 ≡ 32) ids

-- The parts have 32 bytes each, as they have by their types.
pub record HasBlocks (hello : HelloData) : Type 0 where
  pub database : length hello.database ≡ 32
  pub node : length hello.node ≡ 32
  pub heads : AreIds hello.heads
  pub old : AreIds hello.old

-- ids one after the other
abbrev pub spelled_ids : List UpdateId → List ℕ
spelled_ids ids = flat_map (λ id. id.0) ids

-- ids behind their number
abbrev pub counted : Width → List UpdateId → List ℕ
counted w ids = to_be_bytes w (length ids) ++ spelled_ids ids

-- the payload of a Hello: the version, which is 2, the database, the node, the counted heads, the counted old heads, and
-- the filter behind its length
abbrev pub hello_payload : HelloData → List ℕ
hello_payload hello = 2 ∷ (hello.database ++ (hello.node ++ (counted w32 hello.heads ++ (counted w16 hello.old
    ++ (to_be_bytes w32 (length hello.filter) ++ hello.filter)))))

-- a truth value in a byte
abbrev pub flag : Bool → ℕ
flag true = 1
flag false = 0

-- the payload of a Turn: whether all is held, and the counted ids that are asked for
abbrev pub turn_payload : TurnData → List ℕ
turn_payload turn = flag turn.have ∷ counted w16 turn.needs
