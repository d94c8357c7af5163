-- What a stream of updates is, and where it is refused.
use Rattle.std.specs.Prelude.{◌≡◌, ◌⊎◌, ℕ, ◌+◌, ◌<◌, ◌≤◌, Bool, true, false, List, [], ◌∷◌, ◌++◌, length, map, drop, All, Option, None, Some, if◌then◌else◌}
use Rattle.std.specs.List.{list_any}
use Rattle.bec_bytes.specs.Framed.{HoldsPiece, StandsFirst, StaysWithin, stream_of}
use Rattle.bec_bytes.specs.declared.framed.Framed.TheVariants.{Cut as CutPiece, TooLong as LongPiece}
use Rattle.bec_bytes.specs.declared.read_error.ReadError.{ReadError}
use Rattle.bec_bytes.specs.declared.read_error.ReadError.TheVariants.{Failed, Memory}
use Rattle.update_model.specs.declared.update_id.UpdateId.{UpdateId}
use Rattle.update_model.specs.Entry.{Entry, same_id}
use Rattle.update_model.specs.Graph.{IsClosed, is_within, holds, lacking}
use Rattle.update_model.specs.Rule.{RuleData}
use Rattle.update_codec.specs.Parts.{id_of, entry_of, database_of}
use Rattle.update_codec.specs.declared.limits.TheConstants.{UPDATE_LIMIT}
use Rattle.update_codec.specs.declared.codec_fault.CodecKind.{CodecKind}
use Rattle.update_codec.specs.declared.codec_fault.CodecKind.TheVariants as kinds
use Rattle.update_check.specs.declared.check_error.CheckFault.{CheckFault}
use Rattle.update_check.specs.declared.check_error.CheckFault.TheVariants.{Codec, WrongDatabase, AuthorNotListed, BadSignature}
use Rattle.update_check.specs.Signed.{IsChecked}
use Rattle.update_check.specs.Causes.{IsCause}
use Rattle.update_stream.specs.declared.record_fault.RecordFault.{RecordFault}
use Rattle.update_stream.specs.declared.record_fault.RecordFault.TheVariants.{Check, Lacks, Full}
use Rattle.update_stream.specs.declared.stream.TheConstants.{MAX_RECORDS}

-- one of these records has the id of this one
abbrev pub has_id : List (List ℕ) → List ℕ → Bool
has_id records bytes = list_any (λ other. same_id (id_of bytes) (id_of other)) records

-- of these records, which come after others, those whose id none before has
abbrev pub firsts_after : List (List ℕ) → List (List ℕ) → List (List ℕ)
firsts_after before [] = []
firsts_after before (r ∷ rs) = (if has_id before r then [] else r ∷ []) ++ firsts_after (before ++ r ∷ []) rs

-- the records whose id no earlier one has
abbrev pub firsts : List (List ℕ) → List (List ℕ)
firsts records = firsts_after [] records

-- the graph of a stream's records
abbrev pub graph_of : List (List ℕ) → List Entry
graph_of records = map entry_of (firsts records)

-- The rule under which the records of a stream are checked: the one that is given, or else the database of the
-- first record, with every author listed.
abbrev pub rule_of : Option RuleData → List (List ℕ) → RuleData
rule_of (Some rule) records = rule
rule_of None [] = record { database = []; authors = [] }
rule_of None (first ∷ others) = record { database = database_of first; authors = [] }

-- Checked updates under the stream's rule, whose graph is closed and within the limits, and not too many of them.
pub record AreGood (given : Option RuleData) (records : List (List ℕ)) : Type 0 where
  pub accepted : All (IsChecked (rule_of given records)) records
  pub closed : IsClosed (graph_of records)
  pub within : is_within (graph_of records) ≡ true
  pub few : length records ≤ MAX_RECORDS

-- The input is good records up to its end, and these are the members of their graph.
abbrev pub IsWhole : Option RuleData → List ℕ → List (List ℕ) → Type 0
IsWhole given input members = (records : List (List ℕ)) × AreGood given records × (input ≡ stream_of records) × (members ≡ firsts records)

-- Bytes that begin with no whole record that is as short as an update may be: the input ends in it, and so many bytes of the
-- update came, or the length is too great. The rest is what is left.
pub data IsCut (bytes rest : List ℕ) : CodecKind → ℕ → Type 0 where
  short : (came : ℕ) → StandsFirst UPDATE_LIMIT bytes rest (CutPiece came) → IsCut bytes rest kinds.Short came
  too_long : StandsFirst UPDATE_LIMIT bytes rest LongPiece → IsCut bytes rest kinds.TooLong UPDATE_LIMIT

-- the same, as a fault of a check
abbrev pub IsCutAs : List ℕ → List ℕ → CheckFault → Type 0
IsCutAs bytes rest (Codec fault) = IsCut bytes rest fault.kind fault.place
IsCutAs bytes rest WrongDatabase = ⊥
IsCutAs bytes rest AuthorNotListed = ⊥
IsCutAs bytes rest BadSignature = ⊥

-- The bytes begin with a record that is a checked update, after these records.
pub record BeginsWithUpdate (given : Option RuleData) (records : List (List ℕ)) (bytes r rest : List ℕ) : Type 0 where
  pub begins : HoldsPiece UPDATE_LIMIT bytes r rest
  pub accepted : IsChecked (rule_of given (records ++ r ∷ [])) r

-- The member is new, and this is the first of its predecessors that is not held.
pub record LacksPredecessor (graph : List Entry) (e : Entry) (id : UpdateId) : Type 0 where
  pub new : holds graph e.id ≡ false
  pub first : lacking graph e ≡ Some id

-- The member is new, its predecessors are held, and with it the graph would pass a limit.
pub record PassesLimit (graph : List Entry) (e : Entry) : Type 0 where
  pub new : holds graph e.id ≡ false
  pub preds : lacking graph e ≡ None
  pub over : is_within (graph ++ e ∷ []) ≡ false

-- Why what stands next, after these records, is no record that can be taken: it is cut or no checked update; or it
-- is one, and lacks a predecessor, or would pass a limit. The rest is what is left behind it.
abbrev pub HasFault : Option RuleData → List (List ℕ) → List ℕ → List ℕ → RecordFault → Type 0
HasFault given records bytes rest (Check fault) =
    IsCutAs bytes rest fault ⊎ ((r : List ℕ) × HoldsPiece UPDATE_LIMIT bytes r rest × IsCause (rule_of given (records ++ r ∷ [])) r fault)
HasFault given records bytes rest (Lacks id) =
    (r : List ℕ) × BeginsWithUpdate given records bytes r rest × LacksPredecessor (graph_of records) (entry_of r) id
HasFault given records bytes rest Full =
    (r : List ℕ) × BeginsWithUpdate given records bytes r rest × PassesLimit (graph_of records) (entry_of r)

-- What stands next after these records has this fault, or there are as many records as a stream has at most, and of what
-- follows one byte is read.
abbrev pub IsStop : Option RuleData → List (List ℕ) → List ℕ → List ℕ → RecordFault → Type 0
IsStop given records bytes rest fault =
    ((length records < MAX_RECORDS) × HasFault given records bytes rest fault)
    ⊎ ((length records ≡ MAX_RECORDS) × (0 < length bytes) × (rest ≡ drop 1 bytes) × (fault ≡ Full))

-- The n-th record of the input is the first that is refused. Good records stand before it, and the rest is what is left
-- behind it: of a record that is too long, only its length is read.
abbrev pub IsRefused : Option RuleData → List ℕ → List ℕ → ℕ → RecordFault → Type 0
IsRefused given input rest n fault =
    (records : List (List ℕ)) × ((bytes : List ℕ)
    × AreGood given records × (input ≡ stream_of records ++ bytes) × (n ≡ length records + 1) × IsStop given records bytes rest fault)

-- Behind these records a reading may fail so: memory runs out only where one more may come.
abbrev pub MayFail : ReadError → List (List ℕ) → Type 0
MayFail Failed records = Unit {0}
MayFail Memory records = length records < MAX_RECORDS

-- Good records came, behind which the reading may fail so, and no more was read than the record that stands there.
abbrev pub BreaksOff : Option RuleData → ReadError → List ℕ → List ℕ → Type 0
BreaksOff given error input rest =
    (records : List (List ℕ)) × ((bytes : List ℕ)
    × AreGood given records × (input ≡ stream_of records ++ bytes) × MayFail error records × StaysWithin UPDATE_LIMIT bytes rest)
