-- What a reservation does to a key.
use Rattle.std.proofs.Common.{◌≡◌, ℕ, List, Option, Ok, Err, subst, sym, inr}
use Rattle.std.specs.Prelude.{IfErr, MatchOption, Result}
use Rattle.std.specs.Result.{IsErrAnd}
use Rattle.key_index.specs.KeyState.{KeyState}
use Rattle.key_index.specs.Reserving.{Reserves, Tries}
use Rattle.history.specs.Histories.{HistoryData}
use Rattle.replica.specs.Making.{IsAddCause, IsNewCause}
use Rattle.replica.specs.Signing.{KeyAfter, SignsAtLeast}
use Rattle.replica.specs.declared.make_fault.MakeFault.{MakeFault}
use Rattle.replica.specs.declared.make_fault.MakeFault.TheVariants.{NotListed, TooManyHeads, Invalid, TooLong, Full, Spent, Taken, DiskFault, Memory}
use Rattle.replica.specs.declared.make_fault.Side.TheVariants.{Key, Log}

-- one that answers an index is of the least
pub signs_least : (old new : KeyState) (index : ℕ) → Reserves old (Ok index) new → SignsAtLeast old new
signs_least old new index reserves = record {
  index = index;
  least = reserves.least;
  tries = subst (λ (o : Option ℕ). MatchOption o (new ≡ old) (λ i. Tries old i new)) reserves.least reserves.tries;
  reserved = reserves.reserved;
}

-- a key that signed, where what was made was not added
pub signed_in_vain : (T : Type 0) (old new : KeyState) (why : MakeFault) → SignsAtLeast old new → IsAddCause why → KeyAfter {T = T} old (Err why) new
signed_in_vain T old new NotListed signs h = absurd h
signed_in_vain T old new (TooManyHeads n) signs h = absurd h
signed_in_vain T old new (Invalid reason operation) signs h = absurd h
signed_in_vain T old new (TooLong n) signs h = absurd h
signed_in_vain T old new Full signs h = absurd h
signed_in_vain T old new Spent signs h = absurd h
signed_in_vain T old new (Taken id) signs h = absurd h
signed_in_vain T old new (DiskFault Key) signs h = absurd (let e : Key ≡ Log = h in cc)
signed_in_vain T old new (DiskFault Log) signs h = signs
signed_in_vain T old new Memory signs h = inr signs

-- a key that signed, whatever is answered of the bytes then
pub signed_bytes_checked : (T : Type 0) (old new : KeyState) (history : HistoryData) (bytes : List ℕ) (result : Result T MakeFault) → SignsAtLeast old new
    → IfErr result (λ why. IsNewCause history bytes why) → KeyAfter {T = T} old result new
signed_bytes_checked T old new history bytes (Ok made) signs h = signs
signed_bytes_checked T old new history bytes (Err NotListed) signs h = absurd h
signed_bytes_checked T old new history bytes (Err (TooManyHeads n)) signs h = absurd h
signed_bytes_checked T old new history bytes (Err (Invalid reason operation)) signs h = absurd h
signed_bytes_checked T old new history bytes (Err (TooLong n)) signs h = absurd h
signed_bytes_checked T old new history bytes (Err Full) signs h = absurd h
signed_bytes_checked T old new history bytes (Err Spent) signs h = absurd h
signed_bytes_checked T old new history bytes (Err (Taken id)) signs h = signs
signed_bytes_checked T old new history bytes (Err (DiskFault side)) signs h = absurd h
signed_bytes_checked T old new history bytes (Err Memory) signs h = inr signs

-- an error that is handed on says the same of the key
pub key_handed : (T : Type 0) (old new : KeyState) (result : Result T MakeFault) (why : MakeFault) → IsErrAnd result (λ y. y ≡ why) → KeyAfter {T = T} old (Err why) new → KeyAfter {T = T} old result new
key_handed T old new (Ok x) why same is = absurd same
key_handed T old new (Err y) why same is = subst (λ (e : MakeFault). KeyAfter {T = T} old (Err e) new) (sym same) is
