-- What a Make signed, whatever it answered.
use Rattle.std.proofs.Common.{ℕ, List, [], ◌∷◌, length, Result, Ok, Err, refl}
use Rattle.key_index.specs.KeyState.{KeyState}
use Rattle.lms_tree.specs.SecretKey.{public_key}
use Rattle.replica.specs.Making.{HasBody, SignsBody, body_by}
use Rattle.replica.specs.Replicas.{ReplicaState}
use Rattle.replica.specs.Signing.{KeyAfter, SignsAtLeast}
use Rattle.replica.specs.declared.make_fault.MakeFault.{MakeFault}
use Rattle.replica.specs.declared.make_fault.MakeFault.TheVariants.{NotListed, TooManyHeads, Invalid, TooLong, Full, Spent, Taken, DiskFault, Memory}
use Rattle.replica.specs.declared.make_fault.Side.TheVariants.{Key, Log}
use Rattle.update_model.specs.declared.op.Op.{Op}
use Rattle.update_model.specs.declared.update_id.UpdateId.{UpdateId}
use Rattle.world_rules.specs.Happens.{Signs, SignsOne}
use Rattle.world_rules.specs.Worlds.{SignedData}

-- the one signature, where a message was signed
abbrev pub signature_of : ℕ → ℕ → ReplicaState → KeyState → List Op → List UpdateId → ℕ → SignedData
signature_of r event old key ops preds index =
    record { replica = r; index = index; body = body_by old.history (public_key key.secret) preds ops; event = event; held = length old.history.members }

some : (r event : ℕ) (old : ReplicaState) (key new : KeyState) (ops : List Op) → SignsAtLeast key new → HasBody old.history key.secret ops
    → (signs : List SignedData) × SignsOne r event old key ops signs
some r event old key new ops k has =
    (signature_of r event old key ops has.0 k.index ∷ [], record { preds = has.0; index = k.index; after = has.1; least = k.least; form = has.2; is = refl })

-- What a Make signed is what the relation says, in whatever event.
pub signed : (r event : ℕ) (old : ReplicaState) (key new : KeyState) (ops : List Op) (result : Result UpdateId MakeFault) → KeyAfter key result new → SignsBody result old.history key.secret ops
    → (signs : List SignedData) × Signs result r event old key ops signs
signed r event old key new ops (Ok id) k has = some r event old key new ops k has
signed r event old key new ops (Err NotListed) k has = ([], refl)
signed r event old key new ops (Err (TooManyHeads n)) k has = ([], refl)
signed r event old key new ops (Err (Invalid reason operation)) k has = ([], refl)
signed r event old key new ops (Err (TooLong len)) k has = ([], refl)
signed r event old key new ops (Err Full) k has = ([], refl)
signed r event old key new ops (Err Spent) k has = ([], refl)
signed r event old key new ops (Err (Taken id)) k has = some r event old key new ops k has
signed r event old key new ops (Err (DiskFault Key)) k has = ([], refl)
signed r event old key new ops (Err (DiskFault Log)) k has = some r event old key new ops k has
signed r event old key new ops (Err Memory) k has = ([], refl)
