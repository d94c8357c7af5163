-- What reading and writing answer. Want of memory may come at any time, and is left open in each word here.
use Rattle.std.specs.Prelude.{◌≡◌, ℕ, List, Result, Ok, Err}
use Rattle.std.specs.declared.vec.Vec.{Vec}
use Rattle.std.specs.declared.alloc.Global.{Global}
use Rattle.update_codec.specs.declared.codec_fault.CodecFault.{CodecFault}
use Rattle.update_codec.specs.declared.decode_error.DecodeError.{DecodeError}
use Rattle.update_codec.specs.declared.decode_error.DecodeError.TheVariants as decode_errors
use Rattle.update_codec.specs.declared.encode_error.EncodeError.{EncodeError}
use Rattle.update_codec.specs.declared.encode_error.EncodeError.TheVariants as encode_errors
use Rattle.update_codec.specs.Faults.{FirstFault}

-- a call that reads failed as this answer does
abbrev pub Fails : {Y : Type 0} → DecodeError → Result Y CodecFault → Type 0
Fails decode_errors.Memory answer = Unit {0}
Fails (decode_errors.Fault fault) answer = answer ≡ Err fault

-- what a call that reads returned, seen by view, is this answer
abbrev pub Shows : {X Y : Type 0} → (X → Y) → Result X DecodeError → Result Y CodecFault → Type 0
Shows view (Ok x) answer = answer ≡ Ok (view x)
Shows view (Err error) answer = Fails error answer

-- what a call that reads returned is this answer
abbrev pub Answers : {X : Type 0} → Result X DecodeError → Result X CodecFault → Type 0
Answers result answer = Shows (λ x. x) result answer

-- the refusal has its cause in the bytes: its fault is their first one
abbrev pub HasCause : List ℕ → DecodeError → Type 0
HasCause bytes decode_errors.Memory = Unit {0}
HasCause bytes (decode_errors.Fault fault) = FirstFault bytes fault.kind fault.place

-- what a call that writes returned is these bytes
abbrev pub Writes : Result (Vec ℕ Global) EncodeError → List ℕ → Type 0
Writes (Ok out) bytes = out.items ≡ bytes
Writes (Err encode_errors.Memory) bytes = Unit {0}
Writes (Err (encode_errors.TooLong refused)) bytes = ⊥

-- a call that writes refused what would have this many bytes
abbrev pub Refuses : Result (Vec ℕ Global) EncodeError → ℕ → Type 0
Refuses (Ok out) len = ⊥
Refuses (Err encode_errors.Memory) len = Unit {0}
Refuses (Err (encode_errors.TooLong refused)) len = refused.len ≡ len
