-- What the errors of layers below are to a record: a fault of it, or want of memory, which alone is want of memory.
use Rattle.std.specs.Prelude.{Option, Some, Result, Ok, Err, alloc_error}
use Rattle.std.specs.declared.alloc.AllocError.{AllocError}
use Rattle.hash_graph.specs.declared.refusal.Refusal.{Refusal}
use Rattle.hash_graph.specs.declared.refusal.Refusal.TheVariants as refusals
use Rattle.update_codec.specs.declared.decode_error.DecodeError.{DecodeError}
use Rattle.update_codec.specs.declared.decode_error.DecodeError.TheVariants as decode_errors
use Rattle.update_check.specs.declared.check_error.CheckFault.TheVariants.{Codec}
use Rattle.update_stream.specs.declared.record_fault.RecordFault.{RecordFault}
use Rattle.update_stream.specs.declared.record_fault.RecordFault.TheVariants.{Check, Lacks, Full}

-- its bytes are not decoded
abbrev pub not_spelled : DecodeError → Result (Option RecordFault) AllocError
not_spelled (decode_errors.Fault fault) = Ok (Some (Check (Codec fault)))
not_spelled decode_errors.Memory = Err alloc_error

-- the graph does not take its update
abbrev pub not_added : Refusal → Result (Option RecordFault) AllocError
not_added (refusals.Lacks id) = Ok (Some (Lacks id))
not_added refusals.Full = Ok (Some Full)
not_added refusals.Memory = Err alloc_error
