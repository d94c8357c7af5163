use Rattle.update_codec.proofs.Causes.{body_as_read, never_refused}
use Rattle.update_codec.proofs.decoding.spelled_body.Goals as goal

-- bytes that spell an update have no fault
pub unreachable-requires : goal.unreachable-requires
unreachable-requires c = never_refused c.args.bytes.now c.in-Err-Fault.field-0 c.in-Err-Fault.field-0-0 c.requires c.in-Err-Fault.field-0-is c.in-Err-Fault.ensures

pub returns-in-Ok : goal.returns-in-Ok
returns-in-Ok c = body_as_read c.args.bytes.now c.in-Ok.body c.in-Ok._signature.now c.requires c.in-Ok.ensures
